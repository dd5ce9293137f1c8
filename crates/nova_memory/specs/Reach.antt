-- What the kernel's memory shows to the instruction that runs, and what always holds of its delegations.
use Rattle.std.specs.Prelude.{◌≡◌, true, ◌-◌, ℕ, ◌+◌, ◌^◌, ◌≤◌, Bool, List, length, slice_get, if◌then◌else◌, Option, Some, None}
use Rattle.std.specs.List.{AllByRecursion, find}
use Rattle.rv_model.specs.Step.{Store}
use Rattle.nova_range.specs.Rights.{write_right}
use Rattle.nova_range.specs.declared.range.Kind.{Kind}
use Rattle.nova_range.specs.declared.range.Kind.TheVariants.{Mem, Obj}
use Rattle.nova_range.specs.declared.range.Range.{Range}
use Rattle.nova_model.specs.Memory.{Memory}
use Rattle.nova_model.specs.Delegations.{covers, is_memory}
use Rattle.nova_model.specs.AddressSpaces.{AddressSpace, frame_for, space, space_through, after_store, words_after_store}
use Rattle.nova_model.specs.State.{entry, message_in}
use Rattle.nova_model.specs.declared.delegation.Derivation.{Derivation}
use Rattle.nova_nodes.specs.NodesStates.{IsPlaced, NodesState}
use Rattle.nova_messages.specs.Messages.{MessageTable}

-- the derivations, the memory, the message words of all, the execution context that acts, its protection domain, whether it is a thread, the frame that the
-- last store went to, how many consoles there are, and how many more bytes the log takes
pub record ReachState : Type 0 where
  pub nodes : NodesState
  pub memory : Memory
  pub messages : MessageTable
  pub ec : ℕ
  pub pd : ℕ
  pub is_thread : Bool
  pub written : Option ℕ
  pub consoles : ℕ
  pub room : ℕ

-- the message words of the execution context that acts, where it is a thread
abbrev pub own_of : ReachState → Option (List ℕ)
own_of s = if s.is_thread then Some (message_in (entry (slice_get s.messages.items s.ec))) else None

-- what the execution context that acts finds
abbrev pub reached : ReachState → AddressSpace
reached s = space_through s.nodes.delegations.list s.memory s.pd (own_of s)

abbrev pub fetched : ReachState → ℕ → Option ℕ
fetched s = (space (reached s)).fetch

abbrev pub loaded : ReachState → ℕ → ℕ → Option ℕ
loaded s = (space (reached s)).load

abbrev pub takes : ReachState → ℕ → ℕ → Bool
takes s = (space (reached s)).takes

-- pages lead to some of `frames` frames
abbrev pub LeadsToFrames : ℕ → Derivation → Type 0
LeadsToFrames frames d = is_memory d.kind ≡ true → d.target + 2 ^ d.order ≤ frames

-- all do, and the numbers of frames fit a word
pub record LeadToFrames (frames : ℕ) (list : List Derivation) : Type 0 where
  pub few : frames ≤ 2 ^ 32
  pub each : AllByRecursion (LeadsToFrames frames) list

-- a derivation that is found at each place of a space that it covers
pub record IsFound (kind : Kind) (list : List Derivation) (d : Derivation) : Type 0 where
  pub order : d.order ≤ 20
  pub placed : IsPlaced d
  pub always : (pd place : ℕ) → covers kind pd place d ≡ true → find (covers kind pd place) list ≡ Some d

-- the state that a store leaves: what the log grows by is taken from the room
abbrev pub stored : Store → ReachState → ReachState
stored store s = record s {
  memory = after_store (reached s) store s.memory;
  messages = record s.messages { items = words_after_store (reached s) s.ec store s.messages.items };
  written = frame_for (reached s) write_right store.address;
  room = s.room + length s.memory.log - length (after_store (reached s) store s.memory).log;
}

-- a page and a selector, as ranges of one place
abbrev pub page_range : ℕ → Range
page_range page = record { kind = Mem; base = page; order = 0 }

abbrev pub selector_range : ℕ → Range
selector_range selector = record { kind = Obj; base = selector; order = 0 }
