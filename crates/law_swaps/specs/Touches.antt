-- What a turn of a processor touches: which bytes it reads and stores, of which other processors it changes something, and whether it moves memory. And when two turns
-- are apart, so that they may change places.
use Rattle.std.specs.Prelude.{◌≡◌, ℕ, ◌==◌, ◌&&◌, ◌||◌, Bool, true, false, not, List, [], ◌∷◌, map, slice_get, Option, Some, None, IsSome, option_and_then, Contains, if◌then◌else◌}
use Rattle.std.specs.List.{list_any}
use Rattle.rv_model.specs.Registers.{Registers}
use Rattle.rv_model.specs.Step.{Once, Raised, Store, Went, load_fault, one}
use Rattle.nova_range.specs.Rights.{execute_right, read_right, write_right}
use Rattle.nova_model.specs.AddressSpaces.{AddressSpace, frame_for, space, without_loads}
use Rattle.nova_model.specs.Choice.{Candidate, choose, in_front, next_to_act}
use Rattle.nova_model.specs.Deeds.{address_space, deed, instruction}
use Rattle.nova_model.specs.Delegations.{reach}
use Rattle.nova_model.specs.Inputs.{frame_of_store, store_of}
use Rattle.nova_model.specs.Numbers.{CpuId, EcId, FrameNumber, PageNumber, PdId}
use Rattle.nova_model.specs.Runs.{after}
use Rattle.nova_model.specs.State.{KernelState, context, processor_of}
use Rattle.nova_model.specs.Turn.{answer_of, turn}
use Rattle.nova_model.specs.declared.context.EcState.{EcState}
use Rattle.nova_model.specs.declared.context.State.TheVariants.{Ready}
use Rattle.nova_model.specs.declared.deed.Deed.{Deed}
use Rattle.nova_model.specs.declared.deed.Deed.TheVariants.{Steps}
use Rattle.nova_model.specs.declared.event.Event.{Event}
use Rattle.nova_model.specs.declared.new_object.NewObject.{NewObject}
use Rattle.nova_model.specs.declared.new_object.NewObject.TheVariants.{Sc}
use Rattle.nova_model.specs.declared.times.Deadline.{Deadline}
use Rattle.law_forest.specs.Effects.{Effect}
use Rattle.law_forest.specs.Turns.{IsTurning, Turning}
use Rattle.law_alike.specs.Alike.{IsAlike, TellsNoTicks}

-- at most this: the frames of RAM that a turn reads, those that it stores to, the processors other than its own of which it changes something and on which
-- somebody is chosen, whether it changes where pages lead; and whether it is a plain step
pub record Touch : Type 0 where
  pub reads : List FrameNumber
  pub writes : List FrameNumber
  pub meets : List CpuId
  pub moves : Bool
  pub is_plain : Bool

-- WHAT IS READ AND STORED

-- an execution context whose turn is an instruction: it is ready, and no recall comes first
pub record Executes (x : EcState) : Type 0 where
  pub state : x.state ≡ Ready
  pub recall : x.recall ≡ false

abbrev pub HaveSameBytes : List FrameNumber → List (List ℕ) → List (List ℕ) → Type 0
HaveSameBytes frames ram other = (frame : FrameNumber) → Contains frames frame → slice_get other frame ≡ slice_get ram frame

abbrev pub with_ram : KernelState → List (List ℕ) → KernelState
with_ram k ram = record k { memory = record k.memory { ram = ram } }

-- its instruction reads bytes of these frames alone: it comes to the same over any RAM that has the same bytes there
abbrev pub ReadsWithin : KernelState → EcId → List FrameNumber → Type 0
ReadsWithin k ec frames = (ram : List (List ℕ)) → HaveSameBytes frames k.memory.ram ram → instruction (with_ram k ram) ec ≡ instruction k ec

-- the frame that its next instruction is fetched from
abbrev pub frame_fetched : KernelState → EcId → Option FrameNumber
frame_fetched k ec = frame_for (address_space k ec) execute_right (context k ec).regs.pc

abbrev pub frame_missed : AddressSpace → Once → Option FrameNumber
frame_missed a (Raised reason address width) = if reason == load_fault then frame_for a read_right address else None
frame_missed a (Went regs store) = None

-- the frame that it loads from; none where it loads message words, or doesn't load
abbrev pub frame_loaded : KernelState → EcId → Option FrameNumber
frame_loaded k ec = frame_missed (address_space k ec) (one (context k ec).regs (without_loads (space (address_space k ec))))

-- the frames that it reads, at most two; a console's frame may be one of them
abbrev pub frames_read : KernelState → EcId → List FrameNumber
frames_read k ec = in_front (frame_fetched k ec) (in_front (frame_loaded k ec) [])

-- the frame of RAM that a deed stores to
abbrev pub frame_stored_to : KernelState → EcId → Deed → Option FrameNumber
frame_stored_to k ec Steps = option_and_then (frame_of_store k ec) (store_of (instruction k ec))
frame_stored_to k ec other = None

-- WHAT IS CHANGED

-- the execution contexts that an effect changes, and the processor of a scheduling context that it makes
abbrev pub contexts_changed : Effect → List EcId
contexts_changed e = map (λ edit. edit.0) e.edits

abbrev pub processor_given : Option NewObject → Option CpuId
processor_given (Some (Sc ec cpu priority quantum)) = Some cpu
processor_given other = None

-- a processor is one of these, where somebody is chosen on it: one that chooses nobody has no plain step
abbrev pub IsMet : KernelState → List CpuId → CpuId → Type 0
IsMet k processors cpu = IsSome (choose k cpu) → Contains processors cpu

-- of the processors on which somebody is chosen, it changes execution contexts, their message words and their deadlines of these alone, and makes a
-- scheduling context for no other
pub record ChangesWithin (k : KernelState) (e : Effect) (processors : List CpuId) : Type 0 where
  pub contexts : (ec : EcId) → Contains (contexts_changed e) ec → IsMet k processors (processor_of k ec)
  pub words : (ec : EcId) (words : List ℕ) → e.words ≡ Some (ec, words) → IsMet k processors (processor_of k ec)
  pub deadline : (ec : EcId) (until : Option Deadline) → e.deadline ≡ Some (ec, until) → IsMet k processors (processor_of k ec)
  pub made : (cpu : CpuId) → processor_given e.made ≡ Some cpu → IsMet k processors cpu

-- each page of each protection domain leads where it led
abbrev pub LeadAsBefore : KernelState → KernelState → Type 0
LeadAsBefore k new = (domain : PdId) (page : PageNumber) → reach new.delegations.list domain page ≡ reach k.delegations.list domain page

-- A PLAIN STEP

-- nothing is due, and the context that acts does an instruction that goes on, and that stores to no console
pub record IsPlain (k : KernelState) (cpu : CpuId) : Type 0 where
  pub candidate : Candidate
  pub next : next_to_act k cpu ≡ Some candidate
  pub executes : Executes (context k candidate.actor)
  pub regs : Registers
  pub store : Option Store
  pub goes_on : instruction k candidate.actor ≡ Went regs store
  pub no_console : (s : Store) (frame : FrameNumber) → store ≡ Some s → frame_for (address_space k candidate.actor) write_right s.address ≡ Some frame
      → IsSome (slice_get k.memory.ram frame)

-- THE TURN OF A PROCESSOR

-- it touches no more than this
pub record IsTouched (k : KernelState) (cpu : CpuId) (t : Touch) : Type 0 where
  pub reads : (c : Candidate) → next_to_act k cpu ≡ Some c → Executes (context k c.actor) → ReadsWithin k c.actor t.reads
  pub writes : (c : Candidate) (frame : FrameNumber) → next_to_act k cpu ≡ Some c → frame_stored_to k c.actor (deed k c.actor) ≡ Some frame → Contains t.writes frame
  pub meets : (turning : Turning) (e : Event) → IsTurning k cpu turning e → ChangesWithin k turning.effect (cpu ∷ t.meets)
  pub moves : t.moves ≡ false → LeadAsBefore k (after k cpu)
  pub plain : t.is_plain ≡ true → IsPlain k cpu

-- APART

abbrev pub has : List ℕ → ℕ → Bool
has xs x = list_any (λ y. x == y) xs

abbrev pub meet : List ℕ → List ℕ → Bool
meet xs ys = list_any (has ys) xs

-- A plain step of processor `p`, and a turn of another that doesn't change anything of `p`, doesn't move memory, and stores to nothing that the step
-- reads or stores to, nor reads what it stores to.
abbrev pub are_apart : CpuId → Touch → Touch → Bool
are_apart p a b =
    a.is_plain && not (has b.meets p || (b.moves || (meet b.writes a.reads || (meet b.writes a.writes || meet a.writes b.reads))))

-- Two turns change places: the states after both are alike, each touches no more than before, with the same answer, and ticks are told as before.
pub record AreSwapped (k : KernelState) (p q : CpuId) (a b : Touch) : Type 0 where
  pub state : IsAlike (after (after k q) p) (after (after k p) q)
  pub first : IsTouched (after k q) p a
  pub second : IsTouched k q b
  pub first_answer : answer_of (turn (after k q) p) ≡ answer_of (turn k p)
  pub second_answer : answer_of (turn k q) ≡ answer_of (turn (after k p) q)
  pub ticks : TellsNoTicks (after k p) q → TellsNoTicks k q
