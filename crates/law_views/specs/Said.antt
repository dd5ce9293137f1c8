-- What was done in a turn that is an input of a virtual CPU.
use Rattle.std.specs.Prelude.{◌≡◌, ◌≢◌, ◌<◌, ◌≤◌, ℕ, ◌+◌, ◌%◌, true, false, bit_and, List, length, slice_index, Option, Some}
use Rattle.rv_model.specs.Registers.{Registers}
use Rattle.rv_model.specs.Step.{Store, Went}
use Rattle.nova_guest.specs.Maps.{is_covered}
use Rattle.nova_guest.specs.declared.input.Input.{Input}
use Rattle.nova_guest.specs.declared.input.Input.TheVariants.{Own, Reply, Sent, Died}
use Rattle.law_isolation.specs.Masked.{IsMasked}
use Rattle.nova_model.specs.AddressSpaces.{frame_for}
use Rattle.nova_model.specs.Deeds.{address_space, deed, instruction}
use Rattle.nova_model.specs.Inputs.{contents_of}
use Rattle.nova_model.specs.State.{KernelState, message, pd_of}
use Rattle.nova_model.specs.Views.{view}
use Rattle.nova_model.specs.declared.context.Mark.TheVariants.{Exit}
use Rattle.nova_model.specs.declared.deed.Deed.{Deed}
use Rattle.nova_model.specs.declared.deed.Deed.TheVariants.{Steps, Raises, Dies, Sends, Gives, Removes, Finishes, Replies, Aborts}
use Rattle.nova_model.specs.declared.delegation.Derivation.{Derivation}
use Rattle.nova_model.specs.declared.transfer.ItemEnd.{ItemEnd}
use Rattle.nova_model.specs.declared.transfer.ItemWords.{ItemWords}
use Rattle.nova_model.specs.declared.transfer.Sequel.TheVariants.{Replied}
use Rattle.nova_range.specs.Mtds.{names}
use Rattle.nova_range.specs.Rights.{write_right}
use Rattle.nova_range.specs.declared.mtd.Mtd.{Mtd}
use Rattle.nova_range.specs.declared.mtd.TheConstants.Mtd.{PC, LOW, HIGH}
use Rattle.nova_range.specs.declared.range.Kind.TheVariants.{Mem}
use Rattle.nova_range.specs.declared.rights.Rights.{Rights}
use Rattle.nova_utcb.specs.Messages.{word}

-- its own turn, by its deed: a step or a raise; its exit is sent; its exit ends it, or its handler ended
abbrev pub IsOwnDeed : Input → Deed → Type 0
IsOwnDeed Own Steps = Unit {0}
IsOwnDeed Own (Raises reason q0 q1) = Unit {0}
IsOwnDeed Sent (Sends handler ip identifier mtd reason q0 q1) = Unit {0}
IsOwnDeed Died (Dies reason q0) = Unit {0}
IsOwnDeed Died (Aborts handler mark) = Unit {0}
IsOwnDeed i d = ⊥

-- it acts itself, and so comes this input of it
pub record IsOwnTurn (k : KernelState) (ec g : ℕ) (i : Input) : Type 0 where
  pub itself : ec ≡ g
  pub does : IsOwnDeed i (deed k ec)

-- another executes an instruction whose store its address space takes to a RAM frame that a map of the virtual CPU's view leads to: where in the
-- frame, how many bytes, and the value, as the instruction stores it
pub record Stores (k : KernelState) (ec g frame offset width value : ℕ) : Type 0 where
  pub another : ec ≢ g
  pub regs : Registers
  pub store : Store
  pub steps : deed k ec ≡ Steps
  pub executes : instruction k ec ≡ Went regs (Some store)
  pub leads : frame_for (address_space k ec) write_right store.address ≡ Some frame
  pub ram : frame < length k.memory.ram
  pub covered : is_covered (view k g).maps frame ≡ true
  pub from : offset ≡ store.address % 4096
  pub size : width ≡ store.width
  pub stored : value ≡ store.value

-- it replies to the virtual CPU's exit, and the reply completes: at once, or with the end of its last item
pub data Completes (k : KernelState) (ec g : ℕ) : Type 0 where
  AtOnce : deed k ec ≡ Replies g Exit false → Completes k ec g
  AfterItems : (item : ℕ) (end : ItemEnd) (words : Option ItemWords) → deed k ec ≡ Finishes item end words (Replied g Exit) → Completes k ec g

-- what a reply tells of a message: the groups that word 4 names, but for the qualifications; of each of these the words that the message has of it;
-- and nothing else
pub record TellsOf (m : List ℕ) (mtd : Mtd) (words : List ℕ) : Type 0 where
  pub groups : mtd.0 ≡ bit_and (word m 4) 14
  pub pc : names mtd PC ≡ true → slice_index words 0 ≡ word m 7
  pub low : names mtd LOW ≡ true → (x : ℕ) → 1 ≤ x → x < 16 → slice_index words (x + 1) ≡ word m (x + 8)
  pub high : names mtd HIGH ≡ true → (x : ℕ) → 16 ≤ x → x < 32 → slice_index words (x + 1) ≡ word m (x + 8)
  pub rest : IsMasked mtd words

-- an input is a reply that tells of this message
pub record IsToldReply (i : Option Input) (m : List ℕ) : Type 0 where
  pub mtd : Mtd
  pub words : List ℕ
  pub reply : i ≡ Some (Reply mtd words)
  pub tells : TellsOf m mtd words

-- it completes a reply that tells of its message
pub record Answers (k : KernelState) (ec g : ℕ) (mtd : Mtd) (words : List ℕ) : Type 0 where
  pub completes : Completes k ec g
  pub tells : TellsOf (message k ec) mtd words

-- it makes a memory derivation in the virtual CPU's protection domain, with this range, rights and first frame, and the bytes of its frames
pub record Delegates (k : KernelState) (ec g base order : ℕ) (rights : Rights) (frame : ℕ) (contents : List ℕ) : Type 0 where
  pub child : Derivation
  pub cursor : ℕ
  pub gives : deed k ec ≡ Gives child cursor
  pub kind : child.kind ≡ Mem
  pub domain : child.pd ≡ pd_of k g
  pub from : child.base ≡ base
  pub size : child.order ≡ order
  pub may : child.rights ≡ rights
  pub leads : child.target ≡ frame
  pub bytes : contents ≡ contents_of k.memory.ram frame order

-- it takes a memory derivation of the virtual CPU's protection domain away, with this range
pub record TakesAway (k : KernelState) (ec g base order : ℕ) : Type 0 where
  pub leaf : Derivation
  pub removes : deed k ec ≡ Removes leaf
  pub kind : leaf.kind ≡ Mem
  pub domain : leaf.pd ≡ pd_of k g
  pub from : leaf.base ≡ base
  pub size : leaf.order ≡ order
