-- The virtual CPUs that a deed stirs, by what is left after it.
use Rattle.std.specs.Prelude.{ℕ, ◌≤◌, ◌==◌, ◌&&◌, Bool, true, false, nat_lt, length, slice_get, slice_index, Option, Some, None, option_and_then, if◌then◌else◌}
use Rattle.nova_model.specs.AddressSpaces.{frame_for}
use Rattle.nova_range.specs.Rights.{write_right}
use Rattle.rv_model.specs.Step.{Store}
use Rattle.nova_model.specs.Deeds.{address_space, instruction}
use Rattle.nova_model.specs.Inputs.{is_covered_for, store_of}
use Rattle.nova_model.specs.State.{KernelState, entry, pd_of}
use Rattle.nova_model.specs.Views.{is_memory_of}
use Rattle.nova_model.specs.declared.context.Mark.TheVariants as mark
use Rattle.nova_model.specs.declared.deed.Deed.{Deed}
use Rattle.nova_model.specs.declared.deed.Deed.TheVariants.{Steps, Dies, Sends, Recalls, Gives, Removes, Finishes, Replies, Aborts}
use Rattle.nova_model.specs.declared.transfer.Sequel.TheVariants.{Replied}
use Rattle.nova_deeds.specs.StirCounts.{count_in, risen_from}

-- the frame, also of a console, that the instruction of an execution context stores to
abbrev pub frame_at : KernelState → ℕ → Store → Option ℕ
frame_at k ec s = frame_for (address_space k ec) write_right s.address

abbrev pub written_frame : KernelState → ℕ → Option ℕ
written_frame k ec = option_and_then (frame_at k ec) (store_of (instruction k ec))

-- a frame that was stored to is one of RAM, to which the protection domain's memory leads
abbrev pub is_seen : KernelState → ℕ → Option ℕ → Bool
is_seen k pd None = false
is_seen k pd (Some frame) = nat_lt frame (length k.memory.ram) && is_covered_for k pd frame

-- its own deed, or another's, is an input from outside
abbrev pub stirs_itself : Deed → Bool
stirs_itself (Sends handler ip identifier mtd reason q0 q1) = true
stirs_itself (Dies reason q0) = true
stirs_itself (Aborts handler mark) = true
stirs_itself other = false

abbrev pub stirs_other : KernelState → Option ℕ → Deed → ℕ → Bool
stirs_other k written Steps g = is_seen k (pd_of k g) written
stirs_other k written (Recalls whose) g = whose == g
stirs_other k written (Replies caller mark.Exit false) g = caller == g
stirs_other k written (Finishes item end words (Replied caller mark.Exit)) g = caller == g
stirs_other k written (Gives child cursor) g = is_memory_of (pd_of k g) child
stirs_other k written (Removes leaf) g = is_memory_of (pd_of k g) leaf
stirs_other k written other g = false

-- in the state after a deed, where an instruction that went on stored to this frame
abbrev pub is_stirring : KernelState → Option ℕ → ℕ → Deed → ℕ → Bool
is_stirring k written ec d g = if ec == g then stirs_itself d else stirs_other k written d g

-- the state in which the counts of these have risen
abbrev pub risen_in : KernelState → (ℕ → Bool) → KernelState
risen_in k stirs = record k { stirs = record k.stirs { guests = risen_from stirs 0 k.stirs.guests } }

-- a virtual CPU was stirred in no more turns than were taken
abbrev pub IsStirredWithin : ℕ → Option ℕ → Type 0
IsStirredWithin turns (Some count) = count ≤ turns
IsStirredWithin turns None = 0 ≤ turns

-- the stir count of a virtual CPU, and that of a processor
abbrev pub stir_of : KernelState → ℕ → ℕ → ℕ × ℕ
stir_of k ec cpu = (count_in (entry (slice_get k.stirs.guests ec)), slice_index k.stirs.processors cpu)
