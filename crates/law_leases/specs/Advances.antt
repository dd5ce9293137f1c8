-- Plain steps of the virtual CPU that acts on a processor, one after another, as one change of the kernel's state.
use Rattle.std.specs.Prelude.{◌≡◌, ◌<◌, ℕ, zero, suc, ◌+◌, ◌-◌, ◌==◌, ◌&&◌, Bool, true, false, nat_lt, nat_le, List, [], ◌∷◌, length, filter, replicate, slice_get, slice_index, slice_set, Option, Some, None, is_some, option_map, option_and_then, if◌then◌else◌}
use Rattle.rv_model.specs.Registers.{Registers}
use Rattle.rv_model.specs.Step.{Store, one}
use Rattle.nova_guest.specs.Alone.{alone, applied, guest_space}
use Rattle.nova_guest.specs.Cells.{cell_at}
use Rattle.nova_guest.specs.Frames.{frame_from}
use Rattle.nova_guest.specs.Maps.{page_in}
use Rattle.nova_guest.specs.declared.cell.Cell.{Cell}
use Rattle.nova_guest.specs.declared.guest.Guest.{Guest}
use Rattle.nova_guest.specs.declared.input.Input.TheVariants.{Own}
use Rattle.nova_range.specs.Rights.{write_right}
use Rattle.nova_model.specs.Choice.{Candidate, choice, in_front}
use Rattle.nova_model.specs.Inputs.{is_covered_for, store_of}
use Rattle.nova_model.specs.State.{KernelState, budget_at, context, pd_of, with_ec}
use Rattle.nova_model.specs.Turn.{quantum_in, stamp_after}
use Rattle.nova_model.specs.Views.{view}
use Rattle.nova_model.specs.declared.budget.Budget.{Budget}
use Rattle.nova_model.specs.declared.context.State.TheVariants.{Ready}
use Rattle.nova_model.specs.declared.event.Event.{Event}
use Rattle.nova_model.specs.declared.event.EventKind.TheVariants.{Step}
use Rattle.law_isolation.specs.Sound.{IsVirtual}

-- THE GUEST ALONE

-- the guest after `n` inputs of its own
abbrev pub own_after : ℕ → Guest → Guest
own_after n v = alone v (replicate n Own)

-- the frame with a cell to which its next instruction stores
abbrev pub with_cell : List Cell → ℕ → Option ℕ
with_cell cells frame = if is_some (cell_at cells frame) then Some frame else None

abbrev pub frame_stored_to : Guest → Store → Option ℕ
frame_stored_to v s = option_and_then (with_cell v.cells) (frame_from (page_in v.maps) write_right s.address)

abbrev pub next_frame : Guest → Option ℕ
next_frame v = option_and_then (frame_stored_to v) (store_of (one v.regs (guest_space v.maps v.cells)))

-- the frames to which `n` inputs of its own store, one a store, in order
abbrev pub frames_stored : ℕ → Guest → List ℕ
frames_stored zero v = []
frames_stored (suc n) v = in_front (next_frame v) (frames_stored n (applied v Own).guest)

-- THE KERNEL

-- `n` turns are paid: `n` ticks more, and `n` turns less of what is left. Where nothing is left the quantum begins anew, with the next stamp.
abbrev pub is_used : ℕ → Budget → Bool
is_used n b = nat_lt 0 n && nat_le b.left n

abbrev pub budget_used : Bool → ℕ → ℕ → ℕ → Budget → Budget
budget_used true n quantum stamp b = record { left = quantum; stamp = stamp; ticks = b.ticks + n }
budget_used false n quantum stamp b = record { left = b.left - n; stamp = b.stamp; ticks = b.ticks + n }

-- stores to these frames are counted for each other virtual CPU whose memory leads there
abbrev pub seen_of : KernelState → ℕ → List ℕ → ℕ
seen_of k pd frames = length (filter (is_covered_for k pd) frames)

abbrev pub raised_count : KernelState → ℕ → List ℕ → ℕ → ℕ → ℕ
raised_count k g frames n count = if g == n then count else count + seen_of k (pd_of k n) frames

abbrev pub raised_from : KernelState → ℕ → List ℕ → ℕ → List (Option ℕ) → List (Option ℕ)
raised_from k g frames n [] = []
raised_from k g frames n (count ∷ counts) = option_map (raised_count k g frames n) count ∷ raised_from k g frames (n + 1) counts

-- cells written back over RAM, whose frames are numbered from n on
abbrev pub over : Option (List ℕ) → List ℕ → List ℕ
over (Some bytes) old = bytes
over None old = old

abbrev pub laid_over : ℕ → List Cell → List (List ℕ) → List (List ℕ)
laid_over n cells [] = []
laid_over n cells (b ∷ ram) = over (cell_at cells n) b ∷ laid_over (n + 1) cells ram

-- what n turns change: the registers of an execution context, RAM, the budget of a scheduling context, counts, and a clock
abbrev pub changed_by : KernelState → ℕ → ℕ → ℕ → ℕ → Registers → List (List ℕ) → Budget → ℕ → List (Option ℕ) → KernelState
changed_by k cpu sc g n regs ram b stamp guests = record k {
  contexts = with_ec k.contexts g (record (context k g) { regs = regs });
  memory = record k.memory { ram = ram };
  budgets = slice_set k.budgets sc (Some b);
  next_stamp = stamp;
  turns = k.turns + n;
  stirs = record { guests = guests; processors = slice_set k.stirs.processors cpu (slice_index k.stirs.processors cpu + n) };
  times = record k.times { clocks = slice_set k.times.clocks cpu (slice_index k.times.clocks cpu + n) };
}

-- the same, with the turns paid and the stores counted
abbrev pub advanced_by : KernelState → ℕ → Candidate → Budget → ℕ → Registers → List (List ℕ) → List ℕ → KernelState
advanced_by k cpu c b n regs ram frames = changed_by k cpu c.sc c.actor n regs ram
    (budget_used (is_used n b) n (quantum_in (slice_get k.objects c.sc)) k.next_stamp b) (stamp_after (is_used n b) k.next_stamp)
    (raised_from k c.actor frames 0 k.stirs.guests)

-- the state after `n` inputs of its own of the context that acts
abbrev pub advanced : KernelState → ℕ → Candidate → Budget → ℕ → KernelState
advanced k cpu c b n = advanced_by k cpu c b n (own_after n (view k c.actor)).regs
    (laid_over 0 (own_after n (view k c.actor)).cells k.memory.ram) (frames_stored n (view k c.actor))

-- the event of a plain step of the chosen one
abbrev pub step_of : ℕ → Candidate → Event
step_of cpu c = record { cpu = cpu; sc = c.sc; ec = c.actor; kind = Step; a = 0; b = 0 }

-- where a burst may begin: the context that acts is a virtual CPU that is about to take an instruction, and the chosen scheduling context has this
-- budget
pub record IsLeasable (k : KernelState) (cpu : ℕ) (c : Candidate) (b : Budget) : Type 0 where
  pub chosen : choice k cpu ≡ Some c
  pub guest : IsVirtual k c.actor
  pub ready : (context k c.actor).state ≡ Ready
  pub recall : (context k c.actor).recall ≡ false
  pub budget : budget_at k c.sc ≡ Some b
  pub processor : cpu < length k.stirs.processors
  pub clock : cpu < length k.times.clocks
