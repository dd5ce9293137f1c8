-- What a lease shows, where one may be had, the states from which it stems, and what a commit leaves.
use Rattle.std.specs.Prelude.{◌≡◌, ◌≤◌, ◌<◌, ℕ, ◌-◌, ◌%◌, ◌==◌, ◌&&◌, Bool, true, false, not, nat_le, nat_lt, List, length, replicate, slice_get, Option, Some, None, IsSome, is_some, option_and_then, min, if◌then◌else◌}
use Rattle.std.specs.List.{All}
use Rattle.rv_model.specs.Registers.{Registers}
use Rattle.rv_model.specs.Step.{one}
use Rattle.nova_guest.specs.Alone.{guest_space}
use Rattle.nova_guest.specs.Frames.{frame_from}
use Rattle.nova_guest.specs.declared.guest.Guest.{Guest}
use Rattle.nova_guest.specs.declared.page.Page.{Page as Place}
use Rattle.nova_range.specs.Rights.{execute_right}
use Rattle.nova_model.specs.Choice.{Candidate, choice, next_to_act}
use Rattle.nova_model.specs.Delegations.{reach}
use Rattle.nova_model.specs.Runs.{run, trace}
use Rattle.nova_model.specs.State.{KernelState, context, pd_of}
use Rattle.nova_model.specs.Views.{view}
use Rattle.nova_model.specs.declared.context.EcState.{EcState}
use Rattle.nova_model.specs.declared.context.State.{State}
use Rattle.nova_model.specs.declared.context.State.TheVariants.{Ready}
use Rattle.law_leases.specs.Advances.{step_of}
use Rattle.law_leases.specs.Commits.{LeaseRun, Stems, by_room, same_counts}
use Rattle.law_leases.specs.Leases.{IsOfGuest, LeaseState, copy_at, lease_steps, put_back}
use Rattle.law_leases.specs.Paging.{AreFresh, AreOnce}
use Rattle.law_leases.specs.Stops.{HoldsOfTouched, IsCopiedAt, IsRaise}
use Rattle.law_leases.specs.declared.commit.CommitDone.{CommitDone}
use Rattle.law_leases.specs.declared.commit.CommitDone.TheVariants.{Away, Committed, Dropped}
use Rattle.law_leases.specs.declared.steps.Page.{Page}
use Rattle.law_leases.specs.declared.steps.Steps.{Steps}
pub use Rattle.nova_turn.specs.Homes.{home_of as domain_of_virtual}
use Rattle.nova_burst.specs.Copies.{known_in}
use Rattle.nova_burst.specs.declared.copies.Known.{Known}

-- for which virtual CPU and from what it was made and what was run since, and the pages that it knows
pub record LeaseView : Type 0 where
  pub run : LeaseRun
  pub known : List Known

-- WHERE A LEASE MAY BE HAD

abbrev pub is_ready : State → Bool
is_ready Ready = true
is_ready other = false

-- the registers of a context that is ready, without recall flag
abbrev pub regs_to_step : EcState → Option Registers
regs_to_step x = if is_ready x.state && not x.recall then Some x.regs else None

-- pc is a multiple of 4 and lies in a page with execute
abbrev pub is_at_code : KernelState → ℕ → ℕ → Bool
is_at_code k pd pc = (pc % 4 == 0) && is_some (frame_from (reach k.delegations.list pd) execute_right pc)

abbrev pub has_code : KernelState → Option ℕ → Option Registers → Bool
has_code k (Some pd) (Some regs) = is_at_code k pd regs.pc
has_code k pd regs = false

-- the context that acts is a virtual CPU that is about to take an instruction
abbrev pub is_to_step : KernelState → Option Candidate → Bool
is_to_step k (Some c) = has_code k (domain_of_virtual (slice_get k.objects c.actor)) (regs_to_step (context k c.actor))
is_to_step k None = false

-- nothing is due on a processor, which is there, and it acts next
abbrev pub is_leasable : KernelState → ℕ → Bool
is_leasable k cpu = nat_lt cpu k.cpus && is_to_step k (next_to_act k cpu)

-- how many turns are left of a quantum, and before something is due; none where something is
abbrev pub turns_before : ℕ → Option ℕ → Option ℕ
turns_before left None = Some left
turns_before left (Some until) = if until == 0 then None else Some (min left until)

abbrev pub turns_left : Option ℕ → Option ℕ → Option ℕ
turns_left left until = option_and_then (λ n. turns_before n until) left

-- STATES FROM WHICH A LEASE STEMS

-- registers and copies as they are now
abbrev pub lease_state_of : Steps → LeaseState
lease_state_of s = record { regs = s.regs; pages = s.pages.items }

-- it could be leased there, and what was run is what the guest does there; it knows pages as that guest does; and it was run on copies that were just made there
pub record StemsFrom (l : LeaseView) (k : KernelState) : Type 0 where
  pub processor : l.run.cpu < k.cpus
  pub stems : Stems l.run k
  pub first : List Page
  pub fresh : AreFresh k.memory.ram first
  pub guests : IsOfGuest (known_in l.known) first (view k l.run.guest)
  pub ran : lease_steps (known_in l.known) l.run.steps.count (record { regs = (view k l.run.guest).regs; pages = first }) ≡ Some (lease_state_of l.run.steps)

-- a list of turns leads to this state from one from which the lease stems
pub record ComesAfter (l : LeaseView) (k : KernelState) : Type 0 where
  pub begin : KernelState
  pub stems : StemsFrom l begin
  pub turns : List ℕ
  pub leads : k ≡ run begin turns

-- A LEASE THAT RUNS

-- where pc lies in a page with execute that leads to RAM, the page is known and its frame copied. That of a console is not.
abbrev pub IsCodeCopied : KernelState → ℕ → ℕ → List Page → List Known → Type 0
IsCodeCopied k pd pc pages known = (frame : ℕ) → frame_from (reach k.delegations.list pd) execute_right pc ≡ Some frame → frame < length k.memory.ram →
    IsSome (copy_at pages frame) × (frame_from (known_in known) execute_right pc ≡ Some frame)

-- nothing was run yet; and at most `pages` frames are copied, that of pc among them
pub record IsNew (l : LeaseView) (k : KernelState) (cpu pages : ℕ) : Type 0 where
  pub its_cpu : l.run.cpu ≡ cpu
  pub count : l.run.steps.count ≡ 0
  pub copies : length l.run.steps.pages.items ≤ pages
  pub code : IsCodeCopied k (pd_of k l.run.guest) l.run.steps.regs.pc l.run.steps.pages.items l.known

-- each copy is of a whole frame, and counts no more stores than instructions were executed; and each frame is copied once
abbrev pub AreCounted : ℕ → List Page → Type 0
AreCounted n pages = All (λ (p : Page). (length p.bytes ≡ 4096) × (p.stores ≤ n)) pages × AreOnce pages

-- a run changes the steps alone
pub record IsSameLease (old new : LeaseView) : Type 0 where
  pub cpu : new.run.cpu ≡ old.run.cpu
  pub guest : new.run.guest ≡ old.run.guest
  pub kept : new.run.kept ≡ old.run.kept
  pub left : new.run.left ≡ old.run.left
  pub known : new.known ≡ old.known

-- what is left of the quantum for it
abbrev pub left_in : LeaseView → ℕ
left_in l = l.run.left - l.run.steps.count

-- the next instruction raises, where each page that it touches is copied; v is the guest as it is after what was run. A console's page is never copied.
abbrev pub StopsIn : LeaseView → Guest → Type 0
StopsIn l v = HoldsOfTouched (IsCopiedAt (known_in l.known) l.run.steps.pages.items) v.regs (guest_space v.maps v.cells) → IsRaise (one v.regs (guest_space v.maps v.cells))

abbrev pub MustStop : LeaseView → KernelState → Type 0
MustStop l k = StopsIn l (put_back (view k l.run.guest) (lease_state_of l.run.steps))

-- A COMMIT

-- the answer by both stir counts of now, and by the context that acts
abbrev pub answer_by : LeaseRun → ℕ → Option ℕ → CommitDone
answer_by l left None = Away 0
answer_by l left (Some actor) = if actor == l.guest then by_room l.steps.count left (nat_le l.steps.count left) else Away actor

abbrev pub answer_to : LeaseRun → ℕ → ℕ × ℕ → Option ℕ → CommitDone
answer_to l left now actor = if same_counts l.kept now then answer_by l left actor else Dropped l.kept now

-- the turns that an answer stands for
abbrev pub turns_of : CommitDone → ℕ
turns_of (Committed n) = n
turns_of other = 0

-- `n` turns of the processor led from `old` to `new`, each a plain step that the chosen scheduling context pays
pub record AreItsTurns (old new : KernelState) (cpu n : ℕ) : Type 0 where
  pub state : new ≡ run old (replicate n cpu)
  pub events : (c : Candidate) → choice old cpu ≡ Some c → trace old (replicate n cpu) ≡ replicate n (step_of cpu c)
