-- A lease that ran, the states from which it stems, and what a commit answers.
use Rattle.nova_model.specs.Times.{until_due}
use Rattle.law_turns.specs.Moments.{IsEarly}
use Rattle.std.specs.Prelude.{◌≡◌, ◌≤◌, ℕ, ◌==◌, ◌&&◌, Bool, true, false, nat_le, slice_index, Option, Some, None, if◌then◌else◌, min}
use Rattle.nova_model.specs.Choice.{Candidate, choice}
use Rattle.nova_model.specs.State.{KernelState}
use Rattle.nova_model.specs.Views.{view}
use Rattle.nova_model.specs.declared.budget.Budget.{Budget}
use Rattle.law_turns.specs.Stirs.{stirs_of}
use Rattle.law_isolation.specs.Sound.{IsSound}
use Rattle.law_leases.specs.Advances.{IsLeasable}
use Rattle.law_leases.specs.Aims.{IsSingle}
use Rattle.law_leases.specs.Paging.{IsStepping}
use Rattle.law_leases.specs.declared.commit.CommitDone.{CommitDone}
use Rattle.law_leases.specs.declared.commit.CommitDone.TheVariants.{Dropped, Away, NoRoom, Committed}
use Rattle.law_leases.specs.declared.steps.Steps.{Steps}

-- of a processor, for the virtual CPU that acts there: both stir counts, what is left of the quantum, and what was run
pub record LeaseRun : Type 0 where
  pub cpu : ℕ
  pub guest : ℕ
  pub kept : ℕ × ℕ
  pub left : ℕ
  pub steps : Steps

-- both stir counts of a state
abbrev pub number_of : Option ℕ → ℕ
number_of (Some n) = n
number_of None = 0

abbrev pub stirs_now : KernelState → ℕ → ℕ → ℕ × ℕ
stirs_now k g cpu = (number_of (stirs_of k g), slice_index k.stirs.processors cpu)

-- what holds of every state of a kernel
pub record IsReached (k : KernelState) : Type 0 where
  pub sound : IsSound k
  pub single : IsSingle k

-- the turns of `s` may be taken at once on a processor: the context that acts may be leased with this budget, these are its steps, and they are no
-- more than what is left of the quantum, and than what is left until something is due
pub record MayAdvance (k : KernelState) (cpu : ℕ) (s : Steps) : Type 0 where
  pub chosen : Candidate
  pub budget : Budget
  pub may : IsLeasable k cpu chosen budget
  pub left : s.count ≤ budget.left
  pub early : IsEarly k.times cpu s.count
  pub runs : IsStepping (view k chosen.actor) s

-- what is left of the quantum, or the turns that are left until something is due where they are fewer
abbrev pub lesser : ℕ → Option ℕ → ℕ
lesser left None = left
lesser left (Some until) = min left until

-- it could be leased in this state; counts and bound are those of the state; it ran within the bound; and registers, pages and stores are those of
-- the guest after what it ran
pub record Stems (l : LeaseRun) (k : KernelState) : Type 0 where
  pub state : IsReached k
  pub chosen : Candidate
  pub budget : Budget
  pub may : IsLeasable k l.cpu chosen budget
  pub actor : chosen.actor ≡ l.guest
  pub kept : l.kept ≡ stirs_now k l.guest l.cpu
  pub bound : l.left ≡ lesser budget.left (until_due k.times l.cpu)
  pub within : l.steps.count ≤ l.left
  pub runs : IsStepping (view k l.guest) l.steps

-- the answer: the first that holds
abbrev pub by_room : ℕ → ℕ → Bool → CommitDone
by_room count left true = Committed count
by_room count left false = NoRoom left

abbrev pub by_actor : LeaseRun → ℕ → Option Candidate → CommitDone
by_actor l left None = Away 0
by_actor l left (Some c) = if c.actor == l.guest then by_room l.steps.count left (nat_le l.steps.count left) else Away c.actor

abbrev pub same_counts : ℕ × ℕ → ℕ × ℕ → Bool
same_counts a b = (a.0 == b.0) && (a.1 == b.1)

abbrev pub commit_done : KernelState → LeaseRun → ℕ → CommitDone
commit_done k l left =
    if same_counts l.kept (stirs_now k l.guest l.cpu) then by_actor l left (choice k l.cpu) else Dropped l.kept (stirs_now k l.guest l.cpu)

-- what holds of the state that is found where the leased virtual CPU acts again: it may be leased, with room for what was run, and these are its
-- steps
pub record MayCommit (l : KernelState) (lease : LeaseRun) (d : Candidate) (b : Budget) : Type 0 where
  pub state : IsReached l
  pub may : IsLeasable l lease.cpu d b
  pub actor : d.actor ≡ lease.guest
  pub left : lease.steps.count ≤ b.left
  pub early : IsEarly l.times lease.cpu lease.steps.count
  pub runs : IsStepping (view l d.actor) lease.steps

-- a commit that goes through
pub record IsCommitted (l : KernelState) (lease : LeaseRun) (left n : ℕ) : Type 0 where
  pub same : same_counts lease.kept (stirs_now l lease.guest lease.cpu) ≡ true
  pub chosen : Candidate
  pub is : choice l lease.cpu ≡ Some chosen
  pub actor : chosen.actor ≡ lease.guest
  pub count : lease.steps.count ≡ n
  pub room : n ≤ left
