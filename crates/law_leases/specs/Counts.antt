-- Stir counts that are equal in two states, and what then is the same.
use Rattle.law_turns.specs.Moments.{IsEarly}
use Rattle.std.specs.Prelude.{◌≡◌, ◌<◌, ℕ, length, slice_get, slice_index, Some}
use Rattle.nova_objects.specs.declared.object.Object.TheVariants.{Ec, Sc}
use Rattle.nova_objects.specs.declared.object.EcKind.TheVariants.{Vcpu}
use Rattle.nova_model.specs.State.{KernelState, budget_at}
use Rattle.nova_model.specs.Views.{view}
use Rattle.nova_model.specs.declared.budget.Budget.{Budget}
use Rattle.law_turns.specs.Stirs.{stirs_of}

-- the counts of a virtual CPU and of a processor are equal
pub record IsUnstirred (k l : KernelState) (g cpu : ℕ) : Type 0 where
  pub guest : stirs_of l g ≡ stirs_of k g
  pub processor : slice_index l.stirs.processors cpu ≡ slice_index k.stirs.processors cpu

-- a scheduling context of a processor, with its budget
pub record IsPayer (k : KernelState) (cpu sc ec priority quantum : ℕ) (b : Budget) : Type 0 where
  pub object : slice_get k.objects sc ≡ Some (Sc ec cpu priority quantum)
  pub budget : budget_at k sc ≡ Some b

-- the view of a virtual CPU is the same, scheduling contexts of a processor have the same budgets, and nothing that is to come there has come nearer
pub record IsAsBefore (k l : KernelState) (g cpu : ℕ) : Type 0 where
  pub view : view l g ≡ view k g
  pub payers : (sc ec priority quantum : ℕ) (b : Budget) → IsPayer k cpu sc ec priority quantum b → IsPayer l cpu sc ec priority quantum b
  pub early : (n : ℕ) → IsEarly k.times cpu n → IsEarly l.times cpu n

-- a virtual CPU of a processor, which is there
pub record IsOn (k : KernelState) (g cpu : ℕ) : Type 0 where
  pub pd : ℕ
  pub event : ℕ
  pub object : slice_get k.objects g ≡ Some (Ec pd cpu Vcpu event)
  pub processor : cpu < length k.stirs.processors
