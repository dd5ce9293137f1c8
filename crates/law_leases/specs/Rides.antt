-- Instructions of the context that acts on a processor, one after another, before any turn is charged.
use Rattle.std.specs.Prelude.{◌≡◌, ◌<◌, ℕ, zero, suc, false, length, Option, Some, None, IsSome, option_and_then}
use Rattle.rv_model.specs.Step.{Once, Raised, Went}
use Rattle.nova_model.specs.Choice.{Candidate, choice}
use Rattle.nova_model.specs.Deeds.{instruction, stepped}
use Rattle.nova_model.specs.Edges.{AreEdges}
use Rattle.nova_model.specs.Inputs.{stirred}
use Rattle.nova_model.specs.State.{KernelState, budget_at, context, context_at}
use Rattle.nova_model.specs.declared.budget.Budget.{Budget}
use Rattle.nova_model.specs.declared.context.State.TheVariants.{Ready}
use Rattle.nova_model.specs.declared.deed.Deed.TheVariants.{Steps}

-- an instruction that goes on, with its store counted for each other virtual CPU that could see it
abbrev pub rides_by : KernelState → ℕ → Once → Option KernelState
rides_by k g (Raised reason q0 q1) = None
rides_by k g (Went regs store) = Some (stirred k g Steps (stepped k g (Went regs store)))

abbrev pub ride : ℕ → KernelState → Option KernelState
ride g k = rides_by k g (instruction k g)

-- as many instructions as the number says, that all go on
abbrev pub rides : ℕ → KernelState → ℕ → Option KernelState
rides zero k g = Some k
rides (suc n) k g = option_and_then (ride g) (rides n k g)

-- the context that acts is about to take an instruction, and the chosen scheduling context has this budget
pub record IsRideable (k : KernelState) (cpu : ℕ) (c : Candidate) (b : Budget) : Type 0 where
  pub chosen : choice k cpu ≡ Some c
  pub there : IsSome (context_at k c.actor)
  pub edges : AreEdges k.contexts
  pub ready : (context k c.actor).state ≡ Ready
  pub recall : (context k c.actor).recall ≡ false
  pub budget : budget_at k c.sc ≡ Some b
  pub processor : cpu < length k.stirs.processors
  pub clock : cpu < length k.times.clocks
