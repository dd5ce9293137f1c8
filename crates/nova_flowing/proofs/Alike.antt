-- A part is the same as itself.
use Rattle.std.proofs.Common.{ℕ, refl}
use Rattle.nova_model.specs.State.{KernelState}
use Rattle.law_flow.specs.Flow.{AreAlike}
use Rattle.law_flow.specs.Processors.{AreTimed}

pub alike_itself : (k : KernelState) (S P : ℕ → Type 0) → AreAlike k k S P
alike_itself k S P = record {
  objects = λ n p. refl;
  fronts = λ n p. refl;
  contexts = λ n p s. refl;
  messages = λ n p s. refl;
  transfers = λ n p s. refl;
  identifiers = λ n p. refl;
  semaphores = λ n p. refl;
  ticks = λ n p. refl;
  deadlines = λ n p. refl;
  spaces = λ kind pd place s. refl;
  origins = λ kind pd place from s t. refl;
  frames = λ pd page to s leads. refl;
  size = refl;
}

pub timed_itself : (k : KernelState) (P C : ℕ → Type 0) → AreTimed k k P C
timed_itself k P C = record {
  clocks = λ cpu c. refl;
  alarms = λ n a at c. at;
  same_alarms = λ n a at c. at;
  left = λ n p. refl;
  order = λ m n p q s t. refl;
}
