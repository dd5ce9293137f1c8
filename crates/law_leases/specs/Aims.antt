-- Edges lead to local threads alone, and so never to a virtual CPU; and an execution context has at most one scheduling context.
use Rattle.std.specs.Prelude.{◌≡◌, ℕ, List, Some}
use Rattle.nova_objects.specs.declared.object.Object.{Object}
use Rattle.nova_model.specs.Capabilities.{is_local}
use Rattle.nova_model.specs.Edges.{edge_of}
use Rattle.nova_model.specs.State.{Contexts, KernelState, ec_of}
use Rattle.nova_model.specs.declared.context.EcState.{EcState}
use Rattle.law_turns.specs.Tables.{IsOf}
use Rattle.law_turns.proofs.Schedules.{AreAlone}

abbrev pub IsAimed : List Object → EcState → Type 0
IsAimed os x = (h : ℕ) → edge_of x.state ≡ Some h → IsOf os is_local h

abbrev pub AreAimed : List Object → Contexts → Type 0
AreAimed os cs = (e : ℕ) → IsAimed os (ec_of cs e)

pub record IsSingle (k : KernelState) : Type 0 where
  pub aimed : AreAimed k.objects k.contexts
  pub alone : AreAlone k.objects k.budgets k.next_stamp
