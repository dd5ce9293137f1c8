-- Of an entry of the table of execution contexts: what it is about to do, its caller, and its processor.
use Rattle.std.specs.Prelude.{ℕ, Option, option_and_then, option_map}
use Rattle.nova_model.specs.declared.context.EcState.{EcState}
use Rattle.nova_model.specs.declared.context.Mark.{Mark}
use Rattle.nova_model.specs.declared.context.State.{State}

abbrev pub state_at : Option EcState → Option State
state_at o = option_map (λ (x : EcState). x.state) o

abbrev pub caller_at : Option EcState → Option (ℕ × Mark)
caller_at o = option_and_then (λ (x : EcState). x.caller) o

abbrev pub cpu_at : Option EcState → Option ℕ
cpu_at o = option_map (λ (x : EcState). x.cpu) o
