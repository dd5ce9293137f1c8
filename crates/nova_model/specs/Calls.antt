-- The handler that a call or an exit reaches: of a call the refusals from BAD_CPU on, in their order, and else whether the handler takes it.
use Rattle.std.specs.Prelude.{◌==◌, ◌||◌, Bool, true, false, not, if◌then◌else◌, Option, Some}
use Rattle.nova_model.specs.Numbers.{EcId, CpuId}
use Rattle.nova_range.specs.declared.status.Status.TheVariants.{Timeout, Aborted, BadCpu}
use Rattle.nova_model.specs.Edges.{state_in, cpu_in, is_dead, circle}
use Rattle.nova_model.specs.State.{Contexts}
use Rattle.nova_model.specs.declared.admit.Admit.{Admit}
use Rattle.nova_model.specs.declared.admit.Admit.TheVariants.{Refused, Help, Send}
use Rattle.nova_model.specs.declared.admit.ExitAdmit.{ExitAdmit}
use Rattle.nova_model.specs.declared.admit.ExitAdmit.TheVariants as exit
use Rattle.nova_model.specs.declared.context.State.{State}
use Rattle.nova_model.specs.declared.context.State.TheVariants.{Parked}

-- both are there, on one processor
abbrev pub is_same_cpu : Option CpuId → Option CpuId → Bool
is_same_cpu (Some a) (Some b) = a == b
is_same_cpu other another = false

abbrev pub is_parked : Option State → Bool
is_parked (Some Parked) = true
is_parked other = false

-- BAD_CPU: another processor; ABORTED: the handler is dead, or would wait for its caller; else the call is sent where the handler is parked;
-- TIMEOUT: it is busy, and the caller doesn't wait; else the caller helps
abbrev pub admitted : Contexts → EcId → EcId → Bool → Admit
admitted cs caller handler flag =
    if not (is_same_cpu (cpu_in cs handler) (cpu_in cs caller)) then Refused BadCpu
    else if is_dead (state_in cs handler) || circle cs handler caller then Refused Aborted
    else if is_parked (state_in cs handler) then Send
    else if flag then Refused Timeout
    else Help

-- the exit of an execution context at the handler of its portal: it dies where the handler is on another processor, dead, or would wait for it; else the
-- exit is sent where the handler is parked, and waits where it is busy
abbrev pub exit_admitted : Contexts → EcId → EcId → ExitAdmit
exit_admitted cs ec handler =
    if not (is_same_cpu (cpu_in cs handler) (cpu_in cs ec)) then exit.Dies
    else if is_dead (state_in cs handler) || circle cs handler ec then exit.Dies
    else if is_parked (state_in cs handler) then exit.Sends
    else exit.Waits
