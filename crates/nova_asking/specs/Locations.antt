-- Which instructions processors are about to execute.
use Rattle.std.specs.Prelude.{ℕ, ◌==◌, ◌&&◌, Bool, false, not, Option, Some, None, option_map, slice_get}
use Rattle.std.specs.List.{list_any, range_with_len}
use Rattle.nova_model.specs.Choice.{Candidate, next_to_act}
use Rattle.nova_model.specs.State.{KernelState, context_at}
use Rattle.nova_model.specs.declared.context.EcState.{EcState}
use Rattle.nova_objects.specs.declared.object.Object.{Object}
use Rattle.nova_objects.specs.declared.object.Object.TheVariants.{Ec}
use Rattle.nova_deeds.specs.Acts.{is_executing}
use Rattle.nova_asking.specs.declared.question.Location.{Location}

-- an execution context is about to execute the instruction at an address
abbrev pub is_going : EcState → ℕ → Bool
is_going x address = is_executing x && (x.regs.pc == address)

-- it is of a protection domain
abbrev pub is_of : Option Object → ℕ → Bool
is_of (Some (Ec its_pd cpu kind event)) pd = its_pd == pd
is_of other pd = false

abbrev pub is_in : KernelState → ℕ → ℕ → Bool
is_in k ec pd = is_of (slice_get k.objects ec) pd

abbrev pub is_there_by : KernelState → Location → ℕ → Option EcState → Bool
is_there_by k location ec (Some x) = is_going x location.address && is_in k ec location.pd
is_there_by k location ec None = false

abbrev pub is_there : KernelState → Location → ℕ → Bool
is_there k location ec = is_there_by k location ec (context_at k ec)

abbrev pub is_at_by : KernelState → Location → Option ℕ → Bool
is_at_by k location (Some ec) = is_there k location ec
is_at_by k location None = false

-- the execution context that acts in a processor's next turn; nobody does where something is due first
abbrev pub next_actor : KernelState → ℕ → Option ℕ
next_actor k cpu = option_map (λ (c : Candidate). c.actor) (next_to_act k cpu)

-- a processor is at a location: its next turn is the instruction there
abbrev pub is_at : KernelState → Location → ℕ → Bool
is_at k location cpu = is_at_by k location (next_actor k cpu)

-- some processor is; one but this; two, each at its own
abbrev pub some_is_at : KernelState → Location → Bool
some_is_at k location = list_any (is_at k location) (range_with_len 0 k.cpus)

abbrev pub another_is_at : KernelState → Location → ℕ → Bool
another_is_at k location cpu = list_any (λ (other : ℕ). not (other == cpu) && is_at k location other) (range_with_len 0 k.cpus)

abbrev pub two_are_at : KernelState → Location → Location → Bool
two_are_at k first second = list_any (λ (cpu : ℕ). is_at k first cpu && another_is_at k second cpu) (range_with_len 0 k.cpus)
