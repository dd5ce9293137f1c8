-- What turns are for a virtual CPU, one after another.
use Rattle.std.specs.Prelude.{List, [], ◌∷◌, Option, Some, None}
use Rattle.nova_model.specs.Numbers.{EcId, CpuId}
use Rattle.nova_guest.specs.declared.input.Input.{Input}
use Rattle.nova_model.specs.Choice.{Candidate, in_front, next_to_act}
use Rattle.nova_model.specs.Deeds.{deed}
use Rattle.nova_model.specs.Inputs.{input_of}
use Rattle.nova_model.specs.Runs.{after}
use Rattle.nova_model.specs.State.{KernelState}

-- the turn of a processor, for a virtual CPU that is there; it is nothing where the processor is idle, and where no execution context acts
abbrev pub input_by : KernelState → EcId → Option Candidate → Option Input
input_by k g None = None
input_by k g (Some c) = input_of k c.actor g (deed k c.actor)

unfoldable pub input : KernelState → CpuId → EcId → Option Input
input k cpu g = input_by k g (next_to_act k cpu)

-- the inputs of a list of turns, in order; a turn that is nothing for it has none
abbrev pub inputs : KernelState → List CpuId → EcId → List Input
inputs k [] g = []
inputs k (cpu ∷ cpus) g = in_front (input k cpu g) (inputs (after k cpu) cpus g)
