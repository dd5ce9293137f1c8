-- Faults that are passed on.
use Rattle.std.proofs.Common.{◌≡◌, Result, Err}
use Rattle.nova_scenario.specs.Fault.{At}
use Rattle.nova_scenario.specs.Read.{IsFault}
use Rattle.nova_scenario.specs.declared.fault.ScenarioFault.{ScenarioFault}
use Rattle.nova_scenario.specs.declared.fault.ScenarioFault.TheVariants.{At as AtLine, Memory}

-- a fault of a part is one of the whole, where the whole has each fault of the part
pub fault_of_whole : {A B : Type 0} (part : Result A At) (whole : Result B At) (fault : ScenarioFault) → ((at : At) → part ≡ Err at → whole ≡ Err at) → IsFault part fault → IsFault whole fault
fault_of_whole part whole (AtLine line why) passes is = passes _ is
fault_of_whole part whole Memory passes is = tt
