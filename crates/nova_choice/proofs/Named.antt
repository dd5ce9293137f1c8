-- An execution context that may have a scheduling context is of a processor.
use Rattle.std.proofs.Common.{◌≡◌, refl}
use Rattle.std.specs.Prelude.{true, Option, Some, None, option_map}
use Rattle.nova_model.specs.Capabilities.{is_schedulable}
use Rattle.nova_model.specs.State.{processor_in}
use Rattle.nova_objects.specs.declared.object.EcKind.TheVariants.{Local, Global, Vcpu}
use Rattle.nova_objects.specs.declared.object.Object.{Object}
use Rattle.nova_objects.specs.declared.object.Object.TheVariants.{Pd, Ec, Sc, Pt, Sm}
use Rattle.nova_choice.specs.Schedules.{processor_at}

pub placed_there : (o : Option Object) → option_map is_schedulable o ≡ Some true → processor_at o ≡ Some (processor_in o)
placed_there None h = absurd cc
placed_there (Some (Ec pd cpu Local event)) h = absurd cc
placed_there (Some (Ec pd cpu Global event)) h = refl
placed_there (Some (Ec pd cpu Vcpu event)) h = refl
placed_there (Some Pd) h = absurd cc
placed_there (Some (Sc ec cpu priority quantum)) h = absurd cc
placed_there (Some (Pt ec mtd ip)) h = absurd cc
placed_there (Some Sm) h = absurd cc
