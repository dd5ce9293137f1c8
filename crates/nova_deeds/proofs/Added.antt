-- What the lists show of an object that is added.
use Rattle.std.proofs.Common.{◌≡◌, ℕ, refl}
use Rattle.std.specs.Prelude.{None, option_map, option_and_then}
use Rattle.nova_objects.specs.declared.object.EcKind.{EcKind}
use Rattle.nova_objects.specs.declared.object.EcKind.TheVariants.{Local, Global, Vcpu}
use Rattle.nova_model.specs.Creation.{first_state, context_of}
use Rattle.nova_model.specs.Edges.{edge_of}
use Rattle.nova_model.specs.declared.context.EcState.{EcState}
use Rattle.nova_model.specs.declared.new_object.NewObject.{NewObject}
use Rattle.nova_model.specs.declared.new_object.NewObject.TheVariants as new

-- an execution context that is made waits for no other
waits-for_none : (kind : EcKind) → edge_of (first_state kind) ≡ None
waits-for_none Local = refl
waits-for_none Global = refl
waits-for_none Vcpu = refl

pub made_alone : (number : ℕ) (new : NewObject) → option_and_then edge_of (option_map (λ (x : EcState). x.state) (context_of number new)) ≡ None
made_alone number new.Pd = refl
made_alone number (new.Ec pd cpu kind sp event) = waits-for_none kind
made_alone number (new.Sc ec cpu priority quantum) = refl
made_alone number (new.Pt ec mtd ip) = refl
made_alone number (new.Sm count) = refl

pub ruleset added = (made_alone)
