use Rattle.std.proofs.Common.{ap}
use Rattle.std.specs.Prelude.{Option, option_map}
use Rattle.nova_model.specs.Capabilities.{is_vcpu}
use Rattle.nova_model.specs.State.{pd_in}
use Rattle.nova_objects.specs.declared.object.Object.{Object}
use Rattle.law_flow.specs.Examples.{first_domains}
use Rattle.law_flow.proofs.Meeting.{has_guest}
use Rattle.law_guests.proofs.the_premises_are_met_with_a_guest.Goals as goal

pub returns-clause-guest : goal.returns-clause-guest
returns-clause-guest c = ap (option_map is_vcpu) has_guest

pub returns-clause-side : goal.returns-clause-side
returns-clause-side c = ap (λ (o : Option Object). first_domains (pd_in o)) has_guest
