use Rattle.law_service.proofs.Strangers.{strangers}
use Rattle.law_service.proofs.strangers_leave_a_side_alone.Goals as goal

pub returns : goal.returns
returns c = λ s turns S P cpu ec side there acts_ stranger. strangers s turns S P cpu ec side there acts_ stranger
