use Rattle.law_service.proofs.Admitting.{nobody_served}
use Rattle.law_service.proofs.what_comes_by_itself_leaves_a_side_alone.Goals as goal

pub returns : goal.returns
returns c = nobody_served
