use Rattle.law_forest.proofs.Courses.{course_kept}
use Rattle.law_forest.proofs.revokes.a_revoke_comes_to_its_end.Goals as goal

pub returns : goal.returns
returns c = course_kept
