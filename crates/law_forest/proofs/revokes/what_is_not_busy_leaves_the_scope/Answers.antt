use Rattle.law_forest.proofs.Busy.{busy_whatever_rights}
use Rattle.law_forest.proofs.Courses.{idle_same}
use Rattle.law_forest.proofs.revokes.what_is_not_busy_leaves_the_scope.Goals as goal

pub returns : goal.returns
returns c = record { same = idle_same; rights = busy_whatever_rights }
