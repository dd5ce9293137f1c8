use Rattle.std.proofs.Common.{◌≡◌, drop}
use Rattle.nova_flowing.specs.Deriving.{made_by}
use Rattle.nova_flowing.specs.Leaks.{first_some}
use Rattle.nova_flowing.specs.Tests.{is_in}
use Rattle.nova_flowing.proofs.made.first_made.Given as goal

abbrev pub invariant-loop-d : goal.invariant-loop-d
invariant-loop-d l = first_some (made_by l.list (is_in l.own)) (drop l.d-index l.list) ≡ first_some (made_by l.list (is_in l.own)) l.list
