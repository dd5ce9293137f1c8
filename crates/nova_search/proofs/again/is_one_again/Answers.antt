use Rattle.std.proofs.Common.{rules, ◌≡◌}
use Rattle.std.specs.Prelude.{Ok, Some}
use Rattle.nova_search.proofs.Retaken.{again_at, again_one}
use Rattle.nova_search.proofs.again.is_one_again.Goals as goal

pub returns : goal.returns
returns c =
    let ok : c.vertex_at.result ≡ Ok c.in-Ok.again = search rules in
    let some : c.in-Ok.again ≡ Some c.in-Some.again = search rules in
    again_one c.args.merging c.is_one-is.result c.args.found.now c.args.place c.in-Some.again c.args.vertex.now c.requires.place
    (again_at c.args.found.now c.args.place c.vertex_at.result c.in-Ok.again c.in-Some.again c.vertex_at.ensures ok some) c.is_one-is.ensures
