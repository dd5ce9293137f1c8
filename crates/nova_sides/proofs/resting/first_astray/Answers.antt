use Rattle.std.proofs.Common.{◌≡◌, true, find, get_or}
use Rattle.std.specs.List.{enumerate_from}
use Rattle.law_sides.specs.Resting.{is_astray}
use Rattle.law_sides.proofs.Lists.{numbered_found}
use Rattle.nova_sides.proofs.resting.first_astray.Goals as goal

pub returns-then-is_astray_at : goal.returns-then-is_astray_at
returns-then-is_astray_at c =
    let is : is_astray c.args.kernel.now.state (c.loop-i.i, get_or c.args.labels.now c.loop-i.i 0) ≡ true = cc (c.is_astray_at.ensures, c.object.ensures, c.if-is_astray_at.true) in
    numbered_found (is_astray c.args.kernel.now.state) c.args.labels.now c.loop-i.i 0 c.loop-i-test.true (find (is_astray c.args.kernel.now.state) (enumerate_from 0 c.args.labels.now)) c.loop-i.invariant is
