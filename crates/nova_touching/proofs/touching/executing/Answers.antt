use Rattle.std.proofs.Common.{◌≡◌, false, rules}
use Rattle.nova_touching.proofs.Taking.{raises_result}
use Rattle.nova_touching.proofs.touching.executing.Goals as goal

pub returns : goal.returns
returns c =
    let off : c.args.sight.now.goes_on ≡ false = search rules in
    raises_result c.args.kernel.now.state c.args.ec c.args.sight.now c.args.actor.now c.in_ok-reads.reads.items c.deciding.result c.requires.sight off c.requires.there c.in_ok-reads.ensures c.deciding.ensures
