use Rattle.std.proofs.Common.{◌<◌, length, arith}
use Rattle.nova_search.proofs.Open.{one_here}
use Rattle.nova_search.proofs.frontier.Frontier.is_one_here.Goals as goal

pub returns : goal.returns
returns c =
    let test = c.if-place-len.false in
    let len = c.len.ensures in
    let less : c.args.place < length c.args.self.now = omega (arith, test, len) in
    one_here c.args.merging c.is_one.result c.args.self.now c.args.place c.vertex.result.now c.args.vertex.now less c.vertex.ensures c.is_one.ensures
