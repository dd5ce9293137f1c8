use Rattle.std.proofs.Common.{◌-◌, arith}
use Rattle.nova_search.specs.Searches.{states_of}
use Rattle.nova_search.proofs.Open.{one_open}
use Rattle.nova_search.proofs.frontier.Frontier.is_one_at.Goals as goal

pub returns-then-place-ahead : goal.returns-then-place-ahead
returns-then-place-ahead c =
    let behind = c.if-place-ahead.true in
    one_open c.args.merging c.is_one_here.result (states_of c.args.found.now) c.args.ahead (c.args.place - c.args.ahead) c.args.place c.args.vertex.now c.args.self.now
    c.requires.frontier (omega (arith, behind)) c.is_one_here.ensures
