use Rattle.std.proofs.Common.{◌^◌, ◌≤◌, arith}
use Rattle.std.proofs.Math.Pow.{pow_mono}
use Rattle.nova_memory.proofs.boot.console_page.Goals as goal

pub returns-clause-few : goal.returns-clause-few
returns-clause-few c = let p : 2 ^ c.args.order ≤ 16384 = pow_mono c.requires.order in let few = c.requires.console in omega arith
