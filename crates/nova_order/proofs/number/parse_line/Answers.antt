use Rattle.std.proofs.Common.{rules}
use Rattle.nova_order.proofs.LineLemmas.{block_none}
use Rattle.nova_order.proofs.number.parse_line.Goals as goal

pub returns-in_err-cpu : goal.returns-in_err-cpu
returns-in_err-cpu c = search (rules, block_none c.args.line.now)
