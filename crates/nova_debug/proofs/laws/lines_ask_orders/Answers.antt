use Rattle.std.proofs.Common.{refl}
use Rattle.nova_order.specs.Blocks.{turns}
use Rattle.nova_text.specs.Number.{number}
use Rattle.nova_text.specs.Token.{tokens}
use Rattle.nova_debug.proofs.laws.lines_ask_orders.Goals as goal

pub returns : goal.returns
unfolding tokens number turns
returns c = record { turns = refl; merged = refl; empty = refl; odd = refl; none = refl; many = refl; other = refl }
