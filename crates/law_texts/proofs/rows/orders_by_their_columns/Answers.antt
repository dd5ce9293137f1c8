use Rattle.std.proofs.Common.{refl}
use Rattle.nova_order.specs.Numbers.{number}
use Rattle.nova_order.specs.Read.{order_of}
use Rattle.nova_order.specs.Text.{block_of}
use Rattle.law_texts.proofs.rows.orders_by_their_columns.Goals as goal

pub returns-clause-blocks : goal.returns-clause-blocks
unfolding order_of block_of number
returns-clause-blocks c = refl

pub returns-clause-processors : goal.returns-clause-processors
unfolding order_of block_of number
returns-clause-processors c = refl
