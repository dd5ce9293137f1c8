use Rattle.nova_order.proofs.OrderLemmas.{written_is_read}
use Rattle.nova_order.proofs.laws.what_is_written_is_read_back.Goals as goal

pub returns : goal.returns
returns c = written_is_read
