use Rattle.nova_order.proofs.OrderLemmas.{read_was_written, read_is_order, read_is_within}
use Rattle.nova_order.proofs.laws.what_is_read_was_written.Goals as goal

pub returns-clause-text : goal.returns-clause-text
returns-clause-text c = read_was_written

pub returns-clause-order : goal.returns-clause-order
returns-clause-order c = λ bytes cpus most blocks small is. read_is_order bytes cpus most blocks is small

pub returns-clause-within : goal.returns-clause-within
returns-clause-within c = read_is_within
