use Rattle.std.proofs.Common.{arith}
use Rattle.nova_utcb.proofs.PageLaws.{set_back, item_stays, stays, counts_stay}
use Rattle.nova_utcb.proofs.laws.items_are_read_back.Goals as goal

pub returns-clause-same : goal.returns-clause-same
returns-clause-same c = set_back

pub returns-clause-others : goal.returns-clause-others
returns-clause-others c = item_stays

pub returns-clause-words : goal.returns-clause-words
returns-clause-words c = stays

pub returns-clause-counts : goal.returns-clause-counts
returns-clause-counts c = counts_stay

pub returns-clause-windows : goal.returns-clause-windows
returns-clause-windows c = λ m i first second a. (
  stays m i first second 1 (λ e. omega (arith, e, a)) (λ e. omega (arith, e, a)),
  stays m i first second 2 (λ e. omega (arith, e, a)) (λ e. omega (arith, e, a)),
)
