use Rattle.nova_asking.proofs.Coming.{none_comes, only_by_orders}
use Rattle.nova_asking.proofs.laws.what_comes_within_turns.Goals as goal

pub returns-clause-none : goal.returns-clause-none
returns-clause-none c = none_comes

pub returns-clause-only : goal.returns-clause-only
returns-clause-only c = only_by_orders
