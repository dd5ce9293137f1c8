use Rattle.nova_judging.proofs.Trailing.{sole_chain, trail_chain}
use Rattle.nova_judging.proofs.laws.a_trail_is_the_chain_of_parents.Goals as goal

pub returns-clause-chain : goal.returns-clause-chain
returns-clause-chain c = trail_chain

pub returns-clause-sole : goal.returns-clause-sole
returns-clause-sole c = sole_chain
