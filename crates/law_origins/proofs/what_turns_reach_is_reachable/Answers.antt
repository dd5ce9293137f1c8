use Rattle.std.specs.Prelude.{[]}
use Rattle.law_origins.proofs.Reachable.{reached, reached_further}
use Rattle.law_origins.proofs.what_turns_reach_is_reachable.Goals as goal

pub returns-clause-boot : goal.returns-clause-boot
returns-clause-boot c = λ s. reached s []

pub returns-clause-turns : goal.returns-clause-turns
returns-clause-turns c = reached_further

pub returns-clause-reached : goal.returns-clause-reached
returns-clause-reached c = reached
