use Rattle.law_turns.proofs.Creators.{creators_give, others_rest}
use Rattle.law_turns.proofs.transfers.a_creator_gives_a_range_to_a_domain.Goals as goal

pub returns-clause-gives : goal.returns-clause-gives
returns-clause-gives c = creators_give

pub returns-clause-rests : goal.returns-clause-rests
returns-clause-rests c = others_rest
