use Rattle.nova_asking.proofs.Alike.{answers_same, contexts_there, outcomes_same}
use Rattle.nova_asking.proofs.laws.alike_states_answer_alike.Goals as goal

pub returns-clause-questions : goal.returns-clause-questions
returns-clause-questions c = λ k l q apt alike.
    answers_same k l alike (c.alike_states_are_as_one.ensures.quiet k l alike) (λ cpu. c.alike_states_have_alike_turns.ensures.actors k l cpu alike) q apt

pub returns-clause-outcomes : goal.returns-clause-outcomes
returns-clause-outcomes c = outcomes_same

pub returns-clause-contexts : goal.returns-clause-contexts
returns-clause-contexts c = contexts_there
