use Rattle.nova_asking.specs.Questions.{is_so}
use Rattle.nova_asking.proofs.Told.{goal_there}
use Rattle.nova_asking.proofs.answer.judge_states.Goals as goal

pub answered-answer-requires-clause-there : goal.answered-answer-requires-clause-there
answered-answer-requires-clause-there c =
    goal_there (is_so c.args.question.now) c.in_ok-explored.explored.found.items c.in_ok-explored.explored.goal c.in_ok-explored.ensures.searched.goal

pub answered-answer-requires-clause-first : goal.answered-answer-requires-clause-first
answered-answer-requires-clause-first c = c.in_ok-explored.ensures.searched.first

pub returns : goal.returns
returns c = c.answered-answer.ensures c.args.opening.now c.args.limit c.args.most c.in_ok-explored.ensures.searched
