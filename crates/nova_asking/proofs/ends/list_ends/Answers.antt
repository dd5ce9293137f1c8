use Rattle.nova_asking.proofs.ends.list_ends.Goals as goal

pub ends_of-ends-requires-clause-first : goal.ends_of-ends-requires-clause-first
ends_of-ends-requires-clause-first c = c.in_ok-explored.ensures.searched.first

pub returns-clause-each : goal.returns-clause-each
returns-clause-each c = c.ends_of-ends.ensures.each c.args.opening.now c.args.limit c.args.most c.in_ok-explored.ensures.searched

pub returns-clause-all : goal.returns-clause-all
returns-clause-all c = c.ends_of-ends.ensures.all c.args.opening.now c.args.limit c.args.most c.in_ok-explored.ensures.searched

pub returns-clause-states : goal.returns-clause-states
returns-clause-states c = c.ends_of-ends.ensures.states c.args.opening.now c.args.limit c.args.most c.in_ok-explored.ensures.searched
