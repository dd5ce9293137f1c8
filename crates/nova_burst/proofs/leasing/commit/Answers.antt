use Rattle.nova_burst.proofs.Returning.{events_are, may_take_over, most_is}
use Rattle.nova_burst.proofs.leasing.commit.Goals as goal

pub take_over-requires : goal.take_over-requires
take_over-requires c = may_take_over c.args.lease c.args.kernel.now.state c.args.left c.decide-done.result c.requires.after c.requires.turns c.decide-done.ensures

pub returns-clause-most : goal.returns-clause-most
returns-clause-most c = most_is c.args.lease c.args.kernel.now.state c.args.left c.decide-done.result c.decide-done.ensures

pub returns-clause-turns : goal.returns-clause-turns
returns-clause-turns c = record {
  state = c.take_over.ensures.state;
  events = events_are c.args.lease c.args.kernel.now.state c.args.left c.decide-done.result c.requires.after c.decide-done.ensures;
}
