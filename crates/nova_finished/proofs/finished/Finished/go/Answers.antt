use Rattle.nova_finished.proofs.Taken.{gone_all}
use Rattle.nova_finished.proofs.finished.Finished.go.Goals as goal

pub returns-in-Some-Err-clause-memory : goal.returns-in-Some-Err-clause-memory
returns-in-Some-Err-clause-memory c room =
    let d = c.take_turns-taken in let b = d.ensures in let same = c.enter.ensures.same in let e = c.in-Ok.ensures in
    gone_all c.args.self.now c.enter.new.self c.args.cpu c.args.most d.result.steps.count d.result.steps.event d.result.last d.new.self c.requires.ready c.requires.more same.0 same.1 same.2
    b.most b.fewer b.event b.none b.events b.alone b.answer b.state b.memory b.room c.in-Ok.count e.turns e.order e.sum e.trace

pub returns-in_default-last-clause-gone : goal.returns-in_default-last-clause-gone
returns-in_default-last-clause-gone c =
    let d = c.take_turns-taken in let b = d.ensures in let same = c.enter.ensures.same in let e = c.in-Ok.ensures in
    gone_all c.args.self.now c.enter.new.self c.args.cpu c.args.most d.result.steps.count d.result.steps.event d.result.last d.new.self c.requires.ready c.requires.more same.0 same.1 same.2
    b.most b.fewer b.event b.none b.events b.alone b.answer b.state b.memory b.room c.in-Ok.count e.turns e.order e.sum e.trace

pub returns-in_default-last-2-clause-gone : goal.returns-in_default-last-2-clause-gone
returns-in_default-last-2-clause-gone c =
    let d = c.take_turns-taken in let b = d.ensures in let same = c.enter.ensures.same in let e = c.in-Ok.ensures in
    gone_all c.args.self.now c.enter.new.self c.args.cpu c.args.most d.result.steps.count d.result.steps.event d.result.last d.new.self c.requires.ready c.requires.more same.0 same.1 same.2
    b.most b.fewer b.event b.none b.events b.alone b.answer b.state b.memory b.room c.in-Ok.count e.turns e.order e.sum e.trace
