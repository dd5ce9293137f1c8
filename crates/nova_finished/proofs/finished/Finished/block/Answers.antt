use Rattle.std.proofs.Common.{rules, ◌≡◌, ◌≤◌, arith, subst}
use Rattle.std.specs.Prelude.{None}
use Rattle.nova_finished.specs.UnderWay.{IsGone, left}
use Rattle.nova_finished.proofs.Taken.{gone}
use Rattle.nova_finished.proofs.finished.Finished.block.Goals as goal

pub returns-clause-gone : goal.returns-clause-gone
returns-clause-gone g c =
    let f = c.args.self.now in
    let d = c.act-count in
    let e = c.in-Ok.ensures in
    let within = c.requires.ready.within in
    let same = c.enter.ensures.same in
    let is : c.in-Ok.field-0 ≡ d.result = omega (arith, e.turns) in
    let few : d.result ≤ left f = search rules in
    subst (λ n. IsGone f c.args.cpu (left f) n c.enter.new.self) is
    (gone {E = Unit {0}} f c.enter.new.self c.args.cpu (left f) d.result c.plain_step-event.result None d.new.kernel
    c.requires.ready (omega (arith, within)) same.0 same.1 same.2
    (record { steps = d.ensures.steps; event = c.plain_step-event.ensures; alone = λ none. d.ensures.state; answer = tt; state = tt; memory = tt })
    c.in-Ok.field-0 e.turns (omega (arith, few)) (let log = d.ensures.room in omega (arith, log)) e.order e.sum e.trace)
