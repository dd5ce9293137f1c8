use Rattle.std.proofs.Common.{◌∙◌, subst}
use Rattle.nova_ec.specs.Waiting.{IsAmong}
use Rattle.nova_choice.proofs.Marks.{beyond_nobody, beyond_only}
use Rattle.nova_turn.specs.Parts.{state_of}
use Rattle.nova_turn.proofs.parts.Parts.refresh_after.Goals as goal

pub returns-in-Nobody-clause-queued : goal.returns-in-Nobody-clause-queued
returns-in-Nobody-clause-queued c =
    let p = c.refresh_own.new.self in
    beyond_nobody (state_of p) p.queues.all c.args.moved c.loop.at c.refresh_own.ensures.queued (λ z way. subst (IsAmong z) c.in-Nobody.is (c.waiters.ensures z way))

pub loop-preserved : goal.loop-preserved
loop-preserved c =
    let p = c.refresh_own.new.self in
    record {
      queued = beyond_only (state_of p) p.queues.all c.args.moved c.loop.at c.in-Only.waiter c.refresh_own.ensures.queued
          (λ z way. subst (IsAmong z) c.in-Only.is (c.waiters.ensures z way));
      shown = c.refresh_own.ensures.shown ∙ c.loop.invariant.shown;
      revokes = c.refresh_own.ensures.revokes ∙ c.loop.invariant.revokes;
      log = c.refresh_own.ensures.log ∙ c.loop.invariant.log;
    }
