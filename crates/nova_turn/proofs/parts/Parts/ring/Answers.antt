use Rattle.std.proofs.Common.{◌≡◌, ◌∙◌, ℕ, ap, sym, subst}
use Rattle.std.specs.Prelude.{true, Option, Some, None, IsSome, IfSome}
use Rattle.nova_model.specs.Deeds.{woken_in}
use Rattle.nova_model.specs.Semaphores.{semaphore, upped, woken}
use Rattle.nova_model.specs.State.{KernelState, context_at}
use Rattle.nova_model.specs.Times.{goes_on, rung}
use Rattle.nova_model.specs.Turn.{whom_of}
use Rattle.nova_model.specs.declared.times.AlarmState.{AlarmState}
use Rattle.nova_model.specs.declared.times.Due.TheVariants as due
use Rattle.law_turns.proofs.Dues.{due_is}
use Rattle.nova_sched.specs.Queues.{QueuesState}
use Rattle.nova_choice.specs.Schedules.{AreQueuedAfter}
use Rattle.nova_deeds.proofs.Passing.{queued_woken, whom_there}
use Rattle.nova_turn.specs.Parts.{state_of}
use Rattle.nova_turn.proofs.parts.Parts.ring.Goals as goal

pub unreachable-requires : goal.unreachable-requires
unreachable-requires c =
    let k : KernelState = state_of c.args.self.now in
    let its = due_is k.times c.args.cpu (due.Alarm c.args.alarm) c.requires.due in
    let both : None ≡ Some its.entry.alarm = sym c.in_default.is ∙ c.alarm.ensures ∙ its.entry.there in
    absurd (cc)

pub up_by-up-requires-clause-on : goal.up_by-up-requires-clause-on
up_by-up-requires-clause-on c =
    let k : KernelState = state_of c.args.self.now in
    let its = due_is k.times c.args.cpu (due.Alarm c.args.alarm) c.requires.due in
    subst (λ (o : Option AlarmState). IfSome o (λ (a : AlarmState). goes_on a ≡ true)) (sym its.entry.there) its.entry.more

pub wake-requires : goal.wake-requires
wake-requires c =
    let k : KernelState = state_of c.args.self.now in
    let n = c.args.alarm in
    let sm = c.in-Some.state.alarm.sm in
    let whom = c.whom_of-whom.result in
    let same : whom ≡ whom_of (woken (semaphore k.semaphores sm)) = c.whom_of-whom.ensures ∙ ap whom_of c.up_by-up.ensures.up in
    let there : IfSome whom (λ w. IsSome (context_at k w)) = subst (λ (o : Option ℕ). IfSome o (λ w. IsSome (context_at k w))) (sym same) (whom_there k sm c.requires.counted.kept.blocked) in
    let up : KernelState = record k { semaphores = upped k.semaphores sm; times = rung k.times n } in
    record { there = subst (λ (s : KernelState). IfSome whom (λ w. IsSome (context_at s w))) (sym c.up_by-up.ensures.shown) there }

pub refresh-requires : goal.refresh-requires
refresh-requires c =
    let k : KernelState = state_of c.args.self.now in
    let n = c.args.alarm in
    let sm = c.in-Some.state.alarm.sm in
    let whom = c.whom_of-whom.result in
    let same : whom ≡ whom_of (woken (semaphore k.semaphores sm)) = c.whom_of-whom.ensures ∙ ap whom_of c.up_by-up.ensures.up in
    let there : IfSome whom (λ w. IsSome (context_at k w)) = subst (λ (o : Option ℕ). IfSome o (λ w. IsSome (context_at k w))) (sym same) (whom_there k sm c.requires.counted.kept.blocked) in
    let up : KernelState = record k { semaphores = upped k.semaphores sm; times = rung k.times n } in
    let shown : state_of c.wake.new.self ≡ woken_in up whom = c.wake.ensures.woken ∙ ap (λ (s : KernelState). woken_in s whom) c.up_by-up.ensures.shown in
    subst (λ (s : KernelState). AreQueuedAfter whom s c.wake.new.self.queues.all) (sym shown)
    (subst (λ (q : QueuesState). AreQueuedAfter whom (woken_in up whom) q.all) (sym (c.wake.ensures.rest.queues ∙ c.up_by-up.ensures.rest.queues))
    (queued_woken k (rung k.times n) (upped k.semaphores sm) whom c.args.self.now.queues.all c.requires.queued c.requires.counted.kept.edges there))
