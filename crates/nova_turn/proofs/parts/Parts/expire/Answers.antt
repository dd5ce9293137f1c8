use Rattle.std.proofs.Common.{◌≡◌, ◌∙◌, ap, sym, subst}
use Rattle.std.specs.Prelude.{Some, None}
use Rattle.nova_range.specs.declared.status.Status.TheVariants.{Timeout}
use Rattle.nova_model.specs.Deeds.{ended_wait}
use Rattle.nova_model.specs.Semaphores.{Semaphores}
use Rattle.nova_model.specs.State.{KernelState, deadline_of}
use Rattle.nova_model.specs.Turn.{expires}
use Rattle.nova_model.specs.declared.times.Due.TheVariants as due
use Rattle.law_turns.proofs.Dues.{due_is}
use Rattle.nova_sched.specs.Queues.{QueuesState}
use Rattle.nova_choice.specs.Schedules.{AreQueuedAfter}
use Rattle.nova_deeds.proofs.Passing.{queued_expired}
use Rattle.nova_turn.specs.Parts.{state_of}
use Rattle.nova_turn.proofs.Dues.{late_there}
use Rattle.nova_turn.proofs.parts.Parts.expire.Goals as goal

pub unreachable-requires : goal.unreachable-requires
unreachable-requires c =
    let k : KernelState = state_of c.args.self.now in
    let its = due_is k.times c.args.cpu (due.Deadline c.args.ec) c.requires.due in
    let both : None ≡ Some its.entry.deadline = sym c.in_default.is ∙ c.deadline.ensures ∙ its.entry.there in
    absurd (cc)

pub refresh-requires : goal.refresh-requires
refresh-requires c =
    let k : KernelState = state_of c.args.self.now in
    let ec = c.args.ec in
    let d = c.in-Some.deadline in
    let some : deadline_of k.times ec ≡ Some d = sym c.deadline.ensures ∙ c.in-Some.is in
    let there = late_there k ec d c.requires.counted.kept some in
    let shown : state_of c.end_wait.new.self ≡ expires k ec d.sm = c.end_wait.ensures.ended ∙ ap (λ (all : Semaphores). ended_wait (record k { semaphores = all }) ec Timeout) c.leave.ensures.left in
    subst (λ (s : KernelState). AreQueuedAfter (Some ec) s c.end_wait.new.self.queues.all) (sym shown)
    (subst (λ (q : QueuesState). AreQueuedAfter (Some ec) (expires k ec d.sm) q.all) (sym c.end_wait.ensures.rest.queues)
    (queued_expired k ec d.sm c.args.self.now.queues.all c.requires.queued c.requires.counted.kept.edges there))
