use Rattle.std.proofs.Common.{List, ℕ, length, arith, ap, sym, ◌∙◌}
use Rattle.std.specs.Prelude.{Option, is_some}
use Rattle.nova_choice.proofs.Marks.{members_after, next_there, remarked_next}
use Rattle.nova_choice.proofs.queues.mark_all.Goals as goal

pub set_runnable-requires : goal.set_runnable-requires
set_runnable-requires c =
    let same = ap (λ (xs : List ℕ). length xs) (c.members.ensures ∙ c.loop-i.invariant.members ∙ sym c.members-i-end.ensures) in
    let before = c.loop-i-test.true in
    next_there c.loop-i.queues.all c.args.cpu c.loop-i.i c.members.result.now c.members.ensures (grind (arith, same, before))

pub loop-i-preserved : goal.loop-i-preserved
loop-i-preserved c =
    let same = ap (λ (xs : List ℕ). length xs) (c.members.ensures ∙ c.loop-i.invariant.members ∙ sym c.members-i-end.ensures) in
    let before = c.loop-i-test.true in
    let mark = c.is_some-is_runnable.ensures ∙ ap (λ (o : Option ℕ). is_some o) c.actor_of.ensures.actor in
    record {
      left = remarked_next c.args.objects.now.items c.args.contexts.now.items c.loop-i.queues.all c.set_runnable.new.self.all c.args.cpu c.loop-i.i c.members.result.now
          c.is_some-is_runnable.result c.members.ensures (grind (arith, same, before)) mark c.set_runnable.ensures.marked
          ∙ c.loop-i.invariant.left;
      members = members_after c.loop-i.queues.all c.set_runnable.new.self.all c.args.cpu _ _ c.set_runnable.ensures.marked ∙ c.loop-i.invariant.members;
    }
