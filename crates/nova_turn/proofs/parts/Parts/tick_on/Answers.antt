use Rattle.std.proofs.Common.{rules, ◌≡◌, ◌∙◌, refl, ap, sym, subst, arith}
use Rattle.std.specs.Prelude.{false, is_none}
use Rattle.nova_model.specs.State.{KernelState}
use Rattle.nova_model.specs.Times.{next_moment}
use Rattle.nova_model.specs.Turn.{answer_of, counted, state_after}
use Rattle.nova_model.specs.declared.event.Turn.TheVariants.{Stepped}
use Rattle.law_turns.specs.Keeping.{IsKept}
use Rattle.nova_deeds.specs.Counted.{IsCounted}
use Rattle.nova_deeds.proofs.Keeps.{KeepsCounts-self}
use Rattle.nova_deeds.proofs.Passing.{IsCounted-counted}
use Rattle.nova_turn.specs.Parts.{state_of}
use Rattle.nova_turn.specs.Revoking.{AreRunning}
use Rattle.nova_turn.proofs.Dues.{counted_runs, tick_turn}
use Rattle.nova_turn.proofs.Settled.{counted_waits, stepped_turn}
use Rattle.nova_turn.proofs.parts.Parts.tick_on.Goals as goal

pub returns-clause-taken : goal.returns-clause-taken
returns-clause-taken c =
    let k : KernelState = state_of c.args.self.now in
    let cpu = c.args.cpu in
    let some_result : is_none c.next.result ≡ false = search rules in
    let some : is_none (next_moment k.times cpu) ≡ false = ap is_none (sym c.next.ensures) ∙ some_result in
    let tick = tick_turn k cpu c.requires.none_due c.requires.none_chosen some in
    stepped_turn c.args.self.now c.count.new.self cpu c.event_without.result (ap Stepped c.event_without.ensures ∙ sym (ap answer_of tick))
    (c.count.ensures.counted ∙ sym (ap (state_after k) tick)) (let same = c.count.ensures.log in omega arith) c.count.ensures.turns c.count.ensures.cpus

pub returns-clause-tables : goal.returns-clause-tables
returns-clause-tables c =
    let p = c.args.self.now in
    let k : KernelState = state_of p in
    let cpu = c.args.cpu in
    let some_result : is_none c.next.result ≡ false = search rules in
    let some : is_none (next_moment k.times cpu) ≡ false = ap is_none (sym c.next.ensures) ∙ some_result in
    let tick = tick_turn k cpu c.requires.none_due c.requires.none_chosen some in
    let keeps : IsKept (counted k cpu) = subst IsKept (ap (state_after k) tick) (c.turns_keep_what_they_find.ensures.turns k cpu c.requires.tables.counted.kept) in record {
      counted = subst IsCounted (sym c.count.ensures.counted) (IsCounted-counted k k cpu (KeepsCounts-self k) refl c.requires.turns keeps c.requires.tables.counted);
      queued = counted_waits k (state_of c.count.new.self) cpu p.queues.all c.count.new.self.queues.all c.requires.tables.queued c.count.ensures.counted c.count.ensures.queues;
      running = subst (λ (s : KernelState). AreRunning s c.count.new.self.revokes) (sym c.count.ensures.counted)
          (subst (AreRunning (counted k cpu)) (sym c.count.ensures.revokes) (counted_runs k cpu p.revokes c.requires.tables.running));
    }
