use Rattle.std.proofs.Common.{◌≡◌, ◌+◌, ◌∙◌, ℕ, length, ap, sym, subst, arith}
use Rattle.std.specs.Prelude.{Option, Some}
use Rattle.nova_model.specs.Running.{revoke_of}
use Rattle.nova_model.specs.State.{KernelState}
use Rattle.nova_model.specs.Times.{due_on}
use Rattle.nova_model.specs.Turn.{answer_of, counted}
use Rattle.nova_model.specs.Choice.{Candidate}
use Rattle.nova_model.specs.declared.event.Turn.TheVariants.{Stepped}
use Rattle.law_turns.specs.Keeping.{IsKept}
use Rattle.law_turns.specs.Revoking.{revoke_in_turn}
use Rattle.law_forest.specs.Effects.{Falls}
use Rattle.law_forest.proofs.Turning.{passing_none}
use Rattle.nova_choice.proofs.Choosing.{turn_due}
use Rattle.nova_deeds.specs.Counted.{IsCounted}
use Rattle.nova_deeds.specs.Passing.{fallen}
use Rattle.nova_deeds.proofs.Passing.{IsCounted-counted, after_due, fallen_delegations, fallen_keeps, fallen_long}
use Rattle.nova_turn.specs.Parts.{state_of}
use Rattle.nova_turn.proofs.Dues.{still_runs}
use Rattle.nova_turn.proofs.Settled.{counted_waits, stepped_turn}
use Rattle.nova_turn.proofs.parts.Parts.come_due.Goals as goal

pub returns-clause-taken : goal.returns-clause-taken
returns-clause-taken c =
    let k : KernelState = state_of c.args.self.now in
    let cpu = c.args.cpu in
    let what = c.in-Some.what in
    let is : due_on k.times cpu ≡ Some what = sym c.due.ensures ∙ c.in-Some.is in
    let shown : state_of c.count.new.self ≡ counted (fallen k what) cpu = c.count.ensures.counted ∙ ap (λ (s : KernelState). counted s cpu) c.fall-event.ensures.state in
    stepped_turn c.args.self.now c.count.new.self cpu c.fall-event.result (ap Stepped c.fall-event.ensures.event ∙ sym (ap answer_of (turn_due k cpu what is)))
    (shown ∙ sym (after_due k cpu what is))
    (let fell = c.fall-event.ensures.log in let ticked = c.count.ensures.log in omega arith)
    (ap (λ (s : KernelState). s.turns) shown ∙ ap (λ (n : ℕ). n + 1) (fallen_keeps k what).turns)
    (ap (λ (s : KernelState). s.cpus) shown ∙ (fallen_keeps k what).cpus)

pub returns-clause-tables : goal.returns-clause-tables
returns-clause-tables c =
    let k : KernelState = state_of c.args.self.now in
    let cpu = c.args.cpu in
    let what = c.in-Some.what in
    let is : due_on k.times cpu ≡ Some what = sym c.due.ensures ∙ c.in-Some.is in
    let shown : state_of c.count.new.self ≡ counted (fallen k what) cpu = c.count.ensures.counted ∙ ap (λ (s : KernelState). counted s cpu) c.fall-event.ensures.state in
    let keeps : IsKept (counted (fallen k what) cpu) = subst IsKept (after_due k cpu what is) (c.turns_keep_what_they_find.ensures.turns k cpu c.requires.tables.counted.kept) in record {
      counted = subst IsCounted (sym shown)
          (IsCounted-counted k (fallen k what) cpu (fallen_keeps k what) (fallen_delegations k what) c.requires.turns keeps c.requires.tables.counted);
      queued = counted_waits (state_of c.fall-event.new.self) (state_of c.count.new.self) cpu c.fall-event.new.self.queues.all c.count.new.self.queues.all c.fall-event.ensures.queued
          c.count.ensures.counted c.count.ensures.queues;
      running =
          still_runs k (state_of c.count.new.self) c.args.self.now.revokes c.count.new.self.revokes c.requires.tables.running
          (ap (λ (s : KernelState). length s.contexts) shown ∙ fallen_long k what)
          (λ e. ap (λ (s : KernelState). revoke_of s e) (shown ∙ sym (after_due k cpu what is)) ∙ c.running_revokes_are_their_runners.ensures.turns k cpu c.requires.tables.counted.kept e
          ∙ ap (λ (o : Option Candidate). revoke_in_turn k o e) (passing_none k cpu (Falls what) is))
          (c.count.ensures.revokes ∙ c.fall-event.ensures.revokes);
    }
