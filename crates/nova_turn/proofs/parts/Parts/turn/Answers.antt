use Rattle.std.proofs.Common.{◌≡◌, ◌<◌, ◌+◌, ◌^◌, ℕ, length, rules, refl, ap, subst, sym, ◌∙◌, arith}
use Rattle.std.specs.Prelude.{None, Some, IsSome, option_map}
use Rattle.nova_model.specs.State.{KernelState, context_at}
use Rattle.nova_model.specs.Turn.{charged}
use Rattle.nova_turn.specs.Parts.{state_of, view_of}
use Rattle.nova_turn.specs.Revoking.{AreRunning}
use Rattle.nova_turn.specs.Views.{IsTurnTaken, KernelView}
use Rattle.nova_model.specs.Choice.{choice}
use Rattle.nova_choice.specs.Choices.{chosen_of}
use Rattle.nova_deeds.specs.Counted.{IsCounted, IsToBeCharged}
use Rattle.nova_choice.specs.Schedules.{AreQueued}
use Rattle.nova_deeds.specs.Stirs.{is_stirring, risen_in}
use Rattle.nova_sched.specs.Queues.{QueuesState, queued_at}
use Rattle.nova_choice.proofs.Budgets.{still_queued}
use Rattle.nova_deeds.proofs.Charges.{queued_risen}
use Rattle.nova_deeds.proofs.Counts.{IsCharged-kept, IsCharged-risen, stirs-fit}
use Rattle.nova_turn.specs.Going.{HasRaised, Stays, WentOn}
use Rattle.nova_model.specs.declared.deed.Deed.TheVariants.{Steps}
use Rattle.nova_model.specs.declared.event.EventKind.TheVariants.{Step}
use Rattle.nova_model.specs.Times.{due_on}
use Rattle.nova_turn.proofs.Dues.{none_due_at}
use Rattle.nova_turn.proofs.Homes.{still_counted}
use Rattle.nova_turn.proofs.Ongoing.{settled_runs}
use Rattle.nova_turn.proofs.Settled.{same_view, settled_turn, taken_so}
use Rattle.nova_deeds.proofs.Taken.{IsSettled, settled_counts, told_acts}
use Rattle.nova_turn.proofs.parts.Parts.turn.Goals as goal

pub go_on-requires-clause-acts : goal.go_on-requires-clause-acts
go_on-requires-clause-acts c = told_acts (state_of c.args.self.now) c.args.cpu c.in-Some.chosen (sym c.in-Some.is ∙ c.choice.ensures.choice)

pub note_step-requires-clause-few : goal.note_step-requires-clause-few
note_step-requires-clause-few c =
    let went : WentOn c.args.self.now c.go_on.new.self c.in-Some.chosen.actor = c.go_on.ensures.went c.in-WentOn.is in
    stirs-fit (state_of c.go_on.new.self) (IsCharged-kept (state_of c.args.self.now) (state_of c.go_on.new.self) went.kept c.requires.ready.tables.counted.charged)
    (subst (λ (n : ℕ). n < 2 ^ 31) (sym went.kept.turns) c.requires.ready.turns)

pub note_step-requires-clause-counted : goal.note_step-requires-clause-counted
note_step-requires-clause-counted c =
    let went : WentOn c.args.self.now c.go_on.new.self c.in-Some.chosen.actor = c.go_on.ensures.went c.in-WentOn.is in
    still_counted (state_of c.args.self.now) (state_of c.go_on.new.self) c.in-Some.chosen.actor Steps went.does c.requires.ready.tables.counted.kept.tables.guests

pub charge-requires-clause-charged : goal.charge-requires-clause-charged
charge-requires-clause-charged c =
    let went : WentOn c.args.self.now c.go_on.new.self c.in-Some.chosen.actor = c.go_on.ensures.went c.in-WentOn.is in
    let mid : KernelState = state_of c.go_on.new.self in
    subst IsToBeCharged (sym c.note_step.ensures.shown)
    (IsCharged-risen mid _ (IsCharged-kept (state_of c.args.self.now) mid went.kept c.requires.ready.tables.counted.charged))

pub charge-requires-clause-queued : goal.charge-requires-clause-queued
charge-requires-clause-queued c =
    let went : WentOn c.args.self.now c.go_on.new.self c.in-Some.chosen.actor = c.go_on.ensures.went c.in-WentOn.is in
    let mid : KernelState = state_of c.go_on.new.self in
    let rises = is_stirring mid c.go_on.new.self.reach.written c.in-Some.chosen.actor Steps in
    subst (λ (s : KernelState). AreQueued s c.note_step.new.self.queues.all) (sym c.note_step.ensures.shown)
    (subst (λ (q : QueuesState). AreQueued (risen_in mid rises) q.all) (sym c.note_step.ensures.rest.queues)
    (queued_risen mid rises c.go_on.new.self.queues.all went.queued))

pub charge-requires-clause-there : goal.charge-requires-clause-there
charge-requires-clause-there c =
    let went : WentOn c.args.self.now c.go_on.new.self c.in-Some.chosen.actor = c.go_on.ensures.went c.in-WentOn.is in
    let p = c.args.self.now in
    let there : IsSome (queued_at p.queues.all c.in-Some.chosen.sc) = search rules in
    subst (λ (q : QueuesState). IsSome (queued_at q.all c.in-Some.chosen.sc)) (sym c.note_step.ensures.rest.queues)
    (still_queued p.queues.all c.go_on.new.self.queues.all (length p.objects.items) (length c.go_on.new.self.objects.items) c.in-Some.chosen.sc there
    (went.kept.budgets c.in-Some.chosen.sc))

pub returns-then-is_due-clause-taken : goal.returns-then-is_due-clause-taken
returns-then-is_due-clause-taken c = taken_so (view_of c.args.self.now) (view_of c.come_due.new.self) c.args.cpu c.come_due.result c.come_due.ensures.taken

pub returns-in_default-clause-taken : goal.returns-in_default-clause-taken
returns-in_default-clause-taken c = taken_so (view_of c.args.self.now) (view_of c.tick_on.new.self) c.args.cpu c.tick_on.result c.tick_on.ensures.taken

pub returns-in-WentOn-clause-taken : goal.returns-in-WentOn-clause-taken
returns-in-WentOn-clause-taken c =
    let went : WentOn c.args.self.now c.go_on.new.self c.in-Some.chosen.actor = c.go_on.ensures.went c.in-WentOn.is in
    let k : KernelState = state_of c.args.self.now in
    let settled : IsSettled k (state_of c.go_on.new.self) (state_of c.charge.new.self) c.args.cpu c.in-Some.chosen Steps c.go_on.new.self.reach.written = record {
      none_due = none_due_at (due_on k.times c.args.cpu) (sym c.is_due.ensures ∙ c.if-is_due.false);
      told = sym c.in-Some.is ∙ c.choice.ensures.choice;
      decided = went.decided;
      does = went.does;
      wrote = λ _. went.wrote;
      settled = c.charge.ensures.charged ∙ ap (λ (s : KernelState). charged s c.args.cpu c.in-Some.chosen.sc) c.note_step.ensures.shown;
    } in
    settled_turn c.args.self.now c.charge.new.self (state_of c.go_on.new.self) c.args.cpu c.in-Some.chosen Steps c.go_on.new.self.reach.written (Step, 0, 0) c.event.result
    settled refl c.event.ensures
    (let went_on = c.go_on.ensures.log in let noted = c.note_step.ensures.rest.log in let paid = c.charge.ensures.log in omega arith)
    (c.charge.ensures.turns ∙ ap (λ (n : ℕ). n + 1) (c.note_step.ensures.rest.turns ∙ went.kept.turns))
    (c.charge.ensures.cpus ∙ c.note_step.ensures.rest.cpus ∙ went.kept.cpus)

pub returns-in-WentOn-clause-tables : goal.returns-in-WentOn-clause-tables
returns-in-WentOn-clause-tables c =
    let went : WentOn c.args.self.now c.go_on.new.self c.in-Some.chosen.actor = c.go_on.ensures.went c.in-WentOn.is in
    let k : KernelState = state_of c.args.self.now in
    let mid : KernelState = state_of c.go_on.new.self in
    let settled : IsSettled k mid (state_of c.charge.new.self) c.args.cpu c.in-Some.chosen Steps c.go_on.new.self.reach.written = record {
      none_due = none_due_at (due_on k.times c.args.cpu) (sym c.is_due.ensures ∙ c.if-is_due.false);
      told = sym c.in-Some.is ∙ c.choice.ensures.choice;
      decided = went.decided;
      does = went.does;
      wrote = λ _. went.wrote;
      settled = c.charge.ensures.charged ∙ ap (λ (s : KernelState). charged s c.args.cpu c.in-Some.chosen.sc) c.note_step.ensures.shown;
    } in record {
      counted =
          settled_counts k mid (state_of c.charge.new.self) c.args.cpu c.in-Some.chosen Steps c.go_on.new.self.reach.written settled went.kept c.requires.ready.turns
          (c.turns_keep_what_they_find.ensures.turns k c.args.cpu c.requires.ready.tables.counted.kept) c.requires.ready.tables.counted;
      queued = c.charge.ensures.queued;
      running =
          settled_runs mid (state_of c.note_step.new.self) (state_of c.charge.new.self) (is_stirring mid c.go_on.new.self.reach.written c.in-Some.chosen.actor Steps) c.args.cpu
          c.in-Some.chosen.sc c.go_on.new.self.revokes c.note_step.new.self.revokes c.charge.new.self.revokes went.running c.note_step.ensures.shown c.note_step.ensures.rest.revokes
          c.charge.ensures.charged c.charge.ensures.revokes;
    }

pub settle-requires-clause-none_due : goal.settle-requires-clause-none_due
settle-requires-clause-none_due c =
    let stays : Stays c.args.self.now c.go_on.new.self c.in-Some.chosen.actor c.in-Stayed.raised = c.go_on.ensures.stayed c.in-Stayed.raised c.in-Stayed.is in
    let same = stays.state in
    subst (λ (s : KernelState). due_on s.times c.args.cpu ≡ None) (sym same) (none_due_at (due_on (state_of c.args.self.now).times c.args.cpu) (sym c.is_due.ensures ∙ c.if-is_due.false))

pub settle-requires-clause-told : goal.settle-requires-clause-told
settle-requires-clause-told c =
    let stays : Stays c.args.self.now c.go_on.new.self c.in-Some.chosen.actor c.in-Stayed.raised = c.go_on.ensures.stayed c.in-Stayed.raised c.in-Stayed.is in
    let same = stays.state in
    subst (λ (s : KernelState). Some c.in-Some.chosen ≡ option_map chosen_of (choice s c.args.cpu)) (sym same) (sym c.in-Some.is ∙ c.choice.ensures.choice)

pub settle-requires-clause-there : goal.settle-requires-clause-there
settle-requires-clause-there c =
    let stays : Stays c.args.self.now c.go_on.new.self c.in-Some.chosen.actor c.in-Stayed.raised = c.go_on.ensures.stayed c.in-Stayed.raised c.in-Stayed.is in
    let same = stays.state in
    subst (λ (s : KernelState). IsSome (context_at s c.in-Some.chosen.actor)) (sym same) (search rules)

pub settle-requires-clause-pays : goal.settle-requires-clause-pays
settle-requires-clause-pays c =
    let there : IsSome (queued_at c.args.self.now.queues.all c.in-Some.chosen.sc) = search rules in
    subst (λ (q : QueuesState). IsSome (queued_at q.all c.in-Some.chosen.sc)) (sym c.go_on.ensures.queues) there

pub settle-requires-clause-raised : goal.settle-requires-clause-raised
settle-requires-clause-raised c =
    let stays : Stays c.args.self.now c.go_on.new.self c.in-Some.chosen.actor c.in-Stayed.raised = c.go_on.ensures.stayed c.in-Stayed.raised c.in-Stayed.is in
    subst (λ (s : KernelState). HasRaised s c.in-Some.chosen.actor c.in-Stayed.raised) (sym stays.state) stays.raised

pub settle-requires-clause-cpu : goal.settle-requires-clause-cpu
settle-requires-clause-cpu c =
    let stays : Stays c.args.self.now c.go_on.new.self c.in-Some.chosen.actor c.in-Stayed.raised = c.go_on.ensures.stayed c.in-Stayed.raised c.in-Stayed.is in
    subst (λ (k : KernelState). c.args.cpu < k.cpus) (sym stays.state) c.requires.cpu

pub returns-in-Stayed-clause-taken : goal.returns-in-Stayed-clause-taken
returns-in-Stayed-clause-taken c =
    let stays : Stays c.args.self.now c.go_on.new.self c.in-Some.chosen.actor c.in-Stayed.raised = c.go_on.ensures.stayed c.in-Stayed.raised c.in-Stayed.is in
    subst (λ (v : KernelView). IsTurnTaken v (view_of c.settle.new.self) c.args.cpu c.settle.result) (same_view c.args.self.now c.go_on.new.self stays.state stays.log)
    c.settle.ensures.taken

pub settle-requires-clause-ready : goal.settle-requires-clause-ready
settle-requires-clause-ready c =
    let stays : Stays c.args.self.now c.go_on.new.self c.in-Some.chosen.actor c.in-Stayed.raised = c.go_on.ensures.stayed c.in-Stayed.raised c.in-Stayed.is in
    record {
      tables = record {
        counted = subst (λ (s : KernelState). IsCounted s) (sym stays.state) c.requires.ready.tables.counted;
        queued = subst (λ (s : KernelState). AreQueued s c.go_on.new.self.queues.all) (sym stays.state)
            (subst (λ (q : QueuesState). AreQueued (state_of c.args.self.now) q.all) (sym c.go_on.ensures.queues) c.requires.ready.tables.queued);
        running = subst (λ (s : KernelState). AreRunning s c.go_on.new.self.revokes) (sym stays.state)
            (subst (AreRunning (state_of c.args.self.now)) (sym c.go_on.ensures.revokes) c.requires.ready.tables.running);
      };
      turns = subst (λ (k : KernelState). k.turns < 2 ^ 31) (sym stays.state) c.requires.ready.turns;
      log = subst (λ (room : ℕ). 0 < room) (sym stays.log) c.requires.ready.log;
    }
