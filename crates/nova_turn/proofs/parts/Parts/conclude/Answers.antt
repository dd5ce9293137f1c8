use Rattle.std.proofs.Common.{rules, ◌≡◌, ◌+◌, ◌<◌, ◌^◌, ℕ, IsErr, IsSome, length, ap, subst, sym, ◌∙◌, arith}
use Rattle.std.specs.Prelude.{true, false}
use Rattle.nova_model.specs.State.{KernelState}
use Rattle.nova_model.specs.Turn.{charged}
use Rattle.nova_turn.specs.Parts.{state_of, view_of}
use Rattle.nova_deeds.specs.Acts.{is_step}
use Rattle.nova_deeds.specs.Counted.{IsCounted, IsToBeCharged}
use Rattle.nova_choice.specs.Schedules.{AreQueued}
use Rattle.nova_deeds.specs.Stirs.{is_stirring, risen_in}
use Rattle.nova_sched.specs.Queues.{QueuesState, queued_at}
use Rattle.nova_choice.proofs.Budgets.{still_queued}
use Rattle.nova_deeds.proofs.Charges.{queued_risen}
use Rattle.nova_deeds.proofs.Counts.{IsCharged-kept, IsCharged-risen, stirs-fit}
use Rattle.nova_turn.proofs.Homes.{still_counted}
use Rattle.nova_turn.proofs.Making.{making-wants}
use Rattle.nova_turn.proofs.Ongoing.{settled_runs}
use Rattle.nova_turn.proofs.Settled.{refused_turn, same_view, settled_turn}
use Rattle.nova_deeds.proofs.Taken.{IsSettled, settled_counts, told_acts}
use Rattle.nova_turn.proofs.parts.Parts.conclude.Goals as goal

pub act-requires-clause-acts : goal.act-requires-clause-acts
act-requires-clause-acts c = told_acts (state_of c.args.self.now) c.args.cpu c.args.chosen c.requires.told

pub stir-requires-clause-counted : goal.stir-requires-clause-counted
stir-requires-clause-counted c =
    still_counted (state_of c.args.self.now) (state_of c.act.new.self) c.args.chosen.actor c.args.deed c.in_ok-act.ensures.done c.requires.ready.tables.counted.kept.tables.guests

pub stir-requires-clause-few : goal.stir-requires-clause-few
stir-requires-clause-few c =
    let k : KernelState = state_of c.args.self.now in
    let mid : KernelState = state_of c.act.new.self in
    stirs-fit mid (IsCharged-kept k mid c.in_ok-act.ensures.kept c.requires.ready.tables.counted.charged)
    (subst (λ (turns : ℕ). turns < 2 ^ 31) (sym c.in_ok-act.ensures.kept.turns) c.requires.ready.turns)

pub charge-requires-clause-charged : goal.charge-requires-clause-charged
charge-requires-clause-charged c =
    let mid : KernelState = state_of c.act.new.self in
    subst IsToBeCharged (sym c.stir.ensures.shown)
    (IsCharged-risen mid _ (IsCharged-kept (state_of c.args.self.now) mid c.in_ok-act.ensures.kept c.requires.ready.tables.counted.charged))

pub charge-requires-clause-queued : goal.charge-requires-clause-queued
charge-requires-clause-queued c =
    let mid : KernelState = state_of c.act.new.self in
    let rises = is_stirring mid c.act.new.self.reach.written c.args.chosen.actor c.args.deed in
    subst (λ (s : KernelState). AreQueued s c.stir.new.self.queues.all) (sym c.stir.ensures.shown)
    (subst (λ (q : QueuesState). AreQueued (risen_in mid rises) q.all) (sym c.stir.ensures.queues)
    (queued_risen mid rises c.act.new.self.queues.all c.in_ok-act.ensures.queued))

pub charge-requires-clause-there : goal.charge-requires-clause-there
charge-requires-clause-there c =
    let p = c.args.self.now in
    subst (λ (q : QueuesState). IsSome (queued_at q.all c.args.chosen.sc)) (sym c.stir.ensures.queues)
    (still_queued p.queues.all c.act.new.self.queues.all (length p.objects.items) (length c.act.new.self.objects.items) c.args.chosen.sc c.requires.pays
    (c.in_ok-act.ensures.kept.budgets c.args.chosen.sc))

pub returns-in_err-act-clause-taken : goal.returns-in_err-act-clause-taken
returns-in_err-act-clause-taken c =
    let p = c.args.self.now in
    let failed : IsErr c.from_residual.result = search rules in
    refused_turn (view_of p) (view_of c.act.new.self) c.args.cpu c.from_residual.result failed
    (same_view p c.act.new.self c.in_err-act.ensures.memory.0 c.in_err-act.ensures.memory.1)
    (making-wants (state_of p) c.args.cpu c.args.chosen c.from_residual.result c.requires.none_due c.requires.told c.in_err-act.ensures.making)

pub returns-in_err-act-clause-tables : goal.returns-in_err-act-clause-tables
returns-in_err-act-clause-tables c = record {
  counted = subst IsCounted (sym c.in_err-act.ensures.memory.0) c.requires.ready.tables.counted;
  queued = c.act.ensures.queued;
  running = c.act.ensures.running;
}

pub returns-clause-taken : goal.returns-clause-taken
returns-clause-taken c =
    let kept = c.in_ok-act.ensures.kept in
    let settled : IsSettled (state_of c.args.self.now) (state_of c.act.new.self) (state_of c.charge.new.self) c.args.cpu c.args.chosen c.args.deed c.act.new.self.reach.written = record {
      none_due = c.requires.none_due;
      told = c.requires.told;
      decided = c.requires.own;
      does = c.in_ok-act.ensures.done;
      wrote = λ is. let never : true ≡ false = sym (ap is_step is) ∙ c.requires.fits.1 in absurd cc;
      settled = c.charge.ensures.charged ∙ ap (λ (s : KernelState). charged s c.args.cpu c.args.chosen.sc) c.stir.ensures.shown;
    } in
    settled_turn c.args.self.now c.charge.new.self (state_of c.act.new.self) c.args.cpu c.args.chosen c.args.deed c.act.new.self.reach.written c.sign_of.result c.event.result
    settled c.sign_of.ensures c.event.ensures
    (let acted = c.act.ensures.log in let stirred = c.stir.ensures.log in let paid = c.charge.ensures.log in omega arith)
    (c.charge.ensures.turns ∙ ap (λ (n : ℕ). n + 1) (c.stir.ensures.turns ∙ kept.turns))
    (c.charge.ensures.cpus ∙ c.stir.ensures.cpus ∙ kept.cpus)

pub returns-clause-tables : goal.returns-clause-tables
returns-clause-tables c =
    let k : KernelState = state_of c.args.self.now in
    let mid : KernelState = state_of c.act.new.self in
    let settled : IsSettled k mid (state_of c.charge.new.self) c.args.cpu c.args.chosen c.args.deed c.act.new.self.reach.written = record {
      none_due = c.requires.none_due;
      told = c.requires.told;
      decided = c.requires.own;
      does = c.in_ok-act.ensures.done;
      wrote = λ is. let never : true ≡ false = sym (ap is_step is) ∙ c.requires.fits.1 in absurd cc;
      settled = c.charge.ensures.charged ∙ ap (λ (s : KernelState). charged s c.args.cpu c.args.chosen.sc) c.stir.ensures.shown;
    } in record {
      counted =
          settled_counts k mid (state_of c.charge.new.self) c.args.cpu c.args.chosen c.args.deed c.act.new.self.reach.written settled c.in_ok-act.ensures.kept
          c.requires.ready.turns (c.turns_keep_what_they_find.ensures.turns k c.args.cpu c.requires.ready.tables.counted.kept) c.requires.ready.tables.counted;
      queued = c.charge.ensures.queued;
      running =
          settled_runs mid (state_of c.stir.new.self) (state_of c.charge.new.self) (is_stirring mid c.act.new.self.reach.written c.args.chosen.actor c.args.deed) c.args.cpu
          c.args.chosen.sc c.act.new.self.revokes c.stir.new.self.revokes c.charge.new.self.revokes c.in_ok-act.ensures.running c.stir.ensures.shown c.stir.ensures.revokes
          c.charge.ensures.charged c.charge.ensures.revokes;
    }
