use Rattle.std.proofs.Common.{arith, ◌≡◌, ◌+◌, ◌-◌, ◌<◌, ◌^◌, ℕ, suc, length, ap, ap₂, sym, subst, refl, ◌∙◌}
use Rattle.std.specs.Prelude.{IfSome, IsSome}
use Rattle.nova_model.specs.State.{KernelState}
use Rattle.nova_model.specs.Times.{Times}
use Rattle.law_leases.specs.Paging.{charged_times}
use Rattle.nova_turn.specs.Parts.{state_of}
use Rattle.nova_choice.specs.Schedules.{AreQueued, budgets_of}
use Rattle.nova_sched.specs.Queues.{Schedule, charged_schedule, charged_schedules, queued_at}
use Rattle.nova_sched.specs.declared.queued.Queued.{Queued}
use Rattle.nova_times.specs.Kept.{TimesState}
use Rattle.nova_kernel.proofs.Charging.{few_stamps, few_ticks}
use Rattle.nova_kernel.proofs.Spending.{IsSpent, spent, times_without, to_be_charged_still}
use Rattle.nova_kernel.specs.Rides.{without_counts}
use Rattle.nova_kernel.proofs.riding.charge_times.Goals as goal

pub charge-requires-clause-there : goal.charge-requires-clause-there
charge-requires-clause-there c =
    let k : KernelState = state_of c.args.parts.now in
    let within : c.args.cpu < length k.stirs.processors = subst (λ (n : ℕ). c.args.cpu < n) (sym c.requires.charged.processors) c.requires.cpu in
    let before : IsSpent k c.args.parts.now.queues.all c.args.cpu c.args.sc (c.args.count - 1) =
    spent k c.args.parts.now.queues.all c.args.cpu c.args.sc c.requires.queued refl refl c.requires.there within within (c.args.count - 1) in
    subst (λ (t : Schedule). IsSome (queued_at t c.args.sc)) (sym c.spend.ensures.charged) before.there

pub charge-requires-clause-ticks : goal.charge-requires-clause-ticks
charge-requires-clause-ticks c =
    let k : KernelState = state_of c.args.parts.now in
    let most = c.requires.turns in
    let within : c.args.cpu < length k.stirs.processors = subst (λ (n : ℕ). c.args.cpu < n) (sym c.requires.charged.processors) c.requires.cpu in
    let before : IsSpent k c.args.parts.now.queues.all c.args.cpu c.args.sc (c.args.count - 1) =
    spent k c.args.parts.now.queues.all c.args.cpu c.args.sc c.requires.queued refl refl c.requires.there within within (c.args.count - 1) in
    subst (λ (t : Schedule). IfSome (queued_at t c.args.sc) (λ (e : Queued). e.budget.ticks < 2 ^ 64 - 1)) (sym c.spend.ensures.charged)
    (few_ticks (charged_times (c.args.count - 1) (without_counts k) c.args.cpu c.args.sc) (charged_schedules (c.args.count - 1) c.args.parts.now.queues.all c.args.sc) c.args.sc (length k.objects) (ap (λ (x : KernelState). x.budgets) (times_without (c.args.count - 1) k c.args.cpu c.args.sc ∙ ap without_counts before.shown))
    (to_be_charged_still (c.args.count - 1) (without_counts k) c.args.cpu c.args.sc (omega (arith, most)) c.requires.charged))

pub charge-requires-clause-stamp : goal.charge-requires-clause-stamp
charge-requires-clause-stamp c =
    let k : KernelState = state_of c.args.parts.now in
    let most = c.requires.turns in
    let within : c.args.cpu < length k.stirs.processors = subst (λ (n : ℕ). c.args.cpu < n) (sym c.requires.charged.processors) c.requires.cpu in
    let before : IsSpent k c.args.parts.now.queues.all c.args.cpu c.args.sc (c.args.count - 1) =
    spent k c.args.parts.now.queues.all c.args.cpu c.args.sc c.requires.queued refl refl c.requires.there within within (c.args.count - 1) in
    subst (λ (t : Schedule). t.next_stamp < 2 ^ 64 - 1) (sym c.spend.ensures.charged)
    (few_stamps (charged_times (c.args.count - 1) (without_counts k) c.args.cpu c.args.sc) (charged_schedules (c.args.count - 1) c.args.parts.now.queues.all c.args.sc) (ap (λ (x : KernelState). x.next_stamp) (times_without (c.args.count - 1) k c.args.cpu c.args.sc ∙ ap without_counts before.shown))
    (to_be_charged_still (c.args.count - 1) (without_counts k) c.args.cpu c.args.sc (omega (arith, most)) c.requires.charged))

pub pass-requires-clause-there : goal.pass-requires-clause-there
pass-requires-clause-there c = subst (λ (n : ℕ). c.args.cpu < n) (sym c.requires.charged.processors) c.requires.cpu

pub pass-requires-clause-bound : goal.pass-requires-clause-bound
pass-requires-clause-bound c =
    let turns = c.requires.turns in
    let clock = c.requires.charged.stirs c.args.cpu in
    omega (arith, turns, clock)

pub returns-clause-charged : goal.returns-clause-charged
returns-clause-charged c =
    let k : KernelState = state_of c.args.parts.now in
    let within : c.args.cpu < length k.stirs.processors = subst (λ (n : ℕ). c.args.cpu < n) (sym c.requires.charged.processors) c.requires.cpu in
    let is : IsSpent k c.args.parts.now.queues.all c.args.cpu c.args.sc c.args.count = spent k c.args.parts.now.queues.all c.args.cpu c.args.sc c.requires.queued refl refl c.requires.there within within c.args.count in
    let some = c.if-count-eq0.false in
    let more : suc (c.args.count - 1) ≡ c.args.count = grind (arith, some) in
    let all : c.charge.new.self.all ≡ charged_schedules c.args.count c.args.parts.now.queues.all c.args.sc =
    c.charge.ensures.charged ∙ (ap (λ (t : Schedule). charged_schedule t c.args.sc) c.spend.ensures.charged ∙ ap (λ (n : ℕ). charged_schedules n c.args.parts.now.queues.all c.args.sc) more) in
    ap₂ (λ (t : Schedule) (x : Times). record k {
      budgets = budgets_of t (length k.objects);
      next_stamp = t.next_stamp;
      turns = k.turns + c.args.count;
      stirs = record k.stirs { processors = x.clocks };
      times = x;
    }) all (ap (λ (s : TimesState). s.all) c.pass.ensures)
    ∙ sym is.shown

pub returns-clause-queued : goal.returns-clause-queued
returns-clause-queued c =
    let k : KernelState = state_of c.args.parts.now in
    let within : c.args.cpu < length k.stirs.processors = subst (λ (n : ℕ). c.args.cpu < n) (sym c.requires.charged.processors) c.requires.cpu in
    let is : IsSpent k c.args.parts.now.queues.all c.args.cpu c.args.sc c.args.count = spent k c.args.parts.now.queues.all c.args.cpu c.args.sc c.requires.queued refl refl c.requires.there within within c.args.count in
    let some = c.if-count-eq0.false in
    let more : suc (c.args.count - 1) ≡ c.args.count = grind (arith, some) in
    let all : c.charge.new.self.all ≡ charged_schedules c.args.count c.args.parts.now.queues.all c.args.sc =
    c.charge.ensures.charged ∙ (ap (λ (t : Schedule). charged_schedule t c.args.sc) c.spend.ensures.charged ∙ ap (λ (n : ℕ). charged_schedules n c.args.parts.now.queues.all c.args.sc) more) in
    subst (λ (x : KernelState). AreQueued x c.charge.new.self.all) (sym (returns-clause-charged c))
    (subst (λ (t : Schedule). AreQueued (charged_times c.args.count k c.args.cpu c.args.sc) t) (sym all) is.queued)

pub returns-clause-there : goal.returns-clause-there
returns-clause-there c =
    let k : KernelState = state_of c.args.parts.now in
    let within : c.args.cpu < length k.stirs.processors = subst (λ (n : ℕ). c.args.cpu < n) (sym c.requires.charged.processors) c.requires.cpu in
    let is : IsSpent k c.args.parts.now.queues.all c.args.cpu c.args.sc c.args.count = spent k c.args.parts.now.queues.all c.args.cpu c.args.sc c.requires.queued refl refl c.requires.there within within c.args.count in
    let some = c.if-count-eq0.false in
    let more : suc (c.args.count - 1) ≡ c.args.count = grind (arith, some) in
    let all : c.charge.new.self.all ≡ charged_schedules c.args.count c.args.parts.now.queues.all c.args.sc =
    c.charge.ensures.charged ∙ (ap (λ (t : Schedule). charged_schedule t c.args.sc) c.spend.ensures.charged ∙ ap (λ (n : ℕ). charged_schedules n c.args.parts.now.queues.all c.args.sc) more) in
    subst (λ (t : Schedule). IsSome (queued_at t c.args.sc)) (sym all) is.there
