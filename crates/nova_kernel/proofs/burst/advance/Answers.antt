use Rattle.std.proofs.Common.{rules, refl, arith, ◌+◌, ◌≤◌, List, ◌≡◌, ◌<◌, ◌^◌, ℕ, ap, sym, ◌∙◌, subst}
use Rattle.std.specs.Prelude.{IfSome, option_map, replicate, slice_get, true}
use Rattle.nova_choice.specs.Choices.{chosen_of}
use Rattle.nova_choice.specs.Schedules.{AreQueued}
use Rattle.law_leases.specs.Commits.{IsReached}
use Rattle.law_leases.proofs.Committed.{run_reached}
use Rattle.law_leases.proofs.Parts.{laid_advance}
use Rattle.law_leases.specs.Paging.{AreFrames, stores_seen}
use Rattle.law_leases.specs.declared.steps.Page.{Page}
use Rattle.nova_model.specs.State.{KernelState, entry}
use Rattle.nova_turn.specs.Parts.{state_of}
use Rattle.nova_turn.specs.declared.parts.Parts.{Parts}
use Rattle.nova_kernel.proofs.Advancing.{IsLaid, counted_after, counts_fit, few_stores, is_chosen, lays, paid_times, queued_after, running_after, still_acts, still_frames, to_be_charged}
use Rattle.nova_kernel.proofs.Rides.{bounds_without}
use Rattle.nova_kernel.proofs.Spending.{left_queued}
use Rattle.nova_choice.specs.declared.choice.Chosen.{Chosen}
use Rattle.nova_sched.specs.Queues.{queued_at}
use Rattle.nova_sched.specs.declared.queued.Queued.{Queued}
use Rattle.nova_kernel.specs.Begun.{IsBegun}
use Rattle.nova_kernel.proofs.Begun.{run_begun}
use Rattle.nova_kernel.proofs.burst.advance.Goals as goal

pub unreachable-requires : goal.unreachable-requires
unreachable-requires c = c.in_default.not-Some _ (c.choice.ensures.choice ∙ ap (option_map chosen_of) c.requires.may.may.chosen)

pub charge_times-requires-clause-charged : goal.charge_times-requires-clause-charged
charge_times-requires-clause-charged c = bounds_without (state_of c.args.parts.now) (to_be_charged (state_of c.args.parts.now) c.requires.counted.charged)

pub charge_times-requires-clause-cpu : goal.charge_times-requires-clause-cpu
charge_times-requires-clause-cpu c = subst (λ (n : ℕ). c.args.cpu < n) c.requires.counted.charged.processors c.requires.may.may.processor

pub charge_times-requires-clause-left : goal.charge_times-requires-clause-left
charge_times-requires-clause-left c =
    let k : KernelState = state_of c.args.parts.now in
    let may = c.requires.may in
    let chosen : may.chosen.sc ≡ c.in-Some.chosen.sc = ap (λ (d : Chosen). d.sc) (sym (is_chosen k c.args.cpu c.args.steps.now c.in-Some.chosen may (sym c.in-Some.is ∙ c.choice.ensures.choice))) in
    subst (λ (n : ℕ). IfSome (queued_at c.args.parts.now.queues.all n) (λ (e : Queued). c.args.steps.now.count ≤ e.budget.left)) chosen
    (left_queued k c.args.parts.now.queues.all may.chosen.sc c.args.steps.now.count may.budget refl may.may.budget may.left)

pub set_regs-requires : goal.set_regs-requires
set_regs-requires c =
    still_acts (state_of c.args.parts.now) c.args.cpu c.args.steps.now c.in-Some.chosen c.charge_times.new.parts c.requires.reached c.requires.may
    (sym c.in-Some.is ∙ c.choice.ensures.choice) c.charge_times.ensures.charged

pub write_pages-requires : goal.write_pages-requires
write_pages-requires c =
    let first : c.deref.result.now ≡ c.args.steps.now.pages.items = search rules in
    subst (λ (ps : List Page). AreFrames (state_of c.charge_times.new.parts).memory.ram ps) (sym first)
    (still_frames (state_of c.args.parts.now) c.args.cpu c.args.steps.now c.in-Some.chosen c.charge_times.new.parts c.requires.reached c.requires.may
    (sym c.in-Some.is ∙ c.choice.ensures.choice) c.charge_times.ensures.charged)

pub count_stores-requires-clause-stores : goal.count_stores-requires-clause-stores
count_stores-requires-clause-stores c =
    let second : c.deref-2.result.now ≡ c.args.steps.now.pages.items = search rules in
    let few = few_stores (state_of c.args.parts.now) c.args.cpu c.args.steps.now c.requires.may in
    let most = c.requires.turns in
    subst (λ (ps : List Page). stores_seen (λ f. true) ps < 2 ^ 64) (sym second) (omega (arith, few, most))

pub count_stores-requires-clause-counts : goal.count_stores-requires-clause-counts
count_stores-requires-clause-counts c =
    let second : c.deref-2.result.now ≡ c.args.steps.now.pages.items = search rules in
    subst (λ (ps : List Page). (g : ℕ) → IfSome (entry (slice_get (state_of c.charge_times.new.parts).stirs.guests g)) (λ n. n + stores_seen (λ f. true) ps < 2 ^ 64)) (sym second)
    (counts_fit (state_of c.args.parts.now) c.args.cpu c.args.steps.now c.in-Some.chosen c.charge_times.new.parts c.requires.counted c.requires.may
    (sym c.in-Some.is ∙ c.choice.ensures.choice) c.charge_times.ensures.charged c.requires.turns)

pub returns-clause-state : goal.returns-clause-state
returns-clause-state c =
    let k : KernelState = state_of c.args.parts.now in
    let may = c.requires.may in
    let laid : IsLaid k c.args.cpu c.args.steps.now c.in-Some.chosen c.charge_times.new.parts c.set_regs.new.self c.deref.result.now c.write_pages.new.reach c.deref-2.result.now c.count_stores.new.parts = record {
      told = sym c.in-Some.is ∙ c.choice.ensures.choice;
      paid = c.charge_times.ensures.charged;
      regs = c.set_regs.ensures;
      frames = c.write_pages.ensures;
      counts = c.count_stores.ensures.counts;
      first = search rules;
      second = search rules;
      rest = c.count_stores.ensures.rest;
    } in
    lays k c.args.cpu c.args.steps.now c.in-Some.chosen c.charge_times.new.parts c.set_regs.new.self c.deref.result.now c.write_pages.new.reach c.deref-2.result.now c.count_stores.new.parts may laid
    ∙ sym (laid_advance k c.args.cpu may.chosen may.budget c.args.steps.now c.requires.reached.sound may.may may.left may.early may.runs)

pub returns-clause-counted : goal.returns-clause-counted
returns-clause-counted c =
    let k : KernelState = state_of c.args.parts.now in
    let laid : IsLaid k c.args.cpu c.args.steps.now c.in-Some.chosen c.charge_times.new.parts c.set_regs.new.self c.deref.result.now c.write_pages.new.reach c.deref-2.result.now c.count_stores.new.parts = record {
      told = sym c.in-Some.is ∙ c.choice.ensures.choice;
      paid = c.charge_times.ensures.charged;
      regs = c.set_regs.ensures;
      frames = c.write_pages.ensures;
      counts = c.count_stores.ensures.counts;
      first = search rules;
      second = search rules;
      rest = c.count_stores.ensures.rest;
    } in
    counted_after k (state_of c.count_stores.new.parts) c.args.cpu c.args.steps.now c.requires.counted c.requires.reached c.requires.may c.requires.turns
    (lays k c.args.cpu c.args.steps.now c.in-Some.chosen c.charge_times.new.parts c.set_regs.new.self c.deref.result.now c.write_pages.new.reach c.deref-2.result.now c.count_stores.new.parts c.requires.may laid)

pub returns-clause-reached : goal.returns-clause-reached
returns-clause-reached c =
    let k : KernelState = state_of c.args.parts.now in
    let may = c.requires.may in
    let laid : IsLaid k c.args.cpu c.args.steps.now c.in-Some.chosen c.charge_times.new.parts c.set_regs.new.self c.deref.result.now c.write_pages.new.reach c.deref-2.result.now c.count_stores.new.parts = record {
      told = sym c.in-Some.is ∙ c.choice.ensures.choice;
      paid = c.charge_times.ensures.charged;
      regs = c.set_regs.ensures;
      frames = c.write_pages.ensures;
      counts = c.count_stores.ensures.counts;
      first = search rules;
      second = search rules;
      rest = c.count_stores.ensures.rest;
    } in
    subst IsReached
    (laid_advance k c.args.cpu may.chosen may.budget c.args.steps.now c.requires.reached.sound may.may may.left may.early may.runs
    ∙ sym (lays k c.args.cpu c.args.steps.now c.in-Some.chosen c.charge_times.new.parts c.set_regs.new.self c.deref.result.now c.write_pages.new.reach c.deref-2.result.now c.count_stores.new.parts may laid))
    (run_reached k (replicate c.args.steps.now.count c.args.cpu) c.requires.reached)

pub returns-clause-begun : goal.returns-clause-begun
returns-clause-begun c =
    let k : KernelState = state_of c.args.parts.now in
    let may = c.requires.may in
    let laid : IsLaid k c.args.cpu c.args.steps.now c.in-Some.chosen c.charge_times.new.parts c.set_regs.new.self c.deref.result.now c.write_pages.new.reach c.deref-2.result.now c.count_stores.new.parts = record {
      told = sym c.in-Some.is ∙ c.choice.ensures.choice;
      paid = c.charge_times.ensures.charged;
      regs = c.set_regs.ensures;
      frames = c.write_pages.ensures;
      counts = c.count_stores.ensures.counts;
      first = search rules;
      second = search rules;
      rest = c.count_stores.ensures.rest;
    } in
    subst IsBegun
    (laid_advance k c.args.cpu may.chosen may.budget c.args.steps.now c.requires.reached.sound may.may may.left may.early may.runs
    ∙ sym (lays k c.args.cpu c.args.steps.now c.in-Some.chosen c.charge_times.new.parts c.set_regs.new.self c.deref.result.now c.write_pages.new.reach c.deref-2.result.now c.count_stores.new.parts may laid))
    (run_begun k (replicate c.args.steps.now.count c.args.cpu) c.requires.begun)

pub returns-clause-queued : goal.returns-clause-queued
returns-clause-queued c =
    let k : KernelState = state_of c.args.parts.now in
    let told = sym c.in-Some.is ∙ c.choice.ensures.choice in
    let laid : IsLaid k c.args.cpu c.args.steps.now c.in-Some.chosen c.charge_times.new.parts c.set_regs.new.self c.deref.result.now c.write_pages.new.reach c.deref-2.result.now c.count_stores.new.parts = record {
      told = told;
      paid = c.charge_times.ensures.charged;
      regs = c.set_regs.ensures;
      frames = c.write_pages.ensures;
      counts = c.count_stores.ensures.counts;
      first = search rules;
      second = search rules;
      rest = c.count_stores.ensures.rest;
    } in
    subst (AreQueued (state_of c.count_stores.new.parts)) (sym (ap (λ (p : Parts). p.queues.all) c.count_stores.ensures.rest))
    (queued_after k (state_of c.charge_times.new.parts) (state_of c.count_stores.new.parts) c.charge_times.new.parts.queues.all c.args.cpu c.args.steps.now c.requires.reached
    c.requires.may (paid_times k c.args.cpu c.args.steps.now c.in-Some.chosen c.charge_times.new.parts c.requires.may told c.charge_times.ensures.charged)
    (lays k c.args.cpu c.args.steps.now c.in-Some.chosen c.charge_times.new.parts c.set_regs.new.self c.deref.result.now c.write_pages.new.reach c.deref-2.result.now c.count_stores.new.parts c.requires.may laid)
    c.charge_times.ensures.queued)

pub returns-clause-running : goal.returns-clause-running
returns-clause-running c =
    let k : KernelState = state_of c.args.parts.now in
    let laid : IsLaid k c.args.cpu c.args.steps.now c.in-Some.chosen c.charge_times.new.parts c.set_regs.new.self c.deref.result.now c.write_pages.new.reach c.deref-2.result.now c.count_stores.new.parts = record {
      told = sym c.in-Some.is ∙ c.choice.ensures.choice;
      paid = c.charge_times.ensures.charged;
      regs = c.set_regs.ensures;
      frames = c.write_pages.ensures;
      counts = c.count_stores.ensures.counts;
      first = search rules;
      second = search rules;
      rest = c.count_stores.ensures.rest;
    } in
    running_after k (state_of c.count_stores.new.parts) c.args.parts.now.revokes c.count_stores.new.parts.revokes c.args.cpu c.args.steps.now c.requires.reached c.requires.may
    (lays k c.args.cpu c.args.steps.now c.in-Some.chosen c.charge_times.new.parts c.set_regs.new.self c.deref.result.now c.write_pages.new.reach c.deref-2.result.now c.count_stores.new.parts c.requires.may laid)
    (ap (λ (p : Parts). p.revokes) c.count_stores.ensures.rest ∙ c.charge_times.ensures.revokes) c.requires.running
