-- Turns that are taken at once leave all that always holds: bounds of what is counted, queues, and the list of revokes.
use mathlib.Core.Path.{fun_ext}
use Rattle.std.proofs.Common.{◌≡◌, ℕ, zero, suc, ◌+◌, ◌<◌, ◌≤◌, ◌^◌, List, length, inl, inr, ap, ap₂, sym, ◌∙◌, subst, refl, arith}
use Rattle.std.specs.Prelude.{true, replicate, slice_get, Option, Some, None, IsSome, IfSome, option_map, option_and_then}
use Rattle.std.specs.List.{filter_map, range_with_len}
use Rattle.std.proofs.lemmas.Bool.{cases_eq}
use Rattle.std.proofs.lemmas.List.{length-set}
use Rattle.std.proofs.lemmas.Option.{same_Some}
use Rattle.rv_model.specs.Registers.{Registers}
use Rattle.nova_model.specs.Choice.{choice}
use Rattle.nova_model.specs.Runs.{run}
use Rattle.nova_model.specs.Revokes.{Revocation}
use Rattle.nova_model.specs.Running.{revoke_by, running, running_of}
use Rattle.nova_model.specs.State.{Contexts, KernelState, budget_at, context, context_at, ec_in, ec_of, entry, pd_of, transfer_at, with_ec}
use Rattle.nova_model.specs.Turn.{charged, paid_by, quantum_in}
use Rattle.nova_model.specs.declared.budget.Budget.{Budget}
use Rattle.nova_model.specs.declared.context.EcState.{EcState}
use Rattle.nova_model.specs.declared.transfer.Transfer.{Transfer}
use Rattle.nova_model.specs.Views.{view}
use Rattle.law_turns.specs.Keeping.{IsKept}
use Rattle.nova_ec.specs.Tables.{EcTable, with_items}
use Rattle.nova_ec.proofs.Tables.{ec_in-set_other, ec_in-set_same}
use Rattle.law_leases.specs.Commits.{IsReached, MayAdvance}
use Rattle.law_leases.specs.Paging.{AreFrames, charged_at_once, charged_times, laid_counts, laid_pages, laid_regs, laid_steps, pages_written, seen_from, stored_to, stores_seen}
use Rattle.law_leases.specs.declared.steps.Page.{Page}
use Rattle.law_leases.specs.declared.steps.Steps.{Steps}
use Rattle.law_leases.proofs.Committed.{run_reached}
use Rattle.law_leases.proofs.Paid.{charged_all}
use Rattle.law_leases.proofs.Parts.{laid_advance}
use Rattle.law_leases.proofs.Stored.{few_seen, pages_whole}
use Rattle.nova_turn.specs.Runners.{RevokesState}
use Rattle.nova_sched.specs.Queues.{Schedule}
use Rattle.nova_choice.specs.Choices.{chosen_of}
use Rattle.nova_choice.specs.Schedules.{AreQueued}
use Rattle.nova_choice.specs.declared.choice.Chosen.{Chosen}
use Rattle.nova_choice.proofs.Waits.{KeepsQueued, kept_steady, queued_kept, there_at}
use Rattle.nova_turn.specs.Counted.{IsCharged, IsCounted, IsGivenWithin}
use Rattle.nova_turn.specs.Stirs.{IsStirredWithin}
pub use Rattle.nova_turn.proofs.Bursts.{to_be_charged}
use Rattle.nova_turn.proofs.Counts.{IsCharged-paid}
use Rattle.nova_turn.specs.Reach.{ReachState}
use Rattle.nova_turn.specs.Parts.{state_of}
use Rattle.nova_turn.specs.Revoking.{AreRunning}
use Rattle.nova_turn.specs.declared.parts.Parts.{Parts}
use Rattle.nova_kernel.proofs.Stores.{entry_seen, length_seen, less_for, stores_for}
use Rattle.nova_kernel.proofs.Views.{virtual_there}

-- WHICH CONTEXT IS CHOSEN

pub is_chosen : (k : KernelState) (cpu : ℕ) (s : Steps) (chosen : Chosen) → (may : MayAdvance k cpu s) → Some chosen ≡ option_map chosen_of (choice k cpu) → chosen ≡ chosen_of may.chosen
is_chosen k cpu s chosen may is = same_Some chosen (chosen_of may.chosen) (is ∙ ap (option_map chosen_of) may.may.chosen)

pub acts_there : (k : KernelState) (cpu : ℕ) (s : Steps) → IsReached k → (may : MayAdvance k cpu s) → IsSome (context_at k may.chosen.actor)
acts_there k cpu s is may = virtual_there k may.chosen.actor is.sound.kept.tables may.may.guest

-- WHAT IS CHARGED

one_charged : (k : KernelState) (cpu sc : ℕ) → k.turns < 2 ^ 31 → IsCharged k → IsCharged (charged k cpu sc)
unfolding charged
one_charged k cpu sc few h = IsCharged-paid k cpu sc (quantum_in (slice_get k.objects sc)) (budget_at k sc) refl few (to_be_charged k h)

turns_paid : (k : KernelState) (sc quantum : ℕ) (o : Option Budget) → (paid_by k sc quantum o).turns ≡ k.turns
turns_paid k sc quantum None = refl
turns_paid k sc quantum (Some b) = refl

one_turn : (k : KernelState) (cpu sc : ℕ) → (charged k cpu sc).turns ≡ k.turns + 1
unfolding charged
one_turn k cpu sc = ap (λ (n : ℕ). n + 1) (turns_paid k sc (quantum_in (slice_get k.objects sc)) (budget_at k sc))

turns_times : (n : ℕ) (k : KernelState) (cpu sc : ℕ) → (charged_times n k cpu sc).turns ≡ k.turns + n
turns_times zero k cpu sc = omega arith
turns_times (suc n) k cpu sc = let one = one_turn (charged_times n k cpu sc) cpu sc in let all = turns_times n k cpu sc in omega (arith, one, all)

all_charged : (n : ℕ) (k : KernelState) (cpu sc : ℕ) → k.turns + n ≤ 2 ^ 31 → IsCharged k → IsCharged (charged_times n k cpu sc)
all_charged zero k cpu sc few h = h
all_charged (suc n) k cpu sc few h =
    one_charged (charged_times n k cpu sc) cpu sc (let all = turns_times n k cpu sc in omega (arith, all, few)) (all_charged n k cpu sc (omega (arith, few)) h)

-- the state with the turns charged
pub at_once : (k : KernelState) (cpu : ℕ) (s : Steps) → (may : MayAdvance k cpu s) → charged_times s.count k cpu may.chosen.sc ≡ charged_at_once k cpu may.chosen.sc may.budget s.count
at_once k cpu s may = charged_all s.count k cpu may.chosen.sc may.budget may.left may.may.budget may.may.processor may.may.clock

-- WHAT THE CODE LEAVES

-- the parts after the charge, and then with registers, frames and counts; the pages as each of the last two has them
pub record IsLaid (k : KernelState) (cpu : ℕ) (s : Steps) (chosen : Chosen) (p : Parts) (t : EcTable) (written : List Page) (r : ReachState) (seen : List Page) (new : Parts) : Type 0 where
  pub told : Some chosen ≡ option_map chosen_of (choice k cpu)
  pub paid : state_of p ≡ charged_times s.count k cpu chosen.sc
  pub regs : t ≡ with_items p.contexts (with_ec p.contexts.items chosen.actor (record (ec_of p.contexts.items chosen.actor) { regs = s.regs }))
  pub frames : r ≡ record p.reach { memory = record p.reach.memory { ram = pages_written (stored_to written) p.reach.memory.ram } }
  pub counts : new.guests.counts ≡ seen_from (state_of (record p { contexts = t; reach = r })) chosen.actor seen 0 p.guests.counts
  pub first : written ≡ s.pages.items
  pub second : seen ≡ s.pages.items
  pub rest : new ≡ record p { contexts = t; reach = r; guests = new.guests }

pub paid_times : (k : KernelState) (cpu : ℕ) (s : Steps) (chosen : Chosen) (p : Parts) → (may : MayAdvance k cpu s) → Some chosen ≡ option_map chosen_of (choice k cpu) →
    state_of p ≡ charged_times s.count k cpu chosen.sc → state_of p ≡ charged_times s.count k cpu may.chosen.sc
paid_times k cpu s chosen p may told paid = paid ∙ ap (λ (c : Chosen). charged_times s.count k cpu c.sc) (is_chosen k cpu s chosen may told)

all_laid : (k : KernelState) (cpu : ℕ) (s : Steps) (chosen : Chosen) (p : Parts) (t : EcTable) (written : List Page) (r : ReachState) (seen : List Page) (new : Parts) → IsLaid k cpu s chosen p t written r seen new →
    state_of new ≡ laid_counts (laid_pages (laid_regs (state_of p) chosen.actor s.regs) s.pages.items) chosen.actor s.pages.items
all_laid k cpu s chosen p t written r seen new is =
    let tables : EcTable = with_items p.contexts (with_ec p.contexts.items chosen.actor (record (ec_of p.contexts.items chosen.actor) { regs = s.regs })) in
    let reach : ReachState = record p.reach { memory = record p.reach.memory { ram = pages_written (stored_to s.pages.items) p.reach.memory.ram } } in
    let frames : r ≡ reach = is.frames ∙ ap (λ (ps : List Page). record p.reach { memory = record p.reach.memory { ram = pages_written (stored_to ps) p.reach.memory.ram } }) is.first in
    let counts : new.guests.counts ≡ seen_from (state_of (record p { contexts = t; reach = r })) chosen.actor s.pages.items 0 p.guests.counts =
    is.counts ∙ ap (λ (ps : List Page). seen_from (state_of (record p { contexts = t; reach = r })) chosen.actor ps 0 p.guests.counts) is.second in
    ap state_of is.rest
    ∙ (ap₂ (λ (a : EcTable) (b : ReachState). state_of (record p { contexts = a; reach = b; guests = new.guests })) is.regs frames
    ∙ ap (λ (cs : List (Option ℕ)). state_of (record p { contexts = tables; reach = reach; guests = record p.guests { counts = cs } }))
    (counts ∙ ap₂ (λ (a : EcTable) (b : ReachState). seen_from (state_of (record p { contexts = a; reach = b })) chosen.actor s.pages.items 0 p.guests.counts) is.regs frames))

pub lays : (k : KernelState) (cpu : ℕ) (s : Steps) (chosen : Chosen) (p : Parts) (t : EcTable) (written : List Page) (r : ReachState) (seen : List Page) (new : Parts) → (may : MayAdvance k cpu s) →
    IsLaid k cpu s chosen p t written r seen new → state_of new ≡ laid_steps k cpu may.chosen.sc may.chosen.actor s
lays k cpu s chosen p t written r seen new may is =
    all_laid k cpu s chosen p t written r seen new is
    ∙ (ap (λ (c : Chosen). laid_counts (laid_pages (laid_regs (state_of p) c.actor s.regs) s.pages.items) c.actor s.pages.items) (is_chosen k cpu s chosen may is.told)
    ∙ ap (λ (l : KernelState). laid_counts (laid_pages (laid_regs l may.chosen.actor s.regs) s.pages.items) may.chosen.actor s.pages.items)
    (paid_times k cpu s chosen p may is.told is.paid))

-- WHAT IT FINDS

pub still_acts : (k : KernelState) (cpu : ℕ) (s : Steps) (chosen : Chosen) (p : Parts) → IsReached k → (may : MayAdvance k cpu s) → Some chosen ≡ option_map chosen_of (choice k cpu) →
    state_of p ≡ charged_times s.count k cpu chosen.sc → IsSome (context_at (state_of p) chosen.actor)
still_acts k cpu s chosen p is may told paid =
    subst (λ (l : KernelState). IsSome (context_at l chosen.actor)) (sym (paid_times k cpu s chosen p may told paid ∙ at_once k cpu s may))
    (subst (λ (c : Chosen). IsSome (context_at k c.actor)) (sym (is_chosen k cpu s chosen may told)) (acts_there k cpu s is may))

pub still_frames : (k : KernelState) (cpu : ℕ) (s : Steps) (chosen : Chosen) (p : Parts) → IsReached k → (may : MayAdvance k cpu s) → Some chosen ≡ option_map chosen_of (choice k cpu) →
    state_of p ≡ charged_times s.count k cpu chosen.sc → AreFrames (state_of p).memory.ram s.pages.items
still_frames k cpu s chosen p is may told paid =
    subst (λ (l : KernelState). AreFrames l.memory.ram s.pages.items) (sym (paid_times k cpu s chosen p may told paid ∙ at_once k cpu s may)) (pages_whole k cpu s is may)

pub few_stores : (k : KernelState) (cpu : ℕ) (s : Steps) → (may : MayAdvance k cpu s) → stores_seen (λ f. true) s.pages.items ≤ s.count
few_stores k cpu s may = few_seen (λ f. true) (view k may.chosen.actor) s.count s.pages.items may.runs.pages

count_fits : (turns n all : ℕ) (o : Option ℕ) → IsStirredWithin turns o → all ≤ n → turns + n ≤ 2 ^ 31 → IfSome o (λ c. c + all < 2 ^ 64)
count_fits turns n all (Some c) h few most = omega (arith, h, few, most)
count_fits turns n all None h few most = tt

pub counts_fit : (k : KernelState) (cpu : ℕ) (s : Steps) (chosen : Chosen) (p : Parts) → IsCounted k → (may : MayAdvance k cpu s) → Some chosen ≡ option_map chosen_of (choice k cpu) →
    state_of p ≡ charged_times s.count k cpu chosen.sc → k.turns + s.count ≤ 2 ^ 31 → (g : ℕ) → IfSome (entry (slice_get (state_of p).stirs.guests g)) (λ n. n + stores_seen (λ f. true) s.pages.items < 2 ^ 64)
counts_fit k cpu s chosen p c may told paid most g =
    subst (λ (l : KernelState). IfSome (entry (slice_get l.stirs.guests g)) (λ n. n + stores_seen (λ f. true) s.pages.items < 2 ^ 64))
    (sym (paid_times k cpu s chosen p may told paid ∙ at_once k cpu s may))
    (count_fits k.turns s.count (stores_seen (λ f. true) s.pages.items) (entry (slice_get k.stirs.guests g)) (c.charged.guests g) (few_stores k cpu s may) most)

-- THE QUEUES

regs_keep : (k : KernelState) (g : ℕ) (regs : Registers) (pages : List Page) → IsSome (context_at k g) → KeepsQueued None k (laid_counts (laid_pages (laid_regs k g regs) pages) g pages)
regs_keep k g regs pages there = record {
  contexts = kept_steady k.contexts g (context k g) (record (context k g) { regs = regs }) (there_at k.contexts g there) refl refl;
  objects = refl;
  budgets = refl;
  next_stamp = refl;
  cpus = refl;
}

pub queued_after : (k mid new : KernelState) (q : Schedule) (cpu : ℕ) (s : Steps) → IsReached k → (may : MayAdvance k cpu s) → mid ≡ charged_times s.count k cpu may.chosen.sc →
    new ≡ laid_steps k cpu may.chosen.sc may.chosen.actor s → AreQueued mid q → AreQueued new q
queued_after k mid new q cpu s is may charges lays queued =
    subst (λ (l : KernelState). AreQueued l q) (sym lays)
    (queued_kept None (charged_times s.count k cpu may.chosen.sc) (laid_steps k cpu may.chosen.sc may.chosen.actor s) q
    (subst (λ (l : KernelState). AreQueued l q) charges queued)
    (regs_keep (charged_times s.count k cpu may.chosen.sc) may.chosen.actor s.regs s.pages.items
    (subst (λ (l : KernelState). IsSome (context_at l may.chosen.actor)) (sym (at_once k cpu s may)) (acts_there k cpu s is may))))

-- THE REVOKES THAT RUN

pub revoke_set : (pd g e : ℕ) (cs : Contexts) (regs : Registers) → IsSome (ec_in cs g) →
    option_and_then (λ (x : EcState). revoke_by pd x.state) (ec_in (with_ec cs g (record (ec_of cs g) { regs = regs })) e) ≡ option_and_then (λ (x : EcState). revoke_by pd x.state) (ec_in cs e)
revoke_set pd g e cs regs there = elim (cases_eq e g) [
  | inl here ↦
      ap (λ (n : ℕ). option_and_then (λ (x : EcState). revoke_by pd x.state) (ec_in (with_ec cs g (record (ec_of cs g) { regs = regs })) n)) here
      ∙ (ap (option_and_then (λ (x : EcState). revoke_by pd x.state)) (ec_in-set_same cs g (ec_of cs g) (record (ec_of cs g) { regs = regs }) (there_at cs g there))
      ∙ (sym (ap (option_and_then (λ (x : EcState). revoke_by pd x.state)) (there_at cs g there))
      ∙ sym (ap (λ (n : ℕ). option_and_then (λ (x : EcState). revoke_by pd x.state) (ec_in cs n)) here)))
  | inr ne ↦ ap (option_and_then (λ (x : EcState). revoke_by pd x.state)) (ec_in-set_other cs g e (Some (record (ec_of cs g) { regs = regs })) ne)
]

running_set : (k : KernelState) (g : ℕ) (regs : Registers) (pages : List Page) → IsSome (context_at k g) → running (laid_counts (laid_pages (laid_regs k g regs) pages) g pages) ≡ running k
running_set k g regs pages there =
    ap₂ (λ (f : ℕ → Option Revocation) (n : ℕ). filter_map (λ ec. running_of ec (f ec)) (range_with_len 0 n))
    (fun_ext (λ e. revoke_set (pd_of k e) g e k.contexts regs there)) (length-set k.contexts g (Some (record (context k g) { regs = regs })))

pub running_after : (k new : KernelState) (r after : RevokesState) (cpu : ℕ) (s : Steps) → IsReached k → (may : MayAdvance k cpu s) →
    new ≡ laid_steps k cpu may.chosen.sc may.chosen.actor s → after ≡ r → AreRunning k r → AreRunning new after
running_after k new r after cpu s is may lays same are =
    let mid : KernelState = charged_at_once k cpu may.chosen.sc may.budget s.count in
    let last : KernelState = laid_counts (laid_pages (laid_regs mid may.chosen.actor s.regs) s.pages.items) may.chosen.actor s.pages.items in
    let goes : new ≡ last = lays ∙ ap (λ (l : KernelState). laid_counts (laid_pages (laid_regs l may.chosen.actor s.regs) s.pages.items) may.chosen.actor s.pages.items) (at_once k cpu s may) in
    let places = are.places in
    let long : length last.contexts ≡ length k.contexts = length-set k.contexts may.chosen.actor (Some (record (context k may.chosen.actor) { regs = s.regs })) in
    let now : AreRunning last r = record {
      list = are.list ∙ sym (running_set mid may.chosen.actor s.regs s.pages.items (acts_there k cpu s is may));
      places = omega (arith, places, long);
    } in
    subst (λ (l : KernelState). AreRunning l after) (sym goes) (subst (AreRunning last) (sym same) now)

-- BOUNDS OF WHAT IS COUNTED

more_given : (turns n : ℕ) (o : Option Transfer) → IsGivenWithin turns o → IsGivenWithin (turns + n) o
more_given turns n (Some t) h = omega (arith, h)
more_given turns n None h = omega arith

more_stirred : (turns n more : ℕ) (o : Option ℕ) → more ≤ n → IsStirredWithin turns o → IsStirredWithin (turns + n) (option_map (λ c. c + more) o)
more_stirred turns n more (Some c) few h = omega (arith, few, h)
more_stirred turns n more None few h = omega arith

few_for : (k l : KernelState) (cpu : ℕ) (s : Steps) → (may : MayAdvance k cpu s) → (g : ℕ) → stores_for l may.chosen.actor s.pages.items g ≤ s.count
few_for k l cpu s may g =
    let all = few_stores k cpu s may in
    let less = less_for l may.chosen.actor s.pages.items g in
    omega (arith, all, less)

pub counted_after : (k new : KernelState) (cpu : ℕ) (s : Steps) → IsCounted k → IsReached k → (may : MayAdvance k cpu s) → k.turns + s.count ≤ 2 ^ 31 →
    new ≡ laid_steps k cpu may.chosen.sc may.chosen.actor s → IsCounted new
counted_after k new cpu s c is may few lays =
    let n = s.count in
    let g = may.chosen.actor in
    let mid : KernelState = charged_at_once k cpu may.chosen.sc may.budget n in
    let before : KernelState = laid_pages (laid_regs mid g s.regs) s.pages.items in
    let last : KernelState = laid_counts before g s.pages.items in
    let goes : new ≡ last = lays ∙ ap (λ (l : KernelState). laid_counts (laid_pages (laid_regs l g s.regs) s.pages.items) g s.pages.items) (at_once k cpu s may) in
    let ran : run k (replicate n cpu) ≡ new = laid_advance k cpu may.chosen may.budget s is.sound may.may may.left may.early may.runs ∙ sym lays in
    let kept : IsKept last = subst IsKept (ran ∙ goes) (run_reached k (replicate n cpu) is).sound.kept in
    let paid : IsCharged mid = subst IsCharged (at_once k cpu s may) (all_charged n k cpu may.chosen.sc few c.charged) in
    subst IsCounted (sym goes) (record {
      charged = record {
        turns = paid.turns;
        processors = paid.processors;
        stamps = paid.stamps;
        ticks = paid.ticks;
        stirs = paid.stirs;
        guests = λ i. subst (IsStirredWithin (k.turns + n)) (sym (entry_seen before g s.pages.items i k.stirs.guests))
            (more_stirred k.turns n (stores_for before g s.pages.items i) (entry (slice_get k.stirs.guests i)) (few_for k before cpu s may i) (c.charged.guests i));
      };
      numbered = record {
        objects = let h = c.numbered.objects in omega (arith, h);
        derivations = let h = c.numbered.derivations in omega (arith, h);
      };
      tables = record {
        contexts = length-set k.contexts g _ ∙ c.tables.contexts;
        messages = c.tables.messages;
        transfers = c.tables.transfers;
        budgets = length-set k.budgets may.chosen.sc _ ∙ c.tables.budgets;
        identifiers = c.tables.identifiers;
        semaphores = c.tables.semaphores;
        guests = length_seen before g s.pages.items 0 k.stirs.guests ∙ c.tables.guests;
        deadlines = c.tables.deadlines;
      };
      children = λ ec. more_given k.turns n (transfer_at k ec) (c.children ec);
      items = c.items;
      forest = c.forest;
      kept = kept;
    })
