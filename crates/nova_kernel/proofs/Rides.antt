-- Instructions that go on one after another, from what each of them came to.
use Rattle.std.proofs.Common.{◌≡◌, ◌+◌, ◌-◌, ◌^◌, ◌<◌, ◌≤◌, ℕ, zero, suc, ap, ap₂, sym, subst, ◌∙◌, refl, length, arith, List, false}
use Rattle.std.specs.Prelude.{map, Option, Some, None, IsSome, IfSome, is_some, option_and_then, option_map, replicate, slice_get}
use Rattle.rv_core.specs.declared.outcome.Outcome.TheVariants.{Next, Raise}
use Rattle.rv_model.specs.Registers.{Registers}
use Rattle.rv_model.specs.Step.{Once, Raised, Went}
use Rattle.nova_model.specs.Deeds.{deed, done, instruction, stepped}
use Rattle.nova_model.specs.Inputs.{stirred}
use Rattle.nova_model.specs.Capabilities.{is_vcpu}
use Rattle.nova_model.specs.State.{KernelState}
use Rattle.nova_model.specs.declared.deed.Deed.TheVariants.{Steps}
use Rattle.nova_turn.specs.Acts.{outcome_of}
use mathlib.Core.Path.{fun_ext}
use Rattle.std.proofs.lemmas.Option.{same_Some}
use Rattle.nova_model.specs.declared.context.State.TheVariants.{Ready}
use Rattle.nova_turn.specs.Views.{left_of}
use Rattle.law_leases.specs.Commits.{IsReached}
use Rattle.std.proofs.lemmas.List.{length-set}
use Rattle.nova_model.specs.Revokes.{Revocation}
use Rattle.nova_model.specs.Running.{running, running_of}
use Rattle.law_turns.specs.Keeping.{IsKept}
use Rattle.nova_turn.specs.Runners.{RevokesState}
use Rattle.std.specs.List.{filter_map, range_with_len}
use Rattle.nova_model.specs.Choice.{Candidate, choice, next_to_act}
use Rattle.nova_model.specs.Edges.{AreEdges}
use Rattle.law_forest.proofs.Turning.{acts_chosen}
use Rattle.law_turns.specs.Moments.{IsEarly}
use Rattle.law_turns.proofs.Moments.{early_fewer}
use Rattle.nova_model.specs.Runs.{after, run, trace}
use Rattle.nova_model.specs.Turn.{charged, counted, paid_by, quantum_in}
use Rattle.nova_model.specs.declared.budget.Budget.{Budget}
use Rattle.nova_model.specs.declared.context.EcState.{EcState}
use Rattle.nova_ec.specs.Tables.{actor_in}
use Rattle.nova_ec.proofs.Donors.{same_state_keeps_chases}
use Rattle.nova_ec.proofs.Untouched.{same_actor}
use Rattle.law_leases.specs.Advances.{step_of}
use Rattle.nova_turn.specs.Beside.{with_regs}
use Rattle.nova_turn.specs.Known.{AreKnown}
use Rattle.law_leases.proofs.Advanced.{set_there}
use Rattle.nova_kernel.proofs.Known.{AreLedOn, known_along, known_on, paid_on}
use Rattle.nova_turn.specs.Revoking.{AreRunning}
use Rattle.nova_turn.specs.Homes.{HasCounts}
use Rattle.nova_turn.specs.Stirs.{IsStirredWithin, is_stirring, risen_in, written_frame}
use Rattle.nova_turn.proofs.Keeps.{done-keeps}
use Rattle.nova_turn.proofs.Taken.{IsSettled, settled_counts, settled_state}
use Rattle.nova_choice.specs.Choices.{chosen_of}
use Rattle.nova_model.specs.State.{Contexts, budget_at, context, context_at, entry, pd_of, with_ec}
use Rattle.nova_choice.specs.Schedules.{AreQueued, budgets_of}
use Rattle.nova_choice.specs.declared.choice.Chosen.{Chosen}
use Rattle.nova_choice.proofs.Waits.{LeadsBut, kept_steady, queued_kept, there_at}
use Rattle.nova_turn.specs.Counted.{IsCharged, IsCounted, IsToBeCharged}
use Rattle.nova_sched.specs.Queues.{Schedule, queued_at}
use Rattle.nova_sched.specs.declared.queued.Queued.{Queued}
use Rattle.law_leases.specs.Paging.{charged_times}
use Rattle.law_leases.specs.Rides.{ride, rides, rides_by}
use Rattle.law_leases.proofs.Riding.{IsRidden, kept_along, ridden, rode}
use Rattle.nova_kernel.specs.Rides.{MayCount, MayRide, step_by, without_counts}
use Rattle.nova_choice.proofs.Budgets.{budget_queued}
use Rattle.nova_kernel.proofs.Advancing.{revoke_set, to_be_charged}
use Rattle.nova_kernel.proofs.Spending.{left_queued}

-- one more, from what an instruction came to
pub rides_more : (n : ℕ) (k p new : KernelState) (g : ℕ) → rides n k g ≡ Some p → Next ≡ outcome_of (instruction p g) → new ≡ stirred p g Steps (done p g Steps) → rides (suc n) k g ≡ Some new
rides_more n k p new g goes next does = ap (option_and_then (ride g)) goes ∙ (by_outcome (instruction p g) next ∙ ap Some (sym does)) where
  by_outcome : (o : Once) → Next ≡ outcome_of o → rides_by p g o ≡ Some (stirred p g Steps (stepped p g o))
  by_outcome (Raised reason q0 q1) next = absurd (cc)
  by_outcome (Went regs store) next = refl

-- a raise leaves all as it was, so that the next instruction is that which raised
pub raise_stays : (k new : KernelState) (g reason q0 q1 : ℕ) → Raise reason q0 q1 ≡ outcome_of (instruction k g) → new ≡ k → Raise reason q0 q1 ≡ outcome_of (instruction new g)
raise_stays k new g reason q0 q1 raises same = subst (λ (s : KernelState). Raise reason q0 q1 ≡ outcome_of (instruction s g)) (sym same) raises

pub rides_stay : (n : ℕ) (k p new : KernelState) (g : ℕ) → rides n k g ≡ Some p → new ≡ p → rides n k g ≡ Some new
rides_stay n k p new g goes same = goes ∙ ap Some (sym same)

-- where the registers beside are its own, all is as it was
pub beside_own : (k : KernelState) (ec : ℕ) → IsSome (context_at k ec) → with_regs k ec (context k ec).regs ≡ k
beside_own k ec there = ap (λ (cs : Contexts). record k { contexts = cs }) (set_there k.contexts ec (context k ec) (there_at k.contexts ec there))

-- where none went on, what lies beside is its own
pub beside_none : (k mid : KernelState) (ec n : ℕ) (regs : Registers) → n ≡ 0 → mid.contexts ≡ k.contexts → rides n k ec ≡ Some (with_regs mid ec regs) → with_regs mid ec regs ≡ mid
beside_none k mid ec n regs none same goes =
    let is : k ≡ with_regs mid ec regs = same_Some k (with_regs mid ec regs) (subst (λ (i : ℕ). rides i k ec ≡ Some (with_regs mid ec regs)) none goes) in
    sym is ∙ ap (λ (cs : Contexts). record k { contexts = cs }) (sym same) ∙ ap (λ (s : KernelState). record s { contexts = mid.contexts }) is

-- WHAT INSTRUCTIONS LEAVE OF THE REST

none_within : (turns : ℕ) (o : Option ℕ) → o ≡ None → IsStirredWithin turns o
none_within turns None is = omega arith
none_within turns (Some n) is = absurd (cc)

pub bounds_without : (k : KernelState) → IsToBeCharged k → IsToBeCharged (without_counts k)
bounds_without k h = record { turns = h.turns; processors = h.processors; stamps = h.stamps; ticks = h.ticks; stirs = h.stirs; guests = λ g. none_within (k.turns + 1) _ refl }

ridden_bounds : (k m : KernelState) (g : ℕ) → IsRidden k m g → IsCharged k → IsToBeCharged (without_counts m)
ridden_bounds k m g is charged =
    let h = to_be_charged k charged in
    subst (λ (s : KernelState). IsToBeCharged (without_counts s)) (sym is.rest)
    (record { turns = h.turns; processors = h.processors; stamps = h.stamps; ticks = h.ticks; stirs = h.stirs; guests = λ n. none_within (k.turns + 1) _ refl })

pub ridden_queued : (k m : KernelState) (g : ℕ) (q : Schedule) → IsSome (context_at k g) → IsRidden k m g → AreQueued k q → AreQueued m q
ridden_queued k m g q there is queued =
    subst (λ (s : KernelState). AreQueued s q) (sym is.rest)
    (queued_kept None k (record k { contexts = m.contexts; memory = m.memory; messages = m.messages; stirs = record k.stirs { guests = m.stirs.guests } }) q queued (record {
      contexts = subst (λ (cs : Contexts). LeadsBut None k.contexts cs) (sym is.contexts)
          (kept_steady k.contexts g (context k g) (record (context k g) { regs = is.regs }) (there_at k.contexts g there) refl refl);
      objects = refl;
      budgets = refl;
      next_stamp = refl;
      cpus = refl;
    }))

-- the revokes that run
ridden_running : (k m : KernelState) (g : ℕ) (r : RevokesState) → IsSome (context_at k g) → IsRidden k m g → AreRunning k r → AreRunning m r
ridden_running k m g r there is are =
    let last : KernelState = record k { contexts = with_ec k.contexts g (record (context k g) { regs = is.regs }); memory = m.memory; messages = m.messages; stirs = record k.stirs { guests = m.stirs.guests } } in
    let same : m ≡ last = is.rest ∙ ap (λ (cs : Contexts). record k { contexts = cs; memory = m.memory; messages = m.messages; stirs = record k.stirs { guests = m.stirs.guests } }) is.contexts in
    let places = are.places in
    let long : length last.contexts ≡ length k.contexts = length-set k.contexts g (Some (record (context k g) { regs = is.regs })) in
    let runs : running last ≡ running k = ap₂ (λ (f : ℕ → Option Revocation) (n : ℕ). filter_map (λ ec. running_of ec (f ec)) (range_with_len 0 n))
    (fun_ext (λ e. revoke_set (pd_of k e) g e k.contexts is.regs there)) long in
    subst (λ (s : KernelState). AreRunning s r) (sym same) (record { list = are.list ∙ sym runs; places = omega (arith, places, long) })

paid_running : (k : KernelState) (cpu sc quantum : ℕ) (r : RevokesState) (o : Option Budget) → AreRunning k r → AreRunning (counted (paid_by k sc quantum o) cpu) r
paid_running k cpu sc quantum r None are = record { list = are.list; places = are.places }
paid_running k cpu sc quantum r (Some b) are = record { list = are.list; places = are.places }

one_running : (k : KernelState) (cpu sc : ℕ) (r : RevokesState) → AreRunning k r → AreRunning (charged k cpu sc) r
unfolding charged
one_running k cpu sc r are = paid_running k cpu sc (quantum_in (slice_get k.objects sc)) r (budget_at k sc) are

charged_running : (n : ℕ) (k : KernelState) (cpu sc : ℕ) (r : RevokesState) → AreRunning k r → AreRunning (charged_times n k cpu sc) r
charged_running zero k cpu sc r are = are
charged_running (suc n) k cpu sc r are = one_running (charged_times n k cpu sc) cpu sc r (charged_running n k cpu sc r are)

-- the same contexts act in all turns
pub ridden_on : (k m : KernelState) (g : ℕ) → IsSome (context_at k g) → IsRidden k m g → AreLedOn k m
ridden_on k m g there is =
    let y : EcState = record (context k g) { regs = is.regs } in record {
      objects = ap (λ (s : KernelState). s.objects) is.rest;
      actors = λ e. subst (λ (cs : Contexts). actor_in cs e ≡ actor_in k.contexts e) (sym is.contexts)
          (same_actor k.contexts (with_ec k.contexts g y) e (same_state_keeps_chases k.contexts g e (context k g) y (there_at k.contexts g there) refl));
    }

pub times_on : (n : ℕ) (k s : KernelState) (cpu sc : ℕ) → AreLedOn k s → AreLedOn k (charged_times n s cpu sc)
times_on zero k s cpu sc on = on
times_on (suc n) k s cpu sc on = paid_on k (charged_times n s cpu sc) cpu sc (times_on n k s cpu sc on)

-- the bounds of what is counted, turn by turn
counted_turn : ((k : KernelState) (cpu : ℕ) → IsKept k → IsKept (after k cpu)) → (cpu : ℕ) (c : Candidate) (q : KernelState) → next_to_act q cpu ≡ Some c → deed q c.actor ≡ Steps → q.turns < 2 ^ 31 →
    IsCounted q → IsCounted (after q cpu)
counted_turn law cpu c q acts does few counts =
    let g = c.actor in
    let both = acts_chosen q cpu c acts in
    let mid : KernelState = done q g Steps in
    let new : KernelState = charged (risen_in mid (is_stirring mid (written_frame q g) g Steps)) cpu c.sc in
    let s : IsSettled q mid new cpu (chosen_of c) Steps (written_frame q g) = record {
      none_due = both.1;
      told = sym (ap (option_map chosen_of) both.0);
      decided = sym does;
      does = refl;
      wrote = λ h. refl;
      settled = refl;
    } in
    subst IsCounted (settled_state q mid new cpu (chosen_of c) Steps (written_frame q g) s)
    (settled_counts q mid new cpu (chosen_of c) Steps (written_frame q g) s (done-keeps q g Steps tt) few (law q cpu counts.kept) counts)

-- a scheduling context that has a budget is queued
pub queued_there : (q : Schedule) (count sc : ℕ) → IsSome (entry (slice_get (budgets_of q count) sc)) → IsSome (queued_at q sc)
queued_there q count sc there = by_entry (queued_at q sc) (subst (λ (o : Option Budget). IsSome o) (budget_queued q count sc) there)
  where
    by_entry : (o : Option Queued) → IsSome (option_map (λ (e : Queued). e.budget) o) → IsSome o
    by_entry None there = there
    by_entry (Some e) there = refl

module _ (k m : KernelState) (cpu : ℕ) (chosen : Chosen) (n most : ℕ) (may : MayRide k cpu chosen most) (few : n ≤ most) (goes : rides n k chosen.actor ≡ Some m) where
  actor : chosen.actor ≡ may.candidate.actor
  actor = ap (λ (d : Chosen). d.actor) may.same

  payer : chosen.sc ≡ may.candidate.sc
  payer = ap (λ (d : Chosen). d.sc) may.same

  soon : IsEarly k.times cpu n
  soon = early_fewer k.times cpu n most few may.early

  pub acts_there : IsSome (context_at k chosen.actor)
  acts_there = subst (λ (g : ℕ). IsSome (context_at k g)) (sym actor) may.may.there

  are : IsRidden k m chosen.actor
  are = ridden n k m chosen.actor acts_there goes

  pub same_turns : m.turns ≡ k.turns
  same_turns = ap (λ (s : KernelState). s.turns) are.rest

  pub same_cpus : m.cpus ≡ k.cpus
  same_cpus = ap (λ (s : KernelState). s.cpus) are.rest

  pub bounds_after : IsCharged k → IsToBeCharged (without_counts m)
  bounds_after = ridden_bounds k m chosen.actor are

  pub queued_after_ride : (q : Schedule) → AreQueued k q → AreQueued m q
  queued_after_ride q = ridden_queued k m chosen.actor q acts_there are

  pub turns_rode : run k (replicate n cpu) ≡ charged_times n m cpu chosen.sc
  turns_rode =
      let left = may.left in
      (rode n k m cpu may.candidate may.budget may.may (omega (arith, few, left)) soon (subst (λ (g : ℕ). rides n k g ≡ Some m) actor goes)).state
      ∙ ap (λ (s : ℕ). charged_times n m cpu s) (sym payer)

  pub events_rode : trace k (replicate n cpu) ≡ replicate n (step_by cpu chosen)
  events_rode =
      let left = may.left in
      (rode n k m cpu may.candidate may.budget may.may (omega (arith, few, left)) soon (subst (λ (g : ℕ). rides n k g ≡ Some m) actor goes)).events
      ∙ ap (λ (d : Chosen). replicate n (step_by cpu d)) (sym may.same)

  pub known_after_ride : (known : List (Option Chosen)) → AreKnown k known → AreKnown (charged_times n m cpu chosen.sc) known
  known_after_ride known all =
      let new : KernelState = charged_times n m cpu chosen.sc in
      known_along k new (known_on k new (times_on n k m cpu chosen.sc (ridden_on k m chosen.actor acts_there are))) known all

  pub pays_for : (q : Schedule) → k.budgets ≡ budgets_of q (length k.objects) → IsSome (queued_at q chosen.sc)
  pays_for q budgets =
      queued_there q (length k.objects) chosen.sc (subst (λ (bs : List (Option Budget)). IsSome (entry (slice_get bs chosen.sc))) budgets
      (ap is_some (ap (budget_at k) payer ∙ may.may.budget)))

  pub left_for : (q : Schedule) → k.budgets ≡ budgets_of q (length k.objects) → IfSome (queued_at q chosen.sc) (λ (e : Queued). n ≤ e.budget.left)
  left_for q budgets =
      let left = may.left in
      left_queued k q chosen.sc n may.budget budgets (ap (budget_at k) payer ∙ may.may.budget) (omega (arith, few, left))

  pub running_after_ride : (r : RevokesState) → AreRunning k r → AreRunning (charged_times n m cpu chosen.sc) r
  running_after_ride r runs = charged_running n m cpu chosen.sc r (ridden_running k m chosen.actor r acts_there are runs)

  pub counted_along : ((k : KernelState) (cpu : ℕ) → IsKept k → IsKept (after k cpu)) → k.turns + most ≤ 2 ^ 31 → IsCounted k → IsCounted (run k (replicate n cpu))
  counted_along law turns counts =
      let left = may.left in
      kept_along IsCounted cpu may.candidate (counted_turn law cpu may.candidate) n k m may.budget may.may (omega (arith, few, left)) soon (omega (arith, few, turns))
      (subst (λ (g : ℕ). rides n k g ≡ Some m) actor goes) counts

-- COUNTS OF VIRTUAL CPUS, WHILE NO TURN IS CHARGED

few_within : (turns : ℕ) (o : Option ℕ) → turns ≤ 2 ^ 31 → IsStirredWithin turns o → IfSome o (λ n. n < 2 ^ 64 - 1)
few_within turns None few within = tt
few_within turns (Some n) few within = omega (arith, few, within)

record KeepsCounted (k new : KernelState) : Type 0 where
  objects : new.objects ≡ k.objects
  guests : new.stirs.guests ≡ k.stirs.guests

one_counted : (k s : KernelState) (cpu sc : ℕ) → KeepsCounted k s → KeepsCounted k (charged s cpu sc)
unfolding charged
one_counted k s cpu sc keeps = by_budget (budget_at s sc)
  where
    by_budget : (o : Option Budget) → KeepsCounted k (counted (paid_by s sc (quantum_in (slice_get s.objects sc)) o) cpu)
    by_budget None = record { objects = keeps.objects; guests = keeps.guests }
    by_budget (Some b) = record { objects = keeps.objects; guests = keeps.guests }

times_counted : (n : ℕ) (k : KernelState) (cpu sc : ℕ) → KeepsCounted k (charged_times n k cpu sc)
times_counted zero k cpu sc = record { objects = refl; guests = refl }
times_counted (suc n) k cpu sc = one_counted k (charged_times n k cpu sc) cpu sc (times_counted n k cpu sc)

pub may_count : (n : ℕ) (m : KernelState) (cpu sc : ℕ) → IsCounted (charged_times n m cpu sc) → MayCount m
may_count n m cpu sc counts =
    let keeps = times_counted n m cpu sc in
    let had : HasCounts (charged_times n m cpu sc) = counts.kept.tables.guests in record {
      counted = ap (map is_some) (sym keeps.guests) ∙ (had ∙ ap (map is_vcpu) keeps.objects);
      few = λ g. subst (λ (gs : List (Option ℕ)). IfSome (entry (slice_get gs g)) (λ n. n < 2 ^ 64 - 1)) keeps.guests
          (few_within (charged_times n m cpu sc).turns (entry (slice_get (charged_times n m cpu sc).stirs.guests g)) counts.charged.turns (counts.charged.guests g));
    }

-- THE EVENT OF EACH

pub told_event : (cpu : ℕ) (chosen : Chosen) (o : Option Candidate) → Some chosen ≡ option_map chosen_of o → Some (step_by cpu chosen) ≡ option_map (step_of cpu) o
told_event cpu chosen None told = absurd (cc)
told_event cpu chosen (Some c) told = ap (λ (d : Chosen). Some (step_by cpu d)) (same_Some chosen (chosen_of c) told)

-- WHERE A CONTEXT MAY

record IsChosen (k : KernelState) (cpu : ℕ) (chosen : Chosen) : Type 0 where
  candidate : Candidate
  is : choice k cpu ≡ Some candidate
  same : chosen ≡ chosen_of candidate

chosen_by : (k : KernelState) (cpu : ℕ) (chosen : Chosen) (o : Option Candidate) → choice k cpu ≡ o → Some chosen ≡ option_map chosen_of o → IsChosen k cpu chosen
chosen_by k cpu chosen None is told = absurd (cc)
chosen_by k cpu chosen (Some c) is told = record { candidate = c; is = is; same = same_Some chosen (chosen_of c) told }

record IsLeft (k : KernelState) (sc left : ℕ) : Type 0 where
  budget : Budget
  is : budget_at k sc ≡ Some budget
  same : left ≡ budget.left

left_by_budget : (k : KernelState) (sc left : ℕ) (o : Option Budget) → budget_at k sc ≡ o → Some left ≡ option_map (λ (b : Budget). b.left) o → IsLeft k sc left
left_by_budget k sc left None is told = absurd (cc)
left_by_budget k sc left (Some b) is told = record { budget = b; is = is; same = same_Some left b.left told }

pub may_ride_on : (k : KernelState) (cpu : ℕ) (chosen : Chosen) (left most : ℕ) → AreEdges k.contexts → Some chosen ≡ option_map chosen_of (choice k cpu) → Some left ≡ left_of k chosen.sc →
    IsSome (context_at k chosen.actor) → (context k chosen.actor).state ≡ Ready → (context k chosen.actor).recall ≡ false → cpu < length k.stirs.processors → cpu < length k.times.clocks → most ≤ left → IsEarly k.times cpu most →
    MayRide k cpu chosen most
may_ride_on k cpu chosen left most edges told lefts there is_ready free within clocked few early =
    let by = chosen_by k cpu chosen (choice k cpu) refl told in
    let its = left_by_budget k chosen.sc left (budget_at k chosen.sc) refl lefts in
    let actor : chosen.actor ≡ by.candidate.actor = ap (λ (d : Chosen). d.actor) by.same in
    let payer : chosen.sc ≡ by.candidate.sc = ap (λ (d : Chosen). d.sc) by.same in
    let same = its.same in record {
      candidate = by.candidate;
      budget = its.budget;
      may = record {
        chosen = by.is;
        there = subst (λ (g : ℕ). IsSome (context_at k g)) actor there;
        edges = edges;
        ready = subst (λ (g : ℕ). (context k g).state ≡ Ready) actor is_ready;
        recall = subst (λ (g : ℕ). (context k g).recall ≡ false) actor free;
        budget = subst (λ (s : ℕ). budget_at k s ≡ Some its.budget) payer its.is;
        processor = within;
        clock = clocked;
      };
      same = by.same;
      left = omega (arith, same, few);
      early = early;
    }

pub may_ride : (k : KernelState) (cpu : ℕ) (chosen : Chosen) (left most : ℕ) → IsReached k → Some chosen ≡ option_map chosen_of (choice k cpu) → Some left ≡ left_of k chosen.sc →
    IsSome (context_at k chosen.actor) → (context k chosen.actor).state ≡ Ready → (context k chosen.actor).recall ≡ false → cpu < length k.stirs.processors → cpu < length k.times.clocks → most ≤ left → IsEarly k.times cpu most →
    MayRide k cpu chosen most
may_ride k cpu chosen left most reached = may_ride_on k cpu chosen left most reached.sound.kept.edges
