-- Plain steps, quantum by quantum, on registers that lie beside the table of execution contexts.
use Rattle.std.proofs.Common.{◌≡◌, ◌+◌, ◌^◌, ◌<◌, ◌≤◌, ◌++◌, ℕ, suc, ap, ap₂, sym, subst, ◌∙◌, refl, length, arith, List, [], ◌∷◌, true}
use Rattle.std.specs.Prelude.{Bool, ◌&&◌, not, Option, Some, None, IsSome, IfSome, option_map, replicate, slice_get}
use Rattle.std.proofs.lemmas.List.{replicate-append-replicate}
use Rattle.rv_model.specs.Registers.{Registers}
use Rattle.nova_model.specs.Choice.{Candidate, choice, in_front}
use Rattle.nova_model.specs.Edges.{AreEdges}
use Rattle.nova_model.specs.Runs.{after, run, trace}
use Rattle.nova_model.specs.State.{Contexts, KernelState, budget_at, context, context_at, ec_of, entry, is_thread, pd_of}
use Rattle.nova_model.specs.Times.{due_on}
use Rattle.nova_model.specs.Turn.{Step, turn}
use Rattle.nova_model.specs.declared.budget.Budget.{Budget}
use Rattle.nova_model.specs.declared.context.EcState.{EcState}
use Rattle.nova_model.specs.declared.context.State.{State}
use Rattle.nova_model.specs.declared.event.Event.{Event}
use Rattle.nova_objects.specs.declared.object.Object.{Object}
use Rattle.nova_ec.specs.Tables.{EcTable}
use Rattle.law_turns.specs.Keeping.{IsKept}
use Rattle.law_turns.specs.Moments.{IsEarly}
use Rattle.law_turns.proofs.Moments.{early_fewer}
use Rattle.law_turns.proofs.Passes.{run_append}
use Rattle.law_leases.specs.Paging.{charged_at_once, charged_times}
use Rattle.law_leases.specs.Rides.{rides}
use Rattle.law_leases.proofs.Advanced.{set_there}
use Rattle.law_leases.proofs.Paid.{charged_all}
use Rattle.law_leases.proofs.Riding.{IsRidden, in_front_append, ridden, charged_calm, charged_choice}
use Rattle.nova_choice.specs.Choices.{chosen_of}
use Rattle.nova_choice.specs.Schedules.{AreQueued, budgets_of, is_ready}
use Rattle.nova_choice.specs.declared.choice.Chosen.{Chosen}
use Rattle.nova_choice.proofs.Budgets.{budget_queued}
use Rattle.nova_choice.proofs.Waits.{there_at}
use Rattle.nova_sched.specs.Queues.{QueuesState, Schedule, queued_at}
use Rattle.nova_sched.specs.declared.queued.Queued.{Queued}
use Rattle.nova_turn.specs.Acts.{is_executing}
use Rattle.nova_turn.specs.Beside.{IsEntered, with_regs}
use Rattle.nova_turn.specs.Counted.{IsCounted, IsToBeCharged}
use Rattle.nova_turn.specs.Known.{AreKnown}
use Rattle.nova_turn.specs.Parts.{state_of}
use Rattle.nova_turn.specs.Reach.{ReachState}
use Rattle.nova_turn.specs.Revoking.{AreRunning}
use Rattle.nova_turn.specs.Runners.{RevokesState}
use Rattle.nova_turn.specs.StoresSeen.{AreSeersOf}
use Rattle.nova_turn.specs.declared.act.seers.Seers.{Seers}
use Rattle.nova_turn.proofs.StoresSeen.{seers_alike}
use Rattle.nova_turn.specs.declared.decide.deciding.Raised.{Raised}
use Rattle.nova_turn.specs.declared.parts.Parts.{Parts}
use Rattle.nova_kernel.specs.Rides.{AreSteps, IsBeside, IsLater, IsNext, IsHalted, IsStepping, MayCount, MayRide, Raises, beside, step_by, without_counts}
use Rattle.nova_kernel.proofs.Known.{chosen_budget, known_along, known_on}
use Rattle.nova_kernel.proofs.Rides.{bounds_after, counted_along, events_rode, may_count, may_ride_on, ridden_on, ridden_queued, running_after_ride, same_cpus, same_turns, times_on, turns_rode}
use Rattle.nova_kernel.proofs.Beside.{KeepsTables, beside_context, beside_there, choice_back, times_beside, times_keep}

-- WHICH CONTEXT MAY RIDE, AS THE QUEUES HAVE IT

may_queued : (k : KernelState) (q : Schedule) (cpu : ℕ) (chosen : Chosen) (most : ℕ) → AreEdges k.contexts → Some chosen ≡ option_map chosen_of (choice k cpu) → IsStepping k chosen.actor →
    cpu < length k.stirs.processors → cpu < length k.times.clocks → k.budgets ≡ budgets_of q (length k.objects) → IsSome (queued_at q chosen.sc) →
    IfSome (queued_at q chosen.sc) (λ (e : Queued). most ≤ e.budget.left) → IsEarly k.times cpu most → MayRide k cpu chosen most
may_queued k q cpu chosen most edges told acts within clocked budgets pays left early = by_queued (queued_at q chosen.sc) refl pays left
  where
    by_queued : (o : Option Queued) → queued_at q chosen.sc ≡ o → IsSome o → IfSome o (λ (e : Queued). most ≤ e.budget.left) → MayRide k cpu chosen most
    by_queued None is some few = absurd (cc)
    by_queued (Some e) is some few =
        may_ride_on k cpu chosen e.budget.left most edges told
        (sym (ap (option_map (λ (b : Budget). b.left)) (ap (λ (bs : List (Option Budget)). entry (slice_get bs chosen.sc)) budgets ∙ (budget_queued q (length k.objects) chosen.sc ∙ ap (option_map (λ (e : Queued). e.budget)) is))))
        acts.there acts.ready acts.recall within clocked few early

-- A QUANTUM

acts_beside : (p : Parts) (chosen : Chosen) (x : Registers) → IsBeside p chosen x → IsStepping (beside p chosen x) chosen.actor
acts_beside p chosen x was = record {
  there = beside_there (state_of p) chosen.actor x was.acts.there;
  ready = ap (λ (e : EcState). e.state) (beside_context (state_of p) chosen.actor x was.acts.there) ∙ was.acts.ready;
  recall = ap (λ (e : EcState). e.recall) (beside_context (state_of p) chosen.actor x was.acts.there) ∙ was.acts.recall;
}

may_beside : (p : Parts) (cpu : ℕ) (chosen : Chosen) (x : Registers) (most : ℕ) → IsBeside p chosen x → IsNext p cpu chosen → IfSome (queued_at p.queues.all chosen.sc) (λ (e : Queued). most ≤ e.budget.left) →
    IsEarly (state_of p).times cpu most → cpu < p.cpus → MayRide (beside p chosen x) cpu chosen most
may_beside p cpu chosen x most was next left early there =
    let edges : AreEdges (beside p chosen x).contexts = was.counted.kept.edges in
    let within : cpu < length (beside p chosen x).stirs.processors = subst (λ (m : ℕ). cpu < m) (sym was.counted.charged.processors) there in
    may_queued (beside p chosen x) p.queues.all cpu chosen most edges (next.told ∙ ap (option_map chosen_of) (choice_back (state_of p) cpu chosen.actor x edges was.acts.there)) (acts_beside p chosen x was) within within refl next.pays left early

-- a store of each instruction on the way can be counted
pub counts_along : (p : Parts) (cpu : ℕ) (chosen : Chosen) (x : Registers) (most : ℕ) → IsBeside p chosen x → IsNext p cpu chosen → IfSome (queued_at p.queues.all chosen.sc) (λ (e : Queued). most ≤ e.budget.left) →
    IsEarly (state_of p).times cpu most → cpu < p.cpus → ((k : KernelState) (cpu : ℕ) → IsKept k → IsKept (after k cpu)) → p.turns + most ≤ 2 ^ 31 →
    (n : ℕ) (m : KernelState) → n < most → rides n (beside p chosen x) chosen.actor ≡ Some m → MayCount m
counts_along p cpu chosen x most was next left early there law turns n m few goes =
    let may : MayRide (beside p chosen x) cpu chosen most = may_beside p cpu chosen x most was next left early there in
    let fewer : n ≤ most = omega (arith, few) in
    may_count n m cpu chosen.sc
    (subst IsCounted (turns_rode (beside p chosen x) m cpu chosen n most may fewer goes) (counted_along (beside p chosen x) m cpu chosen n most may fewer goes law turns was.counted))

-- instructions that went on, before they are charged
pub record HasRidden (p q : Parts) (cpu : ℕ) (chosen : Chosen) (x y : Registers) (n most : ℕ) : Type 0 where
  pub was : IsBeside p chosen x
  pub next : IsNext p cpu chosen
  pub left : IfSome (queued_at p.queues.all chosen.sc) (λ (e : Queued). most ≤ e.budget.left)
  pub early : IsEarly (state_of p).times cpu most
  pub within : cpu < p.cpus
  pub few : n ≤ most
  pub goes : rides n (beside p chosen x) chosen.actor ≡ Some (beside q chosen y)
  pub entered : IsEntered q chosen.actor
  pub contexts : q.contexts ≡ p.contexts
  pub queues : q.queues ≡ p.queues
  pub revokes : q.revokes ≡ p.revokes

module _ (p q : Parts) (cpu : ℕ) (chosen : Chosen) (x y : Registers) (n most : ℕ) (is : HasRidden p q cpu chosen x y n most) where
  there : IsSome (context_at (state_of p) chosen.actor)
  there = is.was.acts.there

  may : MayRide (beside p chosen x) cpu chosen most
  may = may_beside p cpu chosen x most is.was is.next is.left is.early is.within

  are : IsRidden (beside p chosen x) (beside q chosen y) chosen.actor
  are = ridden n (beside p chosen x) (beside q chosen y) chosen.actor (acts_beside p chosen x is.was).there is.goes

  -- the table itself keeps old registers meanwhile
  stale : IsRidden (state_of p) (state_of q) chosen.actor
  stale = record {
    regs = (context (state_of p) chosen.actor).regs;
    contexts = ap (λ (t : EcTable). t.items) is.contexts ∙ sym (set_there (state_of p).contexts chosen.actor (context (state_of p) chosen.actor) (there_at (state_of p).contexts chosen.actor there));
    rest = ap (λ (s : KernelState). record s { contexts = (state_of q).contexts }) are.rest;
  }

  pub bounds_ridden : IsToBeCharged (without_counts (state_of q))
  bounds_ridden =
      let h = bounds_after (beside p chosen x) (beside q chosen y) cpu chosen n most may is.few is.goes is.was.counted.charged in
      record { turns = h.turns; processors = h.processors; stamps = h.stamps; ticks = h.ticks; stirs = h.stirs; guests = h.guests }

  pub queued_ridden : AreQueued (state_of q) q.queues.all
  queued_ridden =
      subst (λ (t : QueuesState). AreQueued (state_of q) t.all) (sym is.queues)
      (ridden_queued (state_of p) (state_of q) chosen.actor p.queues.all there stale is.was.queued)

  pub left_ridden : IfSome (queued_at q.queues.all chosen.sc) (λ (e : Queued). n ≤ e.budget.left)
  left_ridden =
      subst (λ (t : QueuesState). IfSome (queued_at t.all chosen.sc) (λ (e : Queued). n ≤ e.budget.left)) (sym is.queues) (by_queued (queued_at p.queues.all chosen.sc) is.left)
    where
      by_queued : (o : Option Queued) → IfSome o (λ (e : Queued). most ≤ e.budget.left) → IfSome o (λ (e : Queued). n ≤ e.budget.left)
      by_queued None left = tt
      by_queued (Some e) left = let few = is.few in omega (arith, few, left)

  pub pays_ridden : IsSome (queued_at q.queues.all chosen.sc)
  pays_ridden = subst (λ (t : QueuesState). IsSome (queued_at t.all chosen.sc)) (sym is.queues) is.next.pays

  pub turns_ridden : q.turns ≡ p.turns
  turns_ridden = same_turns (beside p chosen x) (beside q chosen y) cpu chosen n most may is.few is.goes

  pub cpus_ridden : q.cpus ≡ p.cpus
  cpus_ridden = same_cpus (beside p chosen x) (beside q chosen y) cpu chosen n most may is.few is.goes

-- the virtual CPUs for which stores are counted stay while turns are charged
pub seers_paid : (q r : Parts) (cpu sc n ec : ℕ) (s : Seers) → state_of r ≡ charged_times n (state_of q) cpu sc → r.reach ≡ q.reach → AreSeersOf (state_of q) ec s → AreSeersOf (state_of r) ec s
seers_paid q r cpu sc n ec s charged reach = seers_alike (state_of q) (state_of r) ec s (record {
  objects = ap (λ (k : KernelState). k.objects) charged ∙ (times_keep n (state_of q) cpu sc).objects;
  delegations = ap (λ (u : ReachState). u.nodes.delegations.list) reach;
  frames = ap (λ (u : ReachState). length u.memory.ram) reach;
})

-- and the same with the charge
pub record HasPaid (q r : Parts) (cpu : ℕ) (chosen : Chosen) (n : ℕ) : Type 0 where
  pub charged : state_of r ≡ charged_times n (state_of q) cpu chosen.sc
  pub queued : AreQueued (state_of r) r.queues.all
  pub pays : IsSome (queued_at r.queues.all chosen.sc)
  pub turns : r.turns ≡ q.turns + n
  pub cpus : r.cpus ≡ q.cpus
  pub revokes : r.revokes ≡ q.revokes
  pub reach : r.reach ≡ q.reach

module _ (p q r : Parts) (cpu : ℕ) (chosen : Chosen) (x y : Registers) (n most : ℕ) (is : HasRidden p q cpu chosen x y n most) (paid : HasPaid q r cpu chosen n) where
  lands : beside r chosen y ≡ charged_times n (beside q chosen y) cpu chosen.sc
  lands = ap (λ (s : KernelState). with_regs s chosen.actor y) paid.charged ∙ times_beside n (state_of q) cpu chosen.sc chosen.actor y

  taken : beside r chosen y ≡ run (beside p chosen x) (replicate n cpu)
  taken = lands ∙ sym (turns_rode (beside p chosen x) (beside q chosen y) cpu chosen n most (may p q cpu chosen x y n most is) is.few is.goes)

  pub quantum_later : p.reach.room ≤ q.reach.room + n → IsLater p x r y cpu chosen n
  quantum_later log =
      let rides_on = may p q cpu chosen x y n most is in
      let paid_state : KernelState = charged_times n (state_of q) cpu chosen.sc in record {
        steps = record {
          state = taken;
          events = events_rode (beside p chosen x) (beside q chosen y) cpu chosen n most rides_on is.few is.goes;
        };
        known = λ known all. subst (λ (s : KernelState). AreKnown s known) (sym paid.charged)
            (known_along (state_of p) paid_state
            (known_on (state_of p) paid_state (times_on n (state_of p) (state_of q) cpu chosen.sc (ridden_on (state_of p) (state_of q) chosen.actor is.was.acts.there (stale p q cpu chosen x y n most is)))) known all);
        turns = paid.turns ∙ ap (λ (t : ℕ). t + n) (turns_ridden p q cpu chosen x y n most is);
        cpus = paid.cpus ∙ cpus_ridden p q cpu chosen x y n most is;
        log = subst (λ (u : ReachState). p.reach.room ≤ u.room + n) (sym paid.reach) log;
      }

  keeps : KeepsTables (state_of q) (charged_times n (state_of q) cpu chosen.sc)
  keeps = times_keep n (state_of q) cpu chosen.sc

  same_contexts : (state_of r).contexts ≡ (state_of p).contexts
  same_contexts = ap (λ (s : KernelState). s.contexts) paid.charged ∙ (keeps.contexts ∙ ap (λ (t : EcTable). t.items) is.contexts)

  same_objects : (state_of q).objects ≡ (state_of r).objects
  same_objects = sym (ap (λ (s : KernelState). s.objects) paid.charged ∙ keeps.objects)

  still_acts : IsStepping (state_of r) chosen.actor
  still_acts = record {
    there = subst (λ (cs : Contexts). IsSome (entry (slice_get cs chosen.actor))) (sym same_contexts) is.was.acts.there;
    ready = ap (λ (cs : Contexts). (ec_of cs chosen.actor).state) same_contexts ∙ is.was.acts.ready;
    recall = ap (λ (cs : Contexts). (ec_of cs chosen.actor).recall) same_contexts ∙ is.was.acts.recall;
  }

  still_entered : IsEntered r chosen.actor
  still_entered = record {
    number = ap (λ (u : ReachState). u.ec) paid.reach ∙ is.entered.number;
    pd = ap (λ (u : ReachState). u.pd) paid.reach ∙ (is.entered.pd ∙ ap (λ (os : List Object). pd_of (record (state_of q) { objects = os }) chosen.actor) same_objects);
    is_thread = ap (λ (u : ReachState). u.is_thread) paid.reach ∙ (is.entered.is_thread ∙ ap (λ (os : List Object). is_thread (record (state_of q) { objects = os }) chosen.actor) same_objects);
  }

  pub quantum_beside : ((k : KernelState) (cpu : ℕ) → IsKept k → IsKept (after k cpu)) → p.turns + most ≤ 2 ^ 31 → IsBeside r chosen y
  quantum_beside law turns =
      let rides_on = may p q cpu chosen x y n most is in record {
        acts = still_acts;
        entered = still_entered;
        queued = paid.queued;
        counted = subst IsCounted (sym taken) (counted_along (beside p chosen x) (beside q chosen y) cpu chosen n most rides_on is.few is.goes law turns is.was.counted);
        running = subst (λ (s : KernelState). AreRunning s r.revokes) (sym lands)
            (subst (λ (v : RevokesState). AreRunning (charged_times n (beside q chosen y) cpu chosen.sc) v) (sym (paid.revokes ∙ is.revokes))
            (running_after_ride (beside p chosen x) (beside q chosen y) cpu chosen n most rides_on is.few is.goes p.revokes is.was.running));
      }

  executes : is_executing (context (beside r chosen y) chosen.actor) ≡ true
  executes =
      ap is_executing (beside_context (state_of r) chosen.actor y still_acts.there)
      ∙ ap₂ (λ (s : State) (asked : Bool). is_ready s && not asked) still_acts.ready still_acts.recall

  pub quantum_raises : (raised : Raised) → n < most → Raises (beside q chosen y) chosen.actor raised → IsHalted (beside r chosen y) cpu chosen raised
  quantum_raises raised fewer raises =
      let rides_on = may p q cpu chosen x y n most is in
      let c : Candidate = rides_on.candidate in
      let b : Budget = rides_on.budget in
      let k : KernelState = beside p chosen x in
      let m : KernelState = beside q chosen y in
      let left = rides_on.left in
      let went : IsRidden k m c.actor = subst (λ (g : ℕ). IsRidden k m g) (ap (λ (d : Chosen). d.actor) rides_on.same) (are p q cpu chosen x y n most is) in
      let budget : budget_at m c.sc ≡ Some b = ap (λ (s : KernelState). budget_at s c.sc) went.rest ∙ rides_on.may.budget in
      let within : cpu < length m.stirs.processors = subst (λ (s : KernelState). cpu < length s.stirs.processors) (sym went.rest) rides_on.may.processor in
      let clocked : cpu < length m.times.clocks = subst (λ (s : KernelState). cpu < length s.times.clocks) (sym went.rest) rides_on.may.clock in
      let landed : beside r chosen y ≡ charged_at_once m cpu c.sc b n =
      lands ∙ (ap (λ (d : Chosen). charged_times n m cpu d.sc) rides_on.same ∙ charged_all n m cpu c.sc b (omega (arith, fewer, left)) budget within clocked) in
      let told : Some chosen ≡ option_map chosen_of (choice (beside r chosen y) cpu) = subst (λ (s : KernelState). Some chosen ≡ option_map chosen_of (choice s cpu)) (sym landed)
      (ap Some rides_on.same ∙ ap (option_map chosen_of) (sym (charged_choice k m cpu n c b rides_on.may went (omega (arith, fewer, left))))) in record {
        none_due = subst (λ (s : KernelState). due_on s.times cpu ≡ None) (sym landed)
            (charged_calm k m cpu n c b rides_on.may went (early_fewer k.times cpu (suc n) most (omega (arith, fewer)) rides_on.early));
        told = told;
        there = beside_there (state_of r) chosen.actor y still_acts.there;
        pays = chosen_budget (beside r chosen y) cpu chosen told;
        raised = (executes, subst (λ (s : KernelState). Raises s chosen.actor raised) (sym landed) raises);
      }

-- SEVERAL QUANTA

trace_append : (k : KernelState) (xs ys : List ℕ) → trace k (xs ++ ys) ≡ trace k xs ++ trace (run k xs) ys
trace_append k [] ys = refl
trace_append k (x ∷ xs) ys =
    ap (in_front (option_map (λ (s : Step). s.event) (turn k x))) (trace_append (after k x) xs ys)
    ∙ in_front_append (option_map (λ (s : Step). s.event) (turn k x)) (trace (after k x) xs) (trace (run (after k x) xs) ys)

steps_on : (k m l : KernelState) (cpu : ℕ) (chosen : Chosen) (a b : ℕ) → AreSteps k m cpu chosen a → AreSteps m l cpu chosen b → AreSteps k l cpu chosen (a + b)
steps_on k m l cpu chosen a b first then = record {
  state = then.state
      ∙ (ap (λ (s : KernelState). run s (replicate b cpu)) first.state
      ∙ (sym (run_append k (replicate a cpu) (replicate b cpu)) ∙ ap (run k) (replicate-append-replicate a b cpu)));
  events = ap (trace k) (sym (replicate-append-replicate a b cpu))
      ∙ (trace_append k (replicate a cpu) (replicate b cpu)
      ∙ (ap₂ (λ (xs ys : List Event). xs ++ ys) first.events (ap (λ (s : KernelState). trace s (replicate b cpu)) (sym first.state) ∙ then.events)
      ∙ replicate-append-replicate a b (step_by cpu chosen)));
}

pub none_later : (p : Parts) (x : Registers) (cpu : ℕ) (chosen : Chosen) → IsLater p x p x cpu chosen 0
none_later p x cpu chosen = record {
  steps = record { state = refl; events = refl };
  known = λ known all. all;
  turns = omega arith;
  cpus = refl;
  log = omega arith;
}

pub later_on : (p q r : Parts) (x y z : Registers) (cpu : ℕ) (chosen : Chosen) (a b : ℕ) → IsLater p x q y cpu chosen a → IsLater q y r z cpu chosen b → IsLater p x r z cpu chosen (a + b)
later_on p q r x y z cpu chosen a b first then =
    let turns = first.turns in
    let more = then.turns in
    let log = first.log in
    let less = then.log in record {
      steps = steps_on (beside p chosen x) (beside q chosen y) (beside r chosen z) cpu chosen a b first.steps then.steps;
      known = λ known all. then.known known (first.known known all);
      turns = omega (arith, turns, more);
      cpus = then.cpus ∙ first.cpus;
      log = omega (arith, log, less);
    }

-- WITH THE REGISTERS OF THE TABLE

pub entered_beside : (p e : Parts) (chosen : Chosen) (x : Registers) → state_of e ≡ state_of p → e.queues ≡ p.queues → e.revokes ≡ p.revokes → IsEntered e chosen.actor → beside e chosen x ≡ state_of p →
    IsStepping (state_of p) chosen.actor → IsCounted (state_of p) → AreQueued (state_of p) p.queues.all → AreRunning (state_of p) p.revokes → IsBeside e chosen x
entered_beside p e chosen x state queues revokes entered own acts counts queued runs = record {
  acts = subst (λ (k : KernelState). IsStepping k chosen.actor) (sym state) acts;
  entered = entered;
  queued = subst (λ (k : KernelState). AreQueued k e.queues.all) (sym state) (subst (λ (q : QueuesState). AreQueued (state_of p) q.all) (sym queues) queued);
  counted = subst IsCounted (sym own) counts;
  running = subst (λ (k : KernelState). AreRunning k e.revokes) (sym own) (subst (AreRunning (state_of p)) (sym revokes) runs);
}
