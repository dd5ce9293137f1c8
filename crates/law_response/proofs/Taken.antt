-- A call of the highest priority: it helps in each turn that isn't due, until its handler is free, and then it is taken.
use Rattle.std.proofs.Common.{◌≡◌, ℕ, zero, suc, ◌+◌, List, [], ◌∷◌, length, inl, inr, refl, sym, ap, ap₂, ◌∙◌, subst, arith}
use Rattle.std.specs.Prelude.{◌≢◌, ◌||◌, ◌&&◌, Bool, true, false, not, ◌==◌, if◌then◌else◌, is_none, is_some, Option, Some, None, Result, Ok, option_map, option_and_then}
use Rattle.std.proofs.lemmas.Bool.{eq-eqb, eqb-true}
use Rattle.rv_model.specs.Registers.{Registers, reg}
use Rattle.nova_range.specs.declared.status.Status.{Status}
use Rattle.nova_range.specs.declared.status.Status.TheVariants.{Aborted, BadCpu, BadPar, Timeout}
use Rattle.nova_utcb.specs.Messages.{has_counts, has_items}
use Rattle.nova_calls.specs.Hypercalls.{call_of}
use Rattle.nova_calls.specs.declared.call.Call.{Call}
use Rattle.nova_calls.specs.declared.call.Call.TheVariants as asks
use Rattle.nova_model.specs.Boot.{Scenario, boot}
use Rattle.nova_model.specs.Calls.{admitted, is_parked, is_same_cpu}
use Rattle.nova_model.specs.Capabilities.{call_right, is_pt, named}
use Rattle.nova_model.specs.Choice.{Candidate, actor, choice, next_to_act}
use Rattle.nova_model.specs.Deeds.{deed}
use Rattle.nova_model.specs.Edges.{acts, acts_as, after_edges, circle, cpu_in, edge, edge_of, is_dead, is_free, state_in}
use Rattle.nova_model.specs.Hypercalls.{called, hypercall, or_refuses, row, unless, and_then}
use Rattle.nova_model.specs.Portals.{handler_of, identifier, ip_of}
use Rattle.nova_model.specs.Runs.{after, run}
use Rattle.nova_model.specs.State.{Contexts, KernelState, context, context_in, ec_in, message, pd_of}
use Rattle.nova_model.specs.Times.{due_on}
use Rattle.nova_model.specs.declared.admit.Admit.{Admit}
use Rattle.nova_model.specs.declared.admit.Admit.TheVariants.{Help, Refused, Send}
use Rattle.nova_model.specs.declared.budget.Budget.{Budget}
use Rattle.nova_model.specs.declared.context.EcState.{EcState}
use Rattle.nova_model.specs.declared.context.State.{State}
use Rattle.nova_model.specs.declared.context.State.TheVariants.{Helping, Parked}
use Rattle.nova_model.specs.declared.deed.Deed.TheVariants.{Calls}
use Rattle.nova_model.specs.declared.event.Event.{Event}
use Rattle.nova_model.specs.declared.times.Due.{Due}
use Rattle.nova_ec.proofs.Ends.{chases_go_on, circles_are_ways}
use Rattle.law_forest.specs.Effects.{all_edited, edits_by, made_by, passing_ends}
use Rattle.law_forest.specs.Turns.{Acts, Idles, IsTurning, Passes, Takes, Turning, turned}
use Rattle.law_forest.proofs.Turning.{acts_next, comes}
use Rattle.law_rows.proofs.States.{again}
use Rattle.law_turns.specs.Keeping.{IsKept}
use Rattle.law_turns.specs.Links.{state_at}
use Rattle.law_turns.proofs.Candidates.{the_chosen}
use Rattle.law_turns.proofs.Items.{context_state}
use Rattle.law_turns.proofs.Passing.{Ended, Same, passing_each, passing_ending}
use Rattle.law_turns.proofs.Referring.{deed_asks}
use Rattle.law_turns.proofs.Serving.{actor_of}
use Rattle.law_turns.proofs.States.{is_waiting, others_move}
use Rattle.law_turns.proofs.TablesFit.{TablesFit, chosen_acts}
use Rattle.law_turns.proofs.Ticks.{one_if}
use Rattle.law_response.specs.Creating.{NobodyCreates, OutranksOthers}
use Rattle.law_response.specs.Taken.{HasHelped, IsTaken, is_acted_by}
use Rattle.law_response.specs.Waits.{IsSchedule, MayRun, NeverActs, StaysRunnable, is_due}
use Rattle.law_response.proofs.Choosing.{Above, Before, IsBeside, IsChosen, Itself, candidate_of_schedule, chosen_beside}
use Rattle.law_response.proofs.Creating.{all_limited, nothing_after, outranks_still}
use Rattle.law_response.proofs.Drivers.{nobody_acts}
use Rattle.law_response.proofs.Highest.{outranked}
use Rattle.law_response.proofs.Responding.{reached_is_kept}
use Rattle.law_response.proofs.Selves.{joined_state, of_state}
use Rattle.law_response.proofs.Waiting.{IsReached, after_schedule, reached_after, reached_stamped}

-- IT GOES ON TO HELP

state_set : (o : Option EcState) (h : ℕ) → (context_in o).state ≡ Helping h → state_at o ≡ Some (Helping h)
state_set None h is = absurd cc
state_set (Some x) h is = ap Some is

helping_turned : (k : KernelState) (cpu ec h : ℕ) (t : Turning) (e : Event) → IsTurning k cpu t e → IsKept k → state_in k.contexts ec ≡ Some (Helping h) →
    option_map (λ (c : Candidate). c.actor) (next_to_act k cpu) ≢ Some ec → state_in (turned k cpu t).contexts ec ≡ Some (Helping h)
helping_turned k cpu ec h t e (Acts c chosen is event) kept at never =
    let fits : TablesFit k = record { tables = kept.tables; served = kept.served; blocked = kept.blocked; guests = kept.guests; late = kept.deadlines } in
    let other : ec ≢ c.actor = λ same. never (ap (option_map (λ (x : Candidate). x.actor)) chosen ∙ ap (λ (n : ℕ). Some n) (sym same)) in
    let d = deed k c.actor in
    let before : (context k ec).state ≡ Helping h = context_state k.contexts ec (Helping h) at in
    let cs = all_edited k.contexts (edits_by k c.actor d) in
    subst (λ (u : Turning). state_in (turned k cpu u).contexts ec ≡ Some (Helping h)) (sym is)
    (joined_state (length k.objects) cs ec (made_by d) (Helping h)
    (elim (others_move k c.actor d (actor_of k.contexts c.actor (chosen_acts k cpu c chosen)) (deed_asks k c.actor) fits ec other) [
      | inl same ↦ state_set (ec_in cs ec) h (same ∙ before)
      | inr begun ↦ absurd (let none : is_waiting (context k ec).state ≡ false = ap is_waiting before in let waits = begun.0 in cc)
    ]))
helping_turned k cpu ec h t e (Passes p passes is event) kept at never =
    let x = of_state k.contexts ec (Helping h) at in
    subst (λ (u : Turning). state_in (turned k cpu u).contexts ec ≡ Some (Helping h)) (sym is)
    (elim (passing_each k.contexts (passing_ends k p) (passing_ending k cpu p passes kept.blocked kept.deadlines) ec) [
      | Same same ↦ ap state_at same ∙ at
      | Ended y sm status old waits new ↦
          absurd (let one : Some y ≡ Some x.0 = sym old ∙ x.1 in let same : y ≡ x.0 = cc in let both = sym x.2 ∙ ap (λ (z : EcState). z.state) (sym same) ∙ waits in cc)
    ])

helping_after : (k : KernelState) (cpu ec h : ℕ) → IsKept k → state_in k.contexts ec ≡ Some (Helping h) → option_map (λ (c : Candidate). c.actor) (next_to_act k cpu) ≢ Some ec →
    state_in (after k cpu).contexts ec ≡ Some (Helping h)
helping_after k cpu ec h kept at never = elim (comes k cpu) [
  | Idles none moment same answer ↦ ap (λ (x : KernelState). state_in x.contexts ec) same ∙ at
  | Takes t e is state answer ↦ ap (λ (x : KernelState). state_in x.contexts ec) state ∙ helping_turned k cpu ec h t e is kept at never
]

-- ITS TURNS GO TO ITS HANDLER

leads_on : (k : KernelState) (ec h : ℕ) → IsKept k → state_in k.contexts ec ≡ Some (Helping h) → acts k.contexts ec ≡ false → actor k ec ≡ actor k h
leads_on k ec h kept at idle =
    let way : edge k.contexts ec ≡ Some h = ap (option_and_then edge_of) at in
    (chases_go_on k.contexts ec kept.edges).goes_on h (ap₂ (λ (t : Bool) (o : Option ℕ). t || is_none o) idle way) way

stays_on : (k : KernelState) (ec : ℕ) → IsKept k → acts k.contexts ec ≡ true → actor k ec ≡ ec
stays_on k ec kept able = (chases_go_on k.contexts ec kept.edges).ends (ap (λ (t : Bool). t || is_none (edge k.contexts ec)) able)

-- the candidate that is chosen where `sc` may run and nothing is due, of the processor's
record IsChosenFirst (k : KernelState) (cpu sc ec : ℕ) : Type 0 where
  chosen : Candidate
  acts : next_to_act k cpu ≡ Some chosen
  pays : chosen.sc ≡ sc
  its : chosen.actor ≡ actor k ec

first_chosen : (k : KernelState) (sc ec cpu priority quantum : ℕ) (b : Budget) → IsReached k → IsSchedule k sc ec cpu priority quantum b → OutranksOthers k cpu sc priority → MayRun k ec →
    due_on k.times cpu ≡ None → IsChosenFirst k cpu sc ec
first_chosen k sc ec cpu priority quantum b r its outranks may calm = by_beside ch.chosen ch.choice ch.beside
  where
    kept : IsKept k
    kept = reached_is_kept k r

    ch : IsChosen k cpu sc priority b.stamp
    ch = chosen_beside k sc ec cpu priority quantum b (reached_stamped k r) its may

    by_beside : (c : Candidate) → choice k cpu ≡ Some c → IsBeside sc priority b.stamp c → IsChosenFirst k cpu sc ec
    by_beside c is (Itself number equal stamp) = record {
      chosen = c;
      acts = acts_next k cpu c is calm;
      pays = number;
      its = (candidate_of_schedule k cpu c sc ec cpu priority quantum (the_chosen k cpu c is) number its.object).acts;
    }
    by_beside c is (Above number greater) = absurd (let less = outranked k cpu sc priority c kept outranks is number in omega (arith, less, greater))
    by_beside c is (Before number equal stamp) = absurd (let less = outranked k cpu sc priority c kept outranks is number in omega (arith, less, equal))

-- ONE TURN

calm_of : (o : Option Due) → is_some o ≡ false → o ≡ None
calm_of None is = refl
calm_of (Some what) is = absurd cc

abbrev Once : KernelState → ℕ → ℕ → ℕ → Type 0
Once k by cpu h = one_if (by == cpu) ≡ one_if ((by == cpu) && is_due k by) + one_if ((by == cpu) && is_acted_by (actor k h) (next_to_act k by))

helps_once : (k : KernelState) (by sc ec cpu priority quantum h : ℕ) (b : Budget) → IsReached k → IsSchedule k sc ec cpu priority quantum b → OutranksOthers k cpu sc priority →
    state_in k.contexts ec ≡ Some (Helping h) → option_map (λ (c : Candidate). c.actor) (next_to_act k by) ≢ Some ec → (by ≡ cpu → is_due k by ≡ false → MayRun k ec) → Once k by cpu h
helps_once k by sc ec cpu priority quantum h b r its outranks at never may = by_here (by == cpu) refl
  where
    kept : IsKept k
    kept = reached_is_kept k r

    ours : by ≡ cpu → is_due k by ≡ false → is_acted_by (actor k h) (next_to_act k by) ≡ true
    ours same calm = by_acts (acts k.contexts ec) refl
      where
        f : IsChosenFirst k by sc ec
        f = first_chosen k sc ec by priority quantum b r (subst (λ (n : ℕ). IsSchedule k sc ec n priority quantum b) (sym same) its)
            (subst (λ (n : ℕ). OutranksOthers k n sc priority) (sym same) outranks) (may same calm) (calm_of (due_on k.times by) calm)

        by_acts : (t : Bool) → acts k.contexts ec ≡ t → is_acted_by (actor k h) (next_to_act k by) ≡ true
        by_acts true able = absurd (never (ap (option_map (λ (c : Candidate). c.actor)) f.acts ∙ ap (λ (n : ℕ). Some n) (f.its ∙ stays_on k ec kept able)))
        by_acts false idle = ap (is_acted_by (actor k h)) f.acts ∙ eq-eqb f.chosen.actor (actor k h) (f.its ∙ leads_on k ec h kept at idle)

    by_due : (t : Bool) → is_due k by ≡ t → by ≡ cpu → 1 ≡ one_if t + one_if (is_acted_by (actor k h) (next_to_act k by))
    by_due true due same = let none : is_acted_by (actor k h) (next_to_act k by) ≡ false = ap (is_acted_by (actor k h)) (nobody_acts k by due) in
        let once : one_if (is_acted_by (actor k h) (next_to_act k by)) ≡ 0 = ap one_if none in omega (arith, once)
    by_due false calm same = let once : one_if (is_acted_by (actor k h) (next_to_act k by)) ≡ 1 = ap one_if (ours same calm) in omega (arith, once)

    by_here : (t : Bool) → (by == cpu) ≡ t → one_if t ≡ one_if (t && is_due k by) + one_if (t && is_acted_by (actor k h) (next_to_act k by))
    by_here true here = by_due (is_due k by) refl (eqb-true by cpu here)
    by_here false apart = refl

-- ALL TURNS

helps_along : (k : KernelState) (turns : List ℕ) (sc ec cpu priority quantum h : ℕ) (b : Budget) → IsReached k → NobodyCreates k → IsSchedule k sc ec cpu priority quantum b →
    OutranksOthers k cpu sc priority → state_in k.contexts ec ≡ Some (Helping h) → NeverActs k ec turns → StaysRunnable k cpu ec turns → HasHelped k turns cpu ec h
helps_along k [] sc ec cpu priority quantum h b r nobody its outranks at never stays = record { still = at; count = refl }
helps_along k (by ∷ turns) sc ec cpu priority quantum h b r nobody its outranks at (first, never) (may, stays) =
    let a = after_schedule k by sc ec cpu priority quantum b its in
    let limited = all_limited k by nobody in
    let later : NobodyCreates (after k by) = λ n. nothing_after k by (λ m. ⊥) r limited n (λ none. none) in
    let once : Once k by cpu h = helps_once k by sc ec cpu priority quantum h b r its outranks at first may in
    let rest = helps_along (after k by) turns sc ec cpu priority quantum h a.budget (reached_after k by r) later a.still
    (outranks_still k by cpu sc priority (λ m. ⊥) r limited outranks) (helping_after k by ec h (reached_is_kept k r) at first) never stays in
    record { still = rest.still; count = (let count = rest.count in omega (arith, once, count)) }

pub helps_in_time : (s : Scenario) (before turns : List ℕ) (sc ec cpu priority quantum h : ℕ) (b : Budget) → NobodyCreates (run (boot s) before) →
    IsSchedule (run (boot s) before) sc ec cpu priority quantum b → OutranksOthers (run (boot s) before) cpu sc priority → state_in (run (boot s) before).contexts ec ≡ Some (Helping h) →
    NeverActs (run (boot s) before) ec turns → StaysRunnable (run (boot s) before) cpu ec turns → HasHelped (run (boot s) before) turns cpu ec h
helps_in_time s before turns sc ec cpu priority quantum h b nobody its outranks at never stays =
    helps_along (run (boot s) before) turns sc ec cpu priority quantum h b (record { scenario = s; turns = before; is = refl }) nobody its outranks at never stays

-- IT IS TAKEN

sends : (k : KernelState) (ec h : ℕ) (flag : Bool) → IsKept k → state_in k.contexts ec ≡ Some (Helping h) → state_in k.contexts h ≡ Some Parked → admitted k.contexts ec h flag ≡ Send
sends k ec h flag kept at parks =
    ap (λ (t : Bool).
    if not t then Refused BadCpu
    else if is_dead (state_in cs h) || circle cs h ec then Refused Aborted
    else if is_parked (state_in cs h) then Send
    else if flag then Refused Timeout
    else Help) one_cpu
    ∙ ap₂ (λ (o : Option State) (t : Bool).
    if is_dead o || t then Refused Aborted
    else if is_parked o then Send
    else if flag then Refused Timeout
    else Help) parks (open_ (circle cs h ec) refl)
  where
    cs : Contexts
    cs = k.contexts

    way : edge cs ec ≡ Some h
    way = ap (option_and_then edge_of) at

    helper : (x : EcState) × (ec_in cs ec ≡ Some x) × (x.state ≡ Helping h)
    helper = of_state cs ec (Helping h) at

    parked_there : (y : EcState) × (ec_in cs h ≡ Some y) × (y.state ≡ Parked)
    parked_there = of_state cs h Parked parks

    one_cpu : is_same_cpu (cpu_in cs h) (cpu_in cs ec) ≡ true
    one_cpu =
        let cpu : cpu_in cs ec ≡ Some helper.0.cpu = ap (option_map (λ (z : EcState). z.cpu)) helper.1 in
        ap₂ is_same_cpu (kept.edges.one_processor ec h way ∙ cpu) cpu ∙ eq-eqb helper.0.cpu helper.0.cpu refl

    no_way : (n : ℕ) → after_edges n (edge cs) h ≡ Some ec → ⊥
    no_way zero is =
        let same : h ≡ ec = cc in
        let both : Some Parked ≡ Some (Helping h) = sym parks ∙ ap (state_in cs) same ∙ at in cc
    no_way (suc n) is =
        let none : edge cs h ≡ None = ap (option_and_then edge_of) parks in
        let both : None ≡ Some ec = sym (ap (option_and_then (after_edges n (edge cs))) none) ∙ is in cc

    open_ : (t : Bool) → circle cs h ec ≡ t → circle cs h ec ≡ false
    open_ true is = let found = (circles_are_ways cs h ec kept.edges (rw parked_there.1 refl)).0 is in absurd (no_way found.0 found.1)
    open_ false is = is

call_sent : (k : KernelState) (ec domain selector pt : ℕ) (r : Registers) (flag : Bool) → call_of r ≡ Ok (asks.Call selector flag) → has_counts (message k ec) ≡ true →
    named k domain is_pt call_right selector ≡ Ok pt → admitted k.contexts ec (handler_of k pt) flag ≡ Send →
    hypercall k ec domain r ≡ Calls (handler_of k pt) (ip_of k pt) (identifier k pt) (has_items (message k ec))
call_sent k ec domain selector pt r flag reads counts names admits =
    ap (λ (x : Result Call Status). or_refuses (reg r 17) (and_then x (row k ec domain))) reads
    ∙ ap (λ (t : Bool). or_refuses (reg r 17) (unless (not t) BadPar (and_then (named k domain is_pt call_right selector) (λ p. called k ec p (admitted k.contexts ec (handler_of k p) flag))))) counts
    ∙ ap (λ (n : Result ℕ Status). or_refuses (reg r 17) (and_then n (λ p. called k ec p (admitted k.contexts ec (handler_of k p) flag)))) names
    ∙ ap (λ (a : Admit). or_refuses (reg r 17) (called k ec pt a)) admits

pub taken_then : (s : Scenario) (before : List ℕ) (sc ec cpu priority quantum h selector pt : ℕ) (b : Budget) (flag : Bool) →
    IsSchedule (run (boot s) before) sc ec cpu priority quantum b → OutranksOthers (run (boot s) before) cpu sc priority → state_in (run (boot s) before).contexts ec ≡ Some (Helping h) →
    state_in (run (boot s) before).contexts h ≡ Some Parked → due_on (run (boot s) before).times cpu ≡ None →
    call_of (context (run (boot s) before) ec).regs ≡ Ok (asks.Call selector flag) → has_counts (message (run (boot s) before) ec) ≡ true →
    named (run (boot s) before) (pd_of (run (boot s) before) ec) is_pt call_right selector ≡ Ok pt → handler_of (run (boot s) before) pt ≡ h →
    IsTaken (run (boot s) before) cpu sc ec h pt
taken_then s before sc ec cpu priority quantum h selector pt b flag its outranks at parks calm reads counts names handles =
    record { chosen = f.chosen; acts = f.acts; pays = f.pays; its = f.its ∙ stays_on k ec kept able; calls = calls }
  where
    k : KernelState
    k = run (boot s) before

    r : IsReached k
    r = record { scenario = s; turns = before; is = refl }

    kept : IsKept k
    kept = reached_is_kept k r

    able : acts k.contexts ec ≡ true
    able = ap (acts_as k.contexts) at ∙ ap is_free parks

    f : IsChosenFirst k cpu sc ec
    f = first_chosen k sc ec cpu priority quantum b r its outranks (ap (acts k.contexts) (stays_on k ec kept able) ∙ able) calm

    calls : deed k ec ≡ Calls h (ip_of k pt) (identifier k pt) (has_items (message k ec))
    calls =
        again k ec h (context_state k.contexts ec (Helping h) at)
        ∙ call_sent k ec (pd_of k ec) selector pt (context k ec).regs flag reads counts names
        (ap (λ (n : ℕ). admitted k.contexts ec n flag) handles ∙ sends k ec h flag kept at parks)
        ∙ ap (λ (n : ℕ). Calls n (ip_of k pt) (identifier k pt) (has_items (message k ec))) handles
