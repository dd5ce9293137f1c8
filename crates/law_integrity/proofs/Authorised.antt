-- Whatever a turn changes, the context whose turn it is had the authority for it.
use Rattle.std.proofs.Common.{◌≡◌, ◌⊎◌, ◌/◌, ℕ, List, inl, inr, refl, sym, ap, ◌∙◌, subst}
use Rattle.std.specs.Prelude.{◌≢◌, IfSome, Bool, true, false, ◌==◌, ◌&&◌, if◌then◌else◌, slice_get, option_map, Option, Some, None}
use Rattle.std.proofs.lemmas.Option.{same_Some}
use Rattle.nova_objects.specs.declared.object.Object.TheVariants.{Sc}
use Rattle.nova_model.specs.Boot.{Scenario, boot}
use Rattle.nova_model.specs.Choice.{Candidate, actor, candidate_of, candidate_with, next_to_act}
use Rattle.nova_model.specs.Deeds.{deed}
use Rattle.nova_model.specs.Edges.{AreEdges, acts, chase}
use Rattle.nova_ec.specs.Ways.{EndsAt}
use Rattle.nova_ec.proofs.Ends.{chases_end}
use Rattle.nova_model.specs.Forest.{IsForest}
use Rattle.nova_model.specs.Inputs.{is_stirred}
use Rattle.nova_model.specs.Runs.{after, run}
use Rattle.nova_model.specs.State.{KernelState, budget_at, is_local_thread, pd_of}
use Rattle.nova_model.specs.declared.deed.Deed.TheVariants.{Gives, Rests}
use Rattle.nova_model.specs.declared.delegation.Derivation.{Derivation}
use Rattle.nova_model.specs.Turn.{event_of}
use Rattle.nova_model.specs.declared.budget.Budget.{Budget}
use Rattle.law_forest.specs.Made.{Grows}
use Rattle.law_forest.specs.Turns.{Acts as Chosen, Idles as Stays, Passes as Comes, Takes, acting, turned}
use Rattle.law_forest.proofs.Actors.{chosen_answers, who_acts}
use Rattle.law_forest.proofs.Turning.{acting_is, acting_kind, acts_chosen, chosen_turn, comes}
use Rattle.law_isolation.proofs.Runs.{reached_sound}
use Rattle.law_turns.specs.Scheduling.{IsPaidBy}
use Rattle.law_turns.proofs.Candidates.{IsCandidate, schedule_of, the_chosen}
use Rattle.law_turns.proofs.Chosen.{chosen_does}
use Rattle.law_turns.proofs.Paid.{turn_paid}
use Rattle.law_turns.specs.Giving.{IsShared}
use Rattle.law_turns.proofs.Serving.{IsActor, actor_of, awaited}
use Rattle.law_turns.proofs.Sharing.{children_shared}
use Rattle.law_turns.proofs.TablesFit.{TablesFit, boot_run_fits, chosen_acts}
use Rattle.law_origins.specs.Events.{AreSelectors}
use Rattle.law_origins.proofs.Bases.{are_selectors, reached_events}
use Rattle.law_origins.specs.Giving.{Acts as Acting}
use Rattle.nova_range.specs.Rights.{write_right}
use Rattle.law_integrity.specs.Rights.{HasTurn, PageLeadsTo}
use Rattle.law_integrity.specs.Integrity.{ByActor, FrameBy, Idles, IsAuthorised, IsByRight, IsByTime, Passes}
use Rattle.law_integrity.proofs.Branches.{chosen_grows, grows_by}
use Rattle.law_integrity.proofs.Requests.{deed_asks_for}
use Rattle.law_integrity.proofs.Waking.{budgets_by, deed_raises, payer}
use Rattle.law_integrity.proofs.Rightful.{deed_rightful}
use Rattle.law_integrity.proofs.Passing.{coming, due_in, turned_by_time}
use Rattle.law_integrity.proofs.Stores.{deed_stores}
use Rattle.law_integrity.proofs.Tables.{contexts_by, counts_by, counts_right, deadlines_by, identifiers_by, messages_by, semaphores_by, transfers_by}

-- WHICH CONTEXT ACTS

actor_is : (k : KernelState) (cpu sc ec its_cpu priority quantum : ℕ) (c : Candidate) → candidate_of k cpu sc (Sc ec its_cpu priority quantum) ≡ Some c → c.actor ≡ chase k.contexts ec
actor_is k cpu sc ec its_cpu priority quantum c is = by_test ((its_cpu == cpu) && acts k.contexts (actor k ec)) is
  where
    by_budget : (b : Option Budget) → candidate_with sc (actor k ec) priority b ≡ Some c → c.actor ≡ chase k.contexts ec
    by_budget None e = absurd (cc)
    by_budget (Some b) e = sym (ap (λ (d : Candidate). d.actor) (same_Some _ c e))

    by_test : (t : Bool) → (if t then candidate_with sc (actor k ec) priority (budget_at k sc) else None) ≡ Some c → c.actor ≡ chase k.contexts ec
    by_test true e = by_budget (budget_at k sc) e
    by_test false e = absurd (cc)

pub has_turn : (k : KernelState) (cpu : ℕ) (c : Candidate) → AreEdges k.contexts → next_to_act k cpu ≡ Some c → HasTurn k cpu c.actor c.sc
has_turn k cpu c edges acts_ =
    let next = acts_chosen k cpu c acts_ in
    let chosen = next.0 in
    let candidate : IsCandidate k cpu c = the_chosen k cpu c chosen in
    let its = schedule_of k cpu c candidate in
    let object : candidate.object ≡ Sc its.ec cpu its.priority its.quantum = same_Some _ _ (sym candidate.at ∙ its.object) in
    record {
      early = next.1;
      chosen = ap (option_map (λ (d : Candidate). d.sc)) chosen;
      donor = its.ec;
      priority = its.priority;
      quantum = its.quantum;
      object = its.object;
      leads = subst (EndsAt k.contexts its.ec) (sym (actor_is k cpu c.sc its.ec cpu its.priority its.quantum c (ap (candidate_of k cpu c.sc) (sym object) ∙ candidate.is)))
          (chases_end k.contexts its.ec edges);
      acts = chosen_acts k cpu c acts_;
    }

-- A TURN

-- what is given is shared as the item says
abbrev HasShares : KernelState → Type 0
HasShares k = (ec : ℕ) (child : Derivation) (cursor : ℕ) → deed k ec ≡ Gives child cursor → IsShared k ec child

reached_shares : (s : Scenario) (turns : List ℕ) → HasShares (run (boot s) turns)
reached_shares s turns ec child cursor is = children_shared s turns ec cursor child is

-- the chosen context does something
chosen_something : (k : KernelState) (cpu : ℕ) (c : Candidate) → next_to_act k cpu ≡ Some c → TablesFit k → deed k c.actor ≢ Rests
chosen_something k cpu c chosen fits =
    subst (λ (o : Option Candidate). IfSome o (λ d. deed k d.actor ≢ Rests)) (acts_chosen k cpu c chosen).0 (chosen_does k cpu (is_local_thread k) fits.served.well)

-- what the turn of the chosen context leaves, part by part
turned_right : (k : KernelState) (cpu : ℕ) (c : Candidate) → IsForest k.delegations → HasShares k → AreSelectors k → TablesFit k → next_to_act k cpu ≡ Some c → after k cpu ≡ turned k cpu (acting k c) →
    IsByRight k (turned k cpu (acting k c)) cpu c.actor c.sc
turned_right k cpu c forest shares selectors fits chosen state =
    let r = deed_rightful k c.actor forest selectors fits.served in
    let actor : IsActor k.contexts c.actor = actor_of k.contexts c.actor (chosen_acts k cpu c chosen) in
    let stores = deed_stores k c.actor (deed k c.actor) refl in
    let grows = subst (Grows k c.actor) state (chosen_grows k cpu c chosen) in
    let paid = subst (λ (s : KernelState). IsPaidBy k s cpu c.sc) state (turn_paid k cpu (event_of cpu c (deed k c.actor)) (acting_kind (deed k c.actor)) (chosen_answers k cpu c chosen)) in
    record {
      does = record { after = sym (acting_is k cpu c); rightful = r; something = chosen_something k cpu c chosen fits; asks = deed_asks_for k c.actor };
      serves = λ caller mark serves. (awaited (is_local_thread k) k.contexts c.actor caller mark actor serves fits.served).waits;
      frames = stores.0;
      log = stores.1;
      messages = λ n. messages_by k c.actor n r actor fits;
      contexts = λ n. contexts_by k c.actor n r actor fits;
      transfers = λ n. transfers_by k c.actor n fits.tables;
      grows = grows_by k (turned k cpu (acting k c)) c.actor forest (shares c.actor) refl grows;
      identifiers = λ n. identifiers_by k c.actor n r fits.tables;
      semaphores = λ n. semaphores_by k c.actor n r fits.tables;
      raises = λ sm whom is. deed_raises k cpu c.actor sm whom (is_stirred k c.actor (deed k c.actor)) (Some c.sc) is actor fits;
      deadlines = λ n. deadlines_by k c.actor n r;
      alarms = refl;
      clocks = refl;
      budgets = paid;
      new_budgets = λ n none. budgets_by k cpu c.actor c.sc n (is_stirred k c.actor (deed k c.actor)) fits.tables (payer k cpu c.sc (turned k cpu (acting k c)) paid) none;
      counts = λ n. counts_right k (turned k cpu (acting k c)) cpu c.actor n state (counts_by k c.actor n fits.tables);
      turns = refl;
      processors = refl;
      cpus = refl;
      consoles = refl;
    }

turn_authorised : (k : KernelState) (cpu : ℕ) → AreEdges k.contexts → IsForest k.delegations → HasShares k → AreSelectors k → TablesFit k → IsAuthorised k (after k cpu) cpu
turn_authorised k cpu edges forest shares selectors fits = elim (comes k cpu) [
  | Stays none quiet same answer ↦ Idles (ap (option_map (λ (d : Candidate). d.sc)) none) quiet same
  | Takes t e is state answer ↦ elim is [
    | Chosen c chosen its event ↦
        let now = state ∙ ap (turned k cpu) its in
        ByActor c.actor c.sc (has_turn k cpu c edges chosen) (subst (λ (s : KernelState). IsByRight k s cpu c.actor c.sc) (sym now) (turned_right k cpu c forest shares selectors fits chosen now))
    | Comes p passes its event ↦
        Passes (due_in p) (coming k cpu p passes) (subst (λ (s : KernelState). IsByTime k s cpu (due_in p)) (sym (state ∙ ap (turned k cpu) its)) (turned_by_time k cpu p passes fits))
  ]
]

pub authorised : (s : Scenario) (turns : List ℕ) (cpu : ℕ) → IsAuthorised (run (boot s) turns) (after (run (boot s) turns) cpu) cpu
authorised s turns cpu =
    turn_authorised (run (boot s) turns) cpu (reached_sound s turns).kept.edges (reached_sound s turns).forest (reached_shares s turns) (are_selectors (run (boot s) turns) (reached_events s turns)) (boot_run_fits s turns)

-- the context that acts is that whose turn it is
pub authorised_by : (s : Scenario) (turns : List ℕ) (cpu ec : ℕ) → Acting (run (boot s) turns) cpu ec → (sc : ℕ) × HasTurn (run (boot s) turns) cpu ec sc × IsByRight (run (boot s) turns) (after (run (boot s) turns) cpu) cpu ec sc
authorised_by s turns cpu ec is =
    who_acts (λ n. (sc : ℕ) × HasTurn now cpu n sc × IsByRight now (after now cpu) cpu n sc) now cpu ec is (λ c chosen. (
      c.sc,
      has_turn now cpu c (reached_sound s turns).kept.edges chosen,
      subst (λ (k : KernelState). IsByRight now k cpu c.actor c.sc) (sym (chosen_turn now cpu c chosen))
          (turned_right now cpu c (reached_sound s turns).forest (reached_shares s turns) (are_selectors now (reached_events s turns)) (boot_run_fits s turns) chosen (chosen_turn now cpu c chosen)),
    ))
  where
    now : KernelState
    now = run (boot s) turns

-- a frame that the context that acts may not write stays
pub frames_of : (s : Scenario) (turns : List ℕ) (cpu frame : ℕ) →
    ((ec page : ℕ) → Acting (run (boot s) turns) cpu ec → PageLeadsTo (run (boot s) turns) (pd_of (run (boot s) turns) ec) page write_right frame → ⊥) →
    slice_get (after (run (boot s) turns) cpu).memory.ram frame ≡ slice_get (run (boot s) turns).memory.ram frame
frames_of s turns cpu frame none = elim (comes now cpu) [
  | Stays none_ quiet same answer ↦ ap (λ (k : KernelState). slice_get k.memory.ram frame) same
  | Takes t e is state answer ↦ elim is [
    | Chosen c chosen its event ↦
        let acts_ : Acting now cpu c.actor = ap (option_map (λ (d : Candidate). d.actor)) chosen in
        by_frame c.actor acts_ ((authorised_by s turns cpu c.actor acts_).2.frames frame)
    | Comes p passes its event ↦ ap (λ (k : KernelState). slice_get k.memory.ram frame) (state ∙ ap (turned now cpu) its)
  ]
]
  where
    now : KernelState
    now = run (boot s) turns

    by_frame : (ec : ℕ) → Acting now cpu ec → (slice_get (after now cpu).memory.ram frame ≡ slice_get now.memory.ram frame)
        ⊎ FrameBy now ec frame (slice_get now.memory.ram frame) (slice_get (after now cpu).memory.ram frame) →
        slice_get (after now cpu).memory.ram frame ≡ slice_get now.memory.ram frame
    by_frame ec acts_ (inl same) = same
    by_frame ec acts_ (inr by) = absurd (none ec (by.store.address / 4096) acts_ by.reaches.reaches)
