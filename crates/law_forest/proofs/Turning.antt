-- Each turn of a processor is an effect, with a charge; and what turns keep holds along every list of turns.
use Rattle.std.proofs.Common.{◌≡◌, ℕ, ◌+◌, List, [], ◌∷◌, refl, sym, ap, ◌∙◌, subst}
use Rattle.std.specs.Prelude.{Bool, false, true, slice_get, IsSome, Option, Some, None, option_map, option_and_then, Result, Ok, Err}
use Rattle.nova_model.specs.Boot.{Scenario, boot}
use Rattle.nova_model.specs.Choice.{Candidate, choice, next_to_act, unless_due}
use Rattle.nova_model.specs.Deeds.{deed, done, sign_of}
use Rattle.nova_model.specs.Inputs.{is_stirred, stirred, stirred_count, stirred_from}
use Rattle.nova_model.specs.Runs.{after, run}
use Rattle.nova_model.specs.State.{KernelState, budget_at}
use Rattle.nova_model.specs.Turn.{Step, answer_of, charged, chosen_by, counted, event_of, paid_by, quantum_in, rings_at, state_after, tick_by, turn, turn_by, whom_of}
use Rattle.nova_model.specs.declared.budget.Budget.{Budget}
use Rattle.nova_model.specs.declared.deed.Deed.{Deed}
use Rattle.nova_model.specs.declared.deed.Deed.TheVariants.{Finishes, Replies, Rests}
use Rattle.nova_model.specs.declared.transfer.ItemEnd.TheVariants.{Given, Skipped, Translated}
use Rattle.nova_model.specs.Times.{Entry, alarm_sm, clock, due_on, if_due, next_entry, next_moment}
use Rattle.nova_range.specs.declared.status.Status.TheVariants.{Success}
use Rattle.nova_model.specs.declared.event.EventKind.{EventKind}
use Rattle.nova_model.specs.declared.semaphore.Overflow.{Overflow}
use Rattle.nova_model.specs.declared.times.Due.{Due}
use Rattle.nova_model.specs.declared.times.Due.TheVariants as due
use Rattle.nova_model.specs.declared.event.Event.{Event}
use Rattle.nova_model.specs.declared.event.Turn.{Turn}
use Rattle.nova_model.specs.declared.event.Turn.TheVariants.{Stepped, Idle}
use Rattle.law_forest.specs.Effects.{Falls, Passing, Ticks, alarm_up, applied, clears_by, effect, ends_by, passing_effect, with_status}
use Rattle.law_forest.specs.Turns.{Acts, Comes, Idles, IsPassing, IsTurning, Passes, Takes, Turning, acting, is_passing, passing, passing_event, settled, stirred_counts, turned}
use Rattle.law_forest.proofs.Doing.{done_is}

counts_is : (k : KernelState) (ec : ℕ) (d : Deed) (g : ℕ) (counts : List (Option ℕ)) → stirred_from k ec d g counts ≡ stirred_counts (is_stirred k ec d) g counts
counts_is k ec d g [] = refl
counts_is k ec d g (count ∷ counts) = ap (λ (l : List (Option ℕ)). option_map (stirred_count k ec d g) count ∷ l) (counts_is k ec d (g + 1) counts)

paid_is : (s : KernelState) (cpu sc : ℕ) (o : Option Budget) → budget_at s sc ≡ o → counted (paid_by s sc (quantum_in (slice_get s.objects sc)) o) cpu
    ≡ record (settled s cpu (record { effect = effect s 0 Rests; stirs = λ g. false; charge = Some sc })) { stirs = (counted s cpu).stirs }
paid_is s cpu sc None is = rw is refl
paid_is s cpu sc (Some b) is = rw is refl

charged_is : (s : KernelState) (cpu sc : ℕ) (stirs : ℕ → Bool) (guests : List (Option ℕ)) → guests ≡ stirred_counts stirs 0 s.stirs.guests →
    charged (record s { stirs = record s.stirs { guests = guests } }) cpu sc ≡ settled s cpu (record { effect = effect s 0 Rests; stirs = stirs; charge = Some sc })
unfolding charged
charged_is s cpu sc stirs guests is =
    ap (λ (gs : List (Option ℕ)). counted (paid_by (record s { stirs = record s.stirs { guests = gs } }) sc (quantum_in (slice_get s.objects sc)) (budget_at s sc)) cpu) is
    ∙ paid_is (record s { stirs = record s.stirs { guests = stirred_counts stirs 0 s.stirs.guests } }) cpu sc (budget_at s sc) refl

-- the turn of the chosen context
pub acting_is : (k : KernelState) (cpu : ℕ) (c : Candidate) → charged (stirred k c.actor (deed k c.actor) (done k c.actor (deed k c.actor))) cpu c.sc ≡ turned k cpu (acting k c)
acting_is k cpu c =
    charged_is (done k c.actor (deed k c.actor)) cpu c.sc (is_stirred k c.actor (deed k c.actor)) _
    (counts_is k c.actor (deed k c.actor) 0 (done k c.actor (deed k c.actor)).stirs.guests)
    ∙ ap (λ (s : KernelState). settled s cpu (acting k c)) (done_is k c.actor (deed k c.actor))

-- a turn that is counted alone stirs no context
pub calm_counts : (g : ℕ) (counts : List (Option ℕ)) → stirred_counts (λ g. false) g counts ≡ counts
calm_counts g [] = refl
calm_counts g (None ∷ counts) = ap (λ (l : List (Option ℕ)). None ∷ l) (calm_counts (g + 1) counts)
calm_counts g (Some n ∷ counts) = ap (λ (l : List (Option ℕ)). Some n ∷ l) (calm_counts (g + 1) counts)

counted_is : (k s : KernelState) (cpu : ℕ) (p : Passing) → counted s cpu ≡ settled s cpu (passing k p)
counted_is k s cpu p =
    ap (λ (gs : List (Option ℕ)). record (counted s cpu) { stirs = record (counted s cpu).stirs { guests = gs } }) (sym (calm_counts 0 s.stirs.guests))

-- the turn of an alarm, by the context that it wakes
ringing_is : (k : KernelState) (alarm : ℕ) (up : Result (Option ℕ) Overflow) →
    rings_at k alarm (alarm_sm (slice_get k.times.alarms alarm)) up
    ≡ applied k (record (passing_effect k (Falls (due.Alarm alarm))) {
      edits = ends_by (with_status Success (whom_of up));
      deadline = clears_by (with_status Success (whom_of up));
    })
ringing_is k alarm (Ok None) = refl
ringing_is k alarm (Ok (Some w)) = refl
ringing_is k alarm (Err full) = refl

pub acts_next : (k : KernelState) (cpu : ℕ) (c : Candidate) → choice k cpu ≡ Some c → due_on k.times cpu ≡ None → next_to_act k cpu ≡ Some c
unfolding next_to_act
acts_next k cpu c is calm = ap (λ (o : Option Due). unless_due o (choice k cpu)) calm ∙ is

pub comes : (k : KernelState) (cpu : ℕ) → Comes k (after k cpu) cpu (answer_of (turn k cpu))
unfolding turn
comes k cpu = by_due (due_on k.times cpu) refl
  where
    by_moment : (o : Option ℕ) → next_moment k.times cpu ≡ o → due_on k.times cpu ≡ None → choice k cpu ≡ None →
        Comes k (state_after k (tick_by k cpu o)) cpu (answer_of (tick_by k cpu o))
    by_moment None is calm none = Idles none is refl refl
    by_moment (Some moment) is calm none =
        Takes (passing k Ticks) (passing_event k cpu Ticks) (Passes Ticks (calm, none, subst IsSome (sym is) refl) refl refl) (counted_is k k cpu Ticks) refl

    by_choice : (o : Option Candidate) → choice k cpu ≡ o → due_on k.times cpu ≡ None → Comes k (state_after k (chosen_by k cpu o)) cpu (answer_of (chosen_by k cpu o))
    by_choice None is calm = by_moment (next_moment k.times cpu) refl calm is
    by_choice (Some c) is calm = Takes (acting k c) (event_of cpu c (deed k c.actor)) (Acts c (acts_next k cpu c is calm) refl refl) (acting_is k cpu c) refl

    by_due : (o : Option Due) → due_on k.times cpu ≡ o → Comes k (state_after k (turn_by k cpu o)) cpu (answer_of (turn_by k cpu o))
    by_due None is = by_choice (choice k cpu) refl is
    by_due (Some (due.Alarm alarm)) is =
        Takes (passing k (Falls (due.Alarm alarm))) (passing_event k cpu (Falls (due.Alarm alarm))) (Passes (Falls (due.Alarm alarm)) is refl refl)
        (ap (λ (s : KernelState). counted s cpu) (ringing_is k alarm (alarm_up k alarm)) ∙ counted_is k (applied k (passing_effect k (Falls (due.Alarm alarm)))) cpu (Falls (due.Alarm alarm))) refl
    by_due (Some (due.Deadline ec)) is =
        Takes (passing k (Falls (due.Deadline ec))) (passing_event k cpu (Falls (due.Deadline ec))) (Passes (Falls (due.Deadline ec)) is refl refl)
        (counted_is k (applied k (passing_effect k (Falls (due.Deadline ec)))) cpu (Falls (due.Deadline ec))) refl

-- no context acts on an idle processor
pub idle_none : (k : KernelState) (cpu : ℕ) → choice k cpu ≡ None → next_to_act k cpu ≡ None
unfolding next_to_act
idle_none k cpu none = by_due (due_on k.times cpu)
  where
    by_due : (o : Option Due) → unless_due o (choice k cpu) ≡ None
    by_due None = none
    by_due (Some what) = refl

-- the event that an answer has
abbrev pub event_in : Turn → Option Event
event_in Idle = None
event_in (Stepped e) = Some e

abbrev pub event_at : KernelState → ℕ → Option Event
event_at k cpu = option_map (λ (s : Step). s.event) (turn k cpu)

pub event_answered : (o : Option Step) → option_map (λ (s : Step). s.event) o ≡ event_in (answer_of o)
event_answered None = refl
event_answered (Some s) = refl

-- what holds of a state that stays, without an event, and of each turn with its event, holds of what a processor comes to
pub outcome : (P : KernelState → Option Event → Type 0) (k : KernelState) (cpu : ℕ) → (next_to_act k cpu ≡ None → P k None) →
    ((t : Turning) (e : Event) → IsTurning k cpu t e → P (turned k cpu t) (Some e)) → P (after k cpu) (event_at k cpu)
outcome P k cpu idles takes = subst (P (after k cpu)) (sym (event_answered (turn k cpu))) (by_turn (comes k cpu))
  where
    by_turn : Comes k (after k cpu) cpu (answer_of (turn k cpu)) → P (after k cpu) (event_in (answer_of (turn k cpu)))
    by_turn (Idles none no_moment same answer) =
        subst (λ (a : Turn). P (after k cpu) (event_in a)) (sym answer) (subst (λ (s : KernelState). P s None) (sym same) (idles (idle_none k cpu none)))
    by_turn (Takes t e is state answer) =
        subst (λ (a : Turn). P (after k cpu) (event_in a)) (sym answer) (subst (λ (s : KernelState). P s (Some e)) (sym state) (takes t e is))

-- nothing is due where nothing is to come
pub nothing_due : (k : KernelState) (cpu : ℕ) → next_moment k.times cpu ≡ None → due_on k.times cpu ≡ None
nothing_due k cpu none = by_entry (next_entry k.times cpu) none
  where
    by_entry : (o : Option Entry) → option_map (λ (e : Entry). e.moment) o ≡ None → option_and_then (if_due (clock k.times cpu)) o ≡ None
    by_entry None is = refl
    by_entry (Some e) is = absurd cc

-- the context that acts is chosen, and nothing is due then
pub acts_chosen : (k : KernelState) (cpu : ℕ) (c : Candidate) → next_to_act k cpu ≡ Some c → (choice k cpu ≡ Some c) × (due_on k.times cpu ≡ None)
unfolding next_to_act
acts_chosen k cpu c acts = by_due (due_on k.times cpu) acts
  where
    by_due : (o : Option Due) → unless_due o (choice k cpu) ≡ Some c → (choice k cpu ≡ Some c) × (o ≡ None)
    by_due None is = (is, refl)
    by_due (Some what) is = absurd cc

-- and none acts in a turn of what comes by itself
pub passing_none : (k : KernelState) (cpu : ℕ) (p : Passing) → IsPassing k cpu p → next_to_act k cpu ≡ None
unfolding next_to_act
passing_none k cpu (Falls what) is = ap (λ (o : Option Due). unless_due o (choice k cpu)) is
passing_none k cpu Ticks is = ap (λ (o : Option Due). unless_due o (choice k cpu)) is.0 ∙ is.1

-- the context that acts takes the turn
pub chosen_turn : (k : KernelState) (cpu : ℕ) (c : Candidate) → next_to_act k cpu ≡ Some c → after k cpu ≡ turned k cpu (acting k c)
chosen_turn k cpu c chosen = elim (comes k cpu) [
  | Idles none moment same answer ↦ absurd (let both : None ≡ Some c = sym (idle_none k cpu none) ∙ chosen in cc)
  | Takes t e is state answer ↦ elim is [
    | Acts d taken acts event ↦
        let both : Some d ≡ Some c = sym taken ∙ chosen in
        let one : d ≡ c = cc in state ∙ ap (turned k cpu) acts ∙ ap (λ (x : Candidate). turned k cpu (acting k x)) one
    | Passes p due passes event ↦ absurd (let both : None ≡ Some c = sym (passing_none k cpu p due) ∙ chosen in cc)
  ]
]

-- what comes by itself takes the turn where nothing else may
only_passing : (k : KernelState) (cpu : ℕ) (q : Passing) → next_to_act k cpu ≡ None → (choice k cpu ≡ None → next_moment k.times cpu ≡ None → ⊥) → ((p : Passing) → IsPassing k cpu p → p ≡ q) →
    (after k cpu ≡ turned k cpu (passing k q)) × (answer_of (turn k cpu) ≡ Stepped (passing_event k cpu q))
only_passing k cpu q nobody busy only = elim (comes k cpu) [
  | Idles none moment same answer ↦ absurd (busy none moment)
  | Takes t e comes state answer ↦ elim comes [
    | Acts d taken acts event ↦ absurd (let both : None ≡ Some d = sym nobody ∙ taken in cc)
    | Passes p due passes event ↦ (
      state ∙ ap (turned k cpu) passes ∙ ap (λ (q : Passing). turned k cpu (passing k q)) (only p due),
      answer ∙ ap Stepped event ∙ ap (λ (q : Passing). Stepped (passing_event k cpu q)) (only p due),
    )
  ]
]

-- what is due
due_only : (k : KernelState) (cpu : ℕ) (what : Due) → due_on k.times cpu ≡ Some what →
    (after k cpu ≡ turned k cpu (passing k (Falls what))) × (answer_of (turn k cpu) ≡ Stepped (passing_event k cpu (Falls what)))
due_only k cpu what is =
    only_passing k cpu (Falls what) (passing_none k cpu (Falls what) is)
    (λ none moment. let calm = nothing_due k cpu moment in absurd (let both : None ≡ Some what = sym calm ∙ is in cc)) same
  where
    same : (p : Passing) → IsPassing k cpu p → p ≡ Falls what
    same (Falls other) due = let both : Some other ≡ Some what = sym due ∙ is in let one : other ≡ what = cc in ap Falls one
    same Ticks due = absurd (let both : None ≡ Some what = sym due.0 ∙ is in cc)

pub due_turn : (k : KernelState) (cpu : ℕ) (what : Due) → due_on k.times cpu ≡ Some what → after k cpu ≡ turned k cpu (passing k (Falls what))
due_turn k cpu what is = (due_only k cpu what is).0

pub due_answers : (k : KernelState) (cpu : ℕ) (what : Due) → due_on k.times cpu ≡ Some what → answer_of (turn k cpu) ≡ Stepped (passing_event k cpu (Falls what))
due_answers k cpu what is = (due_only k cpu what is).1

-- and a tick
tick_only : (k : KernelState) (cpu : ℕ) → due_on k.times cpu ≡ None → choice k cpu ≡ None → IsSome (next_moment k.times cpu) →
    (after k cpu ≡ turned k cpu (passing k Ticks)) × (answer_of (turn k cpu) ≡ Stepped (passing_event k cpu Ticks))
tick_only k cpu calm none moment =
    only_passing k cpu Ticks (passing_none k cpu Ticks (calm, none, moment)) (λ nobody never. let there : IsSome {T = ℕ} None = subst IsSome never moment in cc) same
  where
    same : (p : Passing) → IsPassing k cpu p → p ≡ Ticks
    same (Falls what) due = absurd (let both : None ≡ Some what = sym calm ∙ due in cc)
    same Ticks due = refl

pub tick_turn : (k : KernelState) (cpu : ℕ) → due_on k.times cpu ≡ None → choice k cpu ≡ None → IsSome (next_moment k.times cpu) → after k cpu ≡ turned k cpu (passing k Ticks)
tick_turn k cpu calm none moment = (tick_only k cpu calm none moment).0

pub tick_answers : (k : KernelState) (cpu : ℕ) → due_on k.times cpu ≡ None → choice k cpu ≡ None → IsSome (next_moment k.times cpu) →
    answer_of (turn k cpu) ≡ Stepped (passing_event k cpu Ticks)
tick_answers k cpu calm none moment = (tick_only k cpu calm none moment).1

-- no turn is taken exactly where none is chosen
none_answered : (o : Option Step) → answer_of o ≡ Idle → o ≡ None
none_answered None is = refl
none_answered (Some s) is = absurd cc

pub none_taken : (k : KernelState) (cpu : ℕ) → choice k cpu ≡ None → next_moment k.times cpu ≡ None → turn k cpu ≡ None
none_taken k cpu none moment = elim (comes k cpu) [
  | Idles is no_moment same answer ↦ none_answered (turn k cpu) answer
  | Takes t e is state answer ↦ elim is [
    | Acts c chosen acts event ↦ absurd (let both : None ≡ Some c = sym none ∙ (acts_chosen k cpu c chosen).0 in cc)
    | Passes p due passes event ↦ absurd (none_passes p due)
  ]
]
  where
    none_passes : (p : Passing) → IsPassing k cpu p → ⊥
    none_passes (Falls what) is = let calm = nothing_due k cpu moment in let both : Some what ≡ None = sym is ∙ calm in cc
    none_passes Ticks is = let there : IsSome {T = ℕ} None = subst IsSome moment is.2 in cc

-- an idle processor has nothing to come, and nothing that is runnable
pub none_chosen : (k : KernelState) (cpu : ℕ) → turn k cpu ≡ None → (choice k cpu ≡ None) × (next_moment k.times cpu ≡ None)
none_chosen k cpu none = elim (comes k cpu) [
  | Idles is moment same answer ↦ (is, moment)
  | Takes t e is state answer ↦ absurd (let both : Idle ≡ Stepped e = sym (ap answer_of none) ∙ answer in cc)
]

-- of a turn that answers an event
pub record IsTurn (k new : KernelState) (cpu : ℕ) (e : Event) : Type 0 where
  pub turning : Turning
  pub comes : IsTurning k cpu turning e
  pub state : new ≡ turned k cpu turning

pub turn_of : (k : KernelState) (cpu : ℕ) (e : Event) → answer_of (turn k cpu) ≡ Stepped e → IsTurn k (after k cpu) cpu e
turn_of k cpu e answers = elim (comes k cpu) [
  | Idles is moment same answer ↦ absurd (let none : Idle ≡ Stepped e = sym answer ∙ answers in cc)
  | Takes t f is state answer ↦
      let event : f ≡ e = (let both : Stepped f ≡ Stepped e = sym answer ∙ answers in cc) in
      record { turning = t; comes = subst (IsTurning k cpu t) event is; state = state }
]

-- what holds of the event of the chosen context, and of the state after, and of the event of what comes by itself, holds of the event of a turn
pub of_events : (P : Event → Type 0) (k : KernelState) (cpu : ℕ) (e : Event) → answer_of (turn k cpu) ≡ Stepped e →
    ((p : Passing) → IsPassing k cpu p → after k cpu ≡ turned k cpu (passing k p) → P (passing_event k cpu p)) →
    ((c : Candidate) → next_to_act k cpu ≡ Some c → after k cpu ≡ turned k cpu (acting k c) → P (event_of cpu c (deed k c.actor))) → P e
of_events P k cpu e answers passes holds = by_turn (turn_of k cpu e answers)
  where
    by_turn : IsTurn k (after k cpu) cpu e → P e
    by_turn o = elim o.comes [
      | Acts c chosen is event ↦ subst P (sym event) (holds c chosen (o.state ∙ ap (turned k cpu) is))
      | Passes p comes is event ↦ subst P (sym event) (passes p comes (o.state ∙ ap (turned k cpu) is))
    ]

-- an event of what comes by itself is of its kinds
pub passing_kind : (k : KernelState) (cpu : ℕ) (p : Passing) → is_passing (passing_event k cpu p).kind ≡ true
passing_kind k cpu (Falls (due.Alarm alarm)) = refl
passing_kind k cpu (Falls (due.Deadline ec)) = refl
passing_kind k cpu Ticks = refl

-- what holds of the event of the chosen context, and of the state after, holds of the event of a turn of another kind
pub of_event : (P : Event → Type 0) (k : KernelState) (cpu : ℕ) (e : Event) → is_passing e.kind ≡ false → answer_of (turn k cpu) ≡ Stepped e →
    ((c : Candidate) → next_to_act k cpu ≡ Some c → after k cpu ≡ turned k cpu (acting k c) → P (event_of cpu c (deed k c.actor))) → P e
of_event P k cpu e other answers holds = by_turn (turn_of k cpu e answers)
  where
    by_turn : IsTurn k (after k cpu) cpu e → P e
    by_turn o = elim o.comes [
      | Acts c chosen is event ↦ subst P (sym event) (holds c chosen (o.state ∙ ap (turned k cpu) is))
      | Passes p comes is event ↦
          absurd (let both : true ≡ false = sym (passing_kind k cpu p) ∙ ap (λ (f : Event). is_passing f.kind) (sym event) ∙ other in cc)
    ]

-- a deed is of another kind
pub acting_kind : (d : Deed) → is_passing (sign_of d).0 ≡ false
acting_kind (Finishes item (Given children) words after) = refl
acting_kind (Finishes item (Skipped skip) words after) = refl
acting_kind (Finishes item (Translated word) words after) = refl
acting_kind (Replies caller mark true) = refl
acting_kind (Replies caller mark false) = refl
acting_kind other = refl

-- what holds of one kind, which a deed alone has
pub of_kind : (kind : EventKind) → is_passing kind ≡ false → (P : Event → Type 0) (k : KernelState) (cpu : ℕ) (e : Event) → answer_of (turn k cpu) ≡ Stepped e →
    ((c : Candidate) → next_to_act k cpu ≡ Some c → after k cpu ≡ turned k cpu (acting k c) → (event_of cpu c (deed k c.actor)).kind ≡ kind → P (event_of cpu c (deed k c.actor))) →
    e.kind ≡ kind → P e
of_kind kind other P k cpu e answers holds is =
    of_event (λ (f : Event). f.kind ≡ kind → P f) k cpu e (ap is_passing is ∙ other) answers holds is

-- WHAT TURNS KEEP

-- it holds at the beginning, and each turn keeps it
pub record Kept (P : KernelState → Type 0) : Type 0 where
  pub begins : (s : Scenario) → P (boot s)
  pub turns : (k : KernelState) (cpu : ℕ) (t : Turning) (e : Event) → IsTurning k cpu t e → P k → P (turned k cpu t)

pub after_keeps : (P : KernelState → Type 0) → ((k : KernelState) (cpu : ℕ) (t : Turning) (e : Event) → IsTurning k cpu t e → P k → P (turned k cpu t)) →
    (k : KernelState) (cpu : ℕ) → P k → P (after k cpu)
after_keeps P keeps k cpu h = elim (comes k cpu) [
  | Idles is moment same answer ↦ subst P (sym same) h
  | Takes t e is state answer ↦ subst P (sym state) (keeps k cpu t e is h)
]

pub run_keeps : (P : KernelState → Type 0) → ((k : KernelState) (cpu : ℕ) → P k → P (after k cpu)) → (k : KernelState) (turns : List ℕ) → P k → P (run k turns)
run_keeps P keeps k [] h = h
run_keeps P keeps k (cpu ∷ turns) h = run_keeps P keeps (after k cpu) turns (keeps k cpu h)

pub along : (P : KernelState → Type 0) → Kept P → (s : Scenario) (turns : List ℕ) → P (run (boot s) turns)
along P kept s turns = run_keeps P (after_keeps P kept.turns) (boot s) turns (kept.begins s)
