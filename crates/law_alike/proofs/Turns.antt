-- Alike states have alike turns, and runs.
use Rattle.std.proofs.Common.{◌≡◌, ℕ, List, [], ◌∷◌, length, refl, sym, ap, ap₂, ◌∙◌, subst}
use Rattle.std.specs.Prelude.{Bool, false, ◌&&◌, IfSome, IsSome, nat_lt, is_none, is_some, slice_get, option_map, Option, Some, None}
use Rattle.std.specs.List.{list_all, range_with_len}
use Rattle.std.proofs.lemmas.List.{length-map}
use Rattle.nova_objects.specs.declared.object.Object.{Object}
use Rattle.nova_model.specs.Boot.{Scenario, boot}
use Rattle.nova_model.specs.Capabilities.{is_sc}
use Rattle.nova_model.specs.Choice.{Candidate, choice, in_front, is_idle, is_quiet, next_to_act, unless_due}
use Rattle.nova_model.specs.Creation.{object_of}
use Rattle.nova_model.specs.Deeds.{deed}
use Rattle.nova_model.specs.Runs.{after, run, trace}
use Rattle.nova_model.specs.State.{KernelState, Stirs, entry}
use Rattle.nova_model.specs.Times.{due_on, next_moment}
use Rattle.nova_model.specs.Turn.{answer_of, event_by, event_of, quantum_in, state_after, turn}
use Rattle.nova_model.specs.declared.budget.Budget.{Budget}
use Rattle.nova_model.specs.declared.event.Event.{Event}
use Rattle.nova_model.specs.declared.event.EventKind.{EventKind}
use Rattle.nova_model.specs.declared.event.Turn.TheVariants.{Stepped}
use Rattle.nova_model.specs.declared.new_object.NewObject.{NewObject}
use Rattle.nova_model.specs.declared.times.Deadline.{Deadline}
use Rattle.nova_model.specs.declared.times.Due.{Due}
use Rattle.law_forest.specs.Effects.{Effect, Falls, Passing, Ticks, applied, clears_by, deadline_by, effect, joined, made_by, passing_effect, passing_ends, passing_rings, stamp_with}
use Rattle.law_forest.specs.Turns.{Acts, Idles, Passes, Takes, acting, budgets_paid, passing, passing_event, turned}
use Rattle.law_forest.proofs.Turning.{acts_next, chosen_turn, comes, due_answers, due_turn, event_answered, event_in, idle_none, none_taken, passing_none, tick_answers, tick_turn}
use Rattle.law_turns.specs.Keeping.{IsKept}
use Rattle.law_turns.proofs.Donation.{keeps, reached_kept}
use Rattle.law_alike.specs.Alike.{IsAlike, ArePeers, AreStampsGiven, AreTimesAlike, TellNoTicks, TellsNoTicks, lefts, tells_ticks, uncounted}
use Rattle.law_turns.specs.Budgets.{stamp_in}
use Rattle.law_alike.proofs.Choosing.{AreSameBut, choice_paired}
use Rattle.law_alike.proofs.Doing.{AreDeedsAlike, applied_alike, deeds_alike, made_alike, rests_alike, sets_alike, signs_alike}
use Rattle.law_alike.proofs.Given.{given_after, reached_given}
use Rattle.law_alike.proofs.Lists.{Both}
use Rattle.law_alike.proofs.Moments.{IsSetAlike, due_alike, moments_alike, times_after, times_flipped, times_itself, times_through, times_turned}
use Rattle.law_alike.proofs.Passing.{cleared, effects_passing, events_passing}
use Rattle.law_alike.proofs.Paying.{grown_budgets, lefts_after, lefts_turned, turned_ordered}

-- AN EQUIVALENCE

same_peers : (k l : KernelState) (m n : ℕ) → k.objects ≡ l.objects → ArePeers l.objects m n → ArePeers k.objects m n
same_peers k l m n same h = subst (λ (os : List Object). ArePeers os m n) (sym same) h

pub objects_alike : (k l : KernelState) → IsAlike k l → k.objects ≡ l.objects
objects_alike k l alike = ap (λ (u : KernelState). u.objects) alike.rest

pub itself : (k : KernelState) → IsAlike k k
itself k = record { rest = refl; left = refl; order = λ m n peers. refl; times = times_itself k.times }

pub recounted : (k : KernelState) (turns : ℕ) (stirs : Stirs) → IsAlike k (record k { turns = turns; stirs = stirs })
recounted k turns stirs = record { rest = refl; left = refl; order = λ m n peers. refl; times = times_itself k.times }

pub flipped : (k l : KernelState) → IsAlike k l → IsAlike l k
flipped k l alike = record {
  rest = sym alike.rest;
  left = sym alike.left;
  order = λ m n peers. sym (alike.order m n (same_peers k l m n (objects_alike k l alike) peers));
  times = times_flipped k.times l.times alike.times;
}

pub through : (k l m : KernelState) → IsAlike k l → IsAlike l m → IsAlike k m
through k l m first second = record {
  rest = first.rest ∙ second.rest;
  left = first.left ∙ second.left;
  order = λ i j peers. first.order i j peers ∙ second.order i j (same_peers l k i j (sym (objects_alike k l first)) peers);
  times = times_through k.times l.times m.times first.times second.times;
}

-- tables of times are as long
same_clocks : (k l : KernelState) → IsKept k → IsKept l → IsAlike k l → length k.times.clocks ≡ length l.times.clocks
same_clocks k l kept too alike = kept.tables.clocks ∙ ap (λ (u : KernelState). u.cpus) alike.rest ∙ sym too.tables.clocks

same_deadlines : (k l : KernelState) → IsKept k → IsKept l → IsAlike k l → length k.times.deadlines ≡ length l.times.deadlines
same_deadlines k l kept too alike = kept.tables.deadlines ∙ ap (λ (u : KernelState). length u.objects) alike.rest ∙ sym too.tables.deadlines

-- THE TURN OF A CHOSEN CONTEXT

abbrev Pair : KernelState → KernelState → ℕ → Candidate → Candidate → Type 0
Pair k l cpu c d = AreSameBut (uncounted k) k.budgets l.budgets cpu c d

abbrev Deeds : KernelState → KernelState → Candidate → Candidate → Type 0
Deeds k l c d = AreDeedsAlike k.times l.times (deed k c.actor) (deed l d.actor)

same_deeds : (k l : KernelState) (cpu : ℕ) (c d : Candidate) → IsAlike k l → Pair k l cpu c d → tells_ticks (deed k c.actor) ≡ false → Deeds k l c d
same_deeds k l cpu c d alike pair h = subst (λ (ec : ℕ). AreDeedsAlike k.times l.times (deed k c.actor) (deed l ec)) (sym pair.actor) (deeds_alike k l c.actor alike h)

rests_paired : (k l : KernelState) (cpu : ℕ) (c d : Candidate) → IsAlike k l → Pair k l cpu c d → tells_ticks (deed k c.actor) ≡ false →
    uncounted (applied k (effect k c.actor (deed k c.actor))) ≡ uncounted (applied l (effect l d.actor (deed l d.actor)))
rests_paired k l cpu c d alike pair h =
    rests_alike k l c.actor alike (deeds_alike k l c.actor alike h)
    ∙ ap (λ (ec : ℕ). uncounted (applied l (effect l ec (deed l ec)))) (sym pair.actor)

-- the budgets after the turn of a scheduling context in which this object was made
abbrev paid_in : KernelState → List Object → ℕ → Option NewObject → List (Option Budget)
paid_in k os sc made =
    budgets_paid (grown_budgets k.budgets k.next_stamp made) sc (quantum_in (slice_get (joined os (option_map object_of made)) sc)) (stamp_with k.next_stamp made)
    (entry (slice_get (grown_budgets k.budgets k.next_stamp made) sc))

pub long_budgets : (k : KernelState) → IsKept k → length k.budgets ≡ length k.objects
long_budgets k kept = sym (length-map k.budgets is_some) ∙ ap length kept.tables.budgets ∙ length-map k.objects is_sc

alike_turned : (k l : KernelState) (cpu : ℕ) (c d : Candidate) → IsKept k → IsKept l → AreStampsGiven k → AreStampsGiven l → IsAlike k l → Pair k l cpu c d → tells_ticks (deed k c.actor) ≡ false →
    IsAlike (turned k cpu (acting k c)) (turned l cpu (acting l d))
alike_turned k l cpu c d kept also given too alike pair h = record {
  rest = rests_paired k l cpu c d alike pair h;
  left =
      lefts_turned (joined k.objects (option_map object_of made)) k.budgets k.next_stamp (stamp_with k.next_stamp made) c.sc made
      ∙ ap₂ (λ (os : List Object) (ls : List (Option ℕ)). lefts_after (joined os (option_map object_of made)) ls c.sc made) (objects_alike k l alike) alike.left
      ∙ ap₂ (λ (sc : ℕ) (m : Option NewObject). lefts_after (joined l.objects (option_map object_of m)) (lefts l) sc m) (sym pair.sc) same_made
      ∙ sym (lefts_turned (joined l.objects (option_map object_of its)) l.budgets l.next_stamp (stamp_with l.next_stamp its) d.sc its);
  order = λ m n peers.
      turned_ordered k.objects k.budgets l.budgets k.next_stamp l.next_stamp c.sc (quantum_in (slice_get (joined k.objects (option_map object_of made)) c.sc)) made
      (long_budgets k kept) alike.left given too alike.order m n peers
      ∙ ap (λ (bs : List (Option Budget)). nat_lt (stamp_in (entry (slice_get bs m))) (stamp_in (entry (slice_get bs n)))) same_paid;
  times =
      subst (λ (m : Option NewObject). AreTimesAlike (times_after k.times cpu set None made) (times_after l.times cpu set_too None m)) same_made
      (times_turned k.times l.times cpu set set_too None made (same_clocks k l kept also alike) (same_deadlines k l kept also alike) alike.times sets);
}
  where
    made : Option NewObject
    made = made_by (deed k c.actor)

    its : Option NewObject
    its = made_by (deed l d.actor)

    set : Option (ℕ × Option Deadline)
    set = deadline_by c.actor (deed k c.actor)

    set_too : Option (ℕ × Option Deadline)
    set_too = deadline_by d.actor (deed l d.actor)

    sets : IsSetAlike k.times l.times (deadline_by c.actor (deed k c.actor)) (deadline_by d.actor (deed l d.actor))
    sets =
        subst (λ (ec : ℕ). IsSetAlike k.times l.times (deadline_by c.actor (deed k c.actor)) (deadline_by ec (deed l ec))) (sym pair.actor)
        (sets_alike k.times l.times c.actor (deed k c.actor) (deed l c.actor) (deeds_alike k l c.actor alike h))

    same_made : made_by (deed k c.actor) ≡ made_by (deed l d.actor)
    same_made = made_alike k.times l.times (deed k c.actor) (deed l d.actor) (same_deeds k l cpu c d alike pair h)

    same_paid : paid_in l k.objects c.sc (made_by (deed k c.actor)) ≡ paid_in l l.objects d.sc (made_by (deed l d.actor))
    same_paid =
        ap (λ (os : List Object). paid_in l os c.sc (made_by (deed k c.actor))) (objects_alike k l alike)
        ∙ ap₂ (paid_in l l.objects) (sym pair.sc) same_made

-- WHAT COMES BY ITSELF

alike_passing : (k l : KernelState) (cpu : ℕ) (p : Passing) → IsKept k → IsKept l → IsAlike k l → IsAlike (turned k cpu (passing k p)) (turned l cpu (passing l p))
alike_passing k l cpu p kept also alike = record {
  rest = applied_alike k l (passing_effect k p) alike.rest ∙ ap (λ (e : Effect). uncounted (applied l e)) (effects_passing k l p alike);
  left = alike.left;
  order = alike.order;
  times =
      subst (λ (e : Effect). AreTimesAlike (times_after k.times cpu (clears_by (passing_ends k p)) (passing_rings p) None) (times_after l.times cpu e.deadline (passing_rings p) None)) (effects_passing k l p alike)
      (times_turned k.times l.times cpu (clears_by (passing_ends k p)) (clears_by (passing_ends k p)) (passing_rings p) None (same_clocks k l kept also alike) (same_deadlines k l kept also alike) alike.times
      (cleared k.times l.times (passing_ends k p)));
}

-- A TURN

-- of two states on a processor: both rest, or both have the turn of what comes by itself, or those of a pair of candidates
pub data AreTurns (k l : KernelState) (cpu : ℕ) : Type 0 where
  Rest : turn k cpu ≡ None → turn l cpu ≡ None → AreTurns k l cpu
  Pass : (p : Passing) → after k cpu ≡ turned k cpu (passing k p) → after l cpu ≡ turned l cpu (passing l p) →
      answer_of (turn k cpu) ≡ Stepped (passing_event k cpu p) → answer_of (turn l cpu) ≡ Stepped (passing_event l cpu p) → AreTurns k l cpu
  Act : (c d : Candidate) → Pair k l cpu c d → next_to_act k cpu ≡ Some c → next_to_act l cpu ≡ Some d → AreTurns k l cpu

turns_are : (k l : KernelState) (cpu : ℕ) → IsAlike k l → AreTurns k l cpu
turns_are k l cpu alike = by_due (due_on k.times cpu) refl
  where
    same_due : due_on k.times cpu ≡ due_on l.times cpu
    same_due = due_alike k.times l.times cpu alike.times

    by_moments : due_on k.times cpu ≡ None → choice k cpu ≡ None → choice l cpu ≡ None → (m n : Option ℕ) → next_moment k.times cpu ≡ m → next_moment l.times cpu ≡ n → is_none m ≡ is_none n → AreTurns k l cpu
    by_moments calm first second None None here there same = Rest (none_taken k cpu first here) (none_taken l cpu second there)
    by_moments calm first second None (Some n) here there same = absurd (cc)
    by_moments calm first second (Some m) None here there same = absurd (cc)
    by_moments calm first second (Some m) (Some n) here there same =
        let calm_too = sym same_due ∙ calm in
        let some : IsSome (next_moment k.times cpu) = subst IsSome (sym here) refl in
        let some_too : IsSome (next_moment l.times cpu) = subst IsSome (sym there) refl in
        Pass Ticks (tick_turn k cpu calm first some) (tick_turn l cpu calm_too second some_too) (tick_answers k cpu calm first some) (tick_answers l cpu calm_too second some_too)

    by_choices : due_on k.times cpu ≡ None → (o p : Option Candidate) → choice k cpu ≡ o → choice l cpu ≡ p → Both (AreSameBut (uncounted k) k.budgets l.budgets cpu) o p → AreTurns k l cpu
    by_choices calm None None first second pair = by_moments calm first second (next_moment k.times cpu) (next_moment l.times cpu) refl refl (moments_alike k.times l.times cpu alike.times)
    by_choices calm None (Some d) first second pair = absurd pair
    by_choices calm (Some c) None first second pair = absurd pair
    by_choices calm (Some c) (Some d) first second pair = Act c d pair (acts_next k cpu c first calm) (acts_next l cpu d second (sym same_due ∙ calm))

    by_due : (o : Option Due) → due_on k.times cpu ≡ o → AreTurns k l cpu
    by_due None is = by_choices is (choice k cpu) (choice l cpu) refl refl (choice_paired k l cpu alike)
    by_due (Some what) is =
        let too = sym same_due ∙ is in
        Pass (Falls what) (due_turn k cpu what is) (due_turn l cpu what too) (due_answers k cpu what is) (due_answers l cpu what too)

-- the context that acts next is the same
pub actors_alike : (k l : KernelState) (cpu : ℕ) → IsAlike k l → option_map (λ (c : Candidate). c.actor) (next_to_act k cpu) ≡ option_map (λ (c : Candidate). c.actor) (next_to_act l cpu)
unfolding next_to_act
actors_alike k l cpu alike =
    ap (λ (o : Option Due). option_map (λ (c : Candidate). c.actor) (unless_due o (choice k cpu))) (due_alike k.times l.times cpu alike.times)
    ∙ by_due (due_on l.times cpu) (choice k cpu) (choice l cpu) (choice_paired k l cpu alike)
  where
    by_due : (o : Option Due) (c d : Option Candidate) → Both (AreSameBut (uncounted k) k.budgets l.budgets cpu) c d →
        option_map (λ (x : Candidate). x.actor) (unless_due o c) ≡ option_map (λ (x : Candidate). x.actor) (unless_due o d)
    by_due (Some what) c d pair = refl
    by_due None None None pair = refl
    by_due None None (Some d) pair = absurd pair
    by_due None (Some c) None pair = absurd pair
    by_due None (Some c) (Some d) pair = ap Some (sym pair.actor)

quiet_deed : (k : KernelState) (cpu : ℕ) (c : Candidate) → next_to_act k cpu ≡ Some c → TellsNoTicks k cpu → tells_ticks (deed k c.actor) ≡ false
quiet_deed k cpu c next quiet = subst (λ (o : Option Candidate). IfSome o (λ (x : Candidate). tells_ticks (deed k x.actor) ≡ false)) next quiet

pub answers : (k : KernelState) (cpu : ℕ) (c : Candidate) → next_to_act k cpu ≡ Some c → answer_of (turn k cpu) ≡ Stepped (event_of cpu c (deed k c.actor))
answers k cpu c next = elim (comes k cpu) [
  | Idles none moment same answer ↦ absurd (let both : None ≡ Some c = sym (idle_none k cpu none) ∙ next in cc)
  | Takes t e is state answer ↦ elim is [
    | Acts d taken acts event ↦
        let both : Some d ≡ Some c = sym taken ∙ next in
        let one : d ≡ c = cc in answer ∙ ap Stepped event ∙ ap (λ (x : Candidate). Stepped (event_of cpu x (deed k x.actor))) one
    | Passes p due passes event ↦ absurd (let both : None ≡ Some c = sym (passing_none k cpu p due) ∙ next in cc)
  ]
]

-- states after alike turns, from what the states are
after_both : (k l r s : KernelState) (cpu : ℕ) → after k cpu ≡ r → after l cpu ≡ s → IsAlike r s → IsAlike (after k cpu) (after l cpu)
after_both k l r s cpu first second alike = subst (λ (x : KernelState). IsAlike x (after l cpu)) (sym first) (subst (IsAlike r) (sym second) alike)

pub turns_alike : (k l : KernelState) (cpu : ℕ) → IsKept k → IsKept l → AreStampsGiven k → AreStampsGiven l → IsAlike k l → TellsNoTicks k cpu → IsAlike (after k cpu) (after l cpu)
turns_alike k l cpu kept also given too alike quiet = by_turns (turns_are k l cpu alike)
  where
    by_turns : AreTurns k l cpu → IsAlike (after k cpu) (after l cpu)
    by_turns (Rest first second) = after_both k l k l cpu (ap (state_after k) first) (ap (state_after l) second) alike
    by_turns (Pass p first second event event_too) = after_both k l (turned k cpu (passing k p)) (turned l cpu (passing l p)) cpu first second (alike_passing k l cpu p kept also alike)
    by_turns (Act c d pair first second) =
        after_both k l (turned k cpu (acting k c)) (turned l cpu (acting l d)) cpu (chosen_turn k cpu c first) (chosen_turn l cpu d second)
        (alike_turned k l cpu c d kept also given too alike pair (quiet_deed k cpu c first quiet))

pub events_alike : (k l : KernelState) (cpu : ℕ) → IsAlike k l → TellsNoTicks k cpu → answer_of (turn k cpu) ≡ answer_of (turn l cpu)
events_alike k l cpu alike quiet = by_turns (turns_are k l cpu alike)
  where
    by_turns : AreTurns k l cpu → answer_of (turn k cpu) ≡ answer_of (turn l cpu)
    by_turns (Rest first second) = ap answer_of first ∙ sym (ap answer_of second)
    by_turns (Pass p first second event event_too) = event ∙ ap Stepped (events_passing k l cpu p alike) ∙ sym event_too
    by_turns (Act c d pair first second) =
        answers k cpu c first
        ∙ ap₂ (λ (sc ec : ℕ). Stepped (event_by cpu sc ec (deed k c.actor))) (sym pair.sc) (sym pair.actor)
        ∙ ap (λ (sign : EventKind × ℕ × ℕ). Stepped (record { cpu = cpu; sc = d.sc; ec = d.actor; kind = sign.0; a = sign.1; b = sign.2 }))
        (signs_alike k.times l.times (deed k c.actor) (deed l d.actor) (same_deeds k l cpu c d alike pair (quiet_deed k cpu c first quiet)))
        ∙ sym (answers l cpu d second)

-- RUNS

pub runs_alike : (k l : KernelState) (order : List ℕ) → IsKept k → IsKept l → AreStampsGiven k → AreStampsGiven l → IsAlike k l → TellNoTicks k order → IsAlike (run k order) (run l order)
runs_alike k l [] kept also given too alike quiet = alike
runs_alike k l (cpu ∷ order) kept also given too alike quiet =
    runs_alike (after k cpu) (after l cpu) order (keeps k cpu kept) (keeps l cpu also) (given_after k cpu given) (given_after l cpu too)
    (turns_alike k l cpu kept also given too alike quiet.0) quiet.1

pub traces_alike : (k l : KernelState) (order : List ℕ) → IsKept k → IsKept l → AreStampsGiven k → AreStampsGiven l → IsAlike k l → TellNoTicks k order → trace k order ≡ trace l order
traces_alike k l [] kept also given too alike quiet = refl
traces_alike k l (cpu ∷ order) kept also given too alike quiet =
    ap₂ (λ (e : Option Event) (rest : List Event). in_front e rest)
    (event_answered (turn k cpu) ∙ ap event_in (events_alike k l cpu alike quiet.0) ∙ sym (event_answered (turn l cpu)))
    (traces_alike (after k cpu) (after l cpu) order (keeps k cpu kept) (keeps l cpu also) (given_after k cpu given) (given_after l cpu too)
    (turns_alike k l cpu kept also given too alike quiet.0) quiet.1)

-- from what orders lead to
pub reached_alike : (a b : Scenario) (before since order : List ℕ) → IsAlike (run (boot a) before) (run (boot b) since) → TellNoTicks (run (boot a) before) order →
    IsAlike (run (run (boot a) before) order) (run (run (boot b) since) order) × (trace (run (boot a) before) order ≡ trace (run (boot b) since) order)
reached_alike a b before since order alike quiet = (
  runs_alike (run (boot a) before) (run (boot b) since) order (reached_kept a before) (reached_kept b since) (reached_given a before) (reached_given b since) alike quiet,
  traces_alike (run (boot a) before) (run (boot b) since) order (reached_kept a before) (reached_kept b since) (reached_given a before) (reached_given b since) alike quiet,
)

-- ENDS

idle_alike : (k l : KernelState) (cpu : ℕ) → IsAlike k l → is_idle k cpu ≡ is_idle l cpu
idle_alike k l cpu alike =
    ap₂ (λ (s t : Bool). s && t) (by_choices (choice k cpu) (choice l cpu) (choice_paired k l cpu alike)) (moments_alike k.times l.times cpu alike.times)
  where
    by_choices : (o p : Option Candidate) → Both (AreSameBut (uncounted k) k.budgets l.budgets cpu) o p → is_none o ≡ is_none p
    by_choices None None pair = refl
    by_choices None (Some d) pair = absurd pair
    by_choices (Some c) None pair = absurd pair
    by_choices (Some c) (Some d) pair = refl

all_same : (p q : ℕ → Bool) (xs : List ℕ) → ((x : ℕ) → p x ≡ q x) → list_all p xs ≡ list_all q xs
all_same p q [] same = refl
all_same p q (x ∷ xs) same = ap₂ (λ (s t : Bool). s && t) (same x) (all_same p q xs same)

pub quiet_alike : (k l : KernelState) → IsAlike k l → is_quiet k ≡ is_quiet l
quiet_alike k l alike =
    all_same (is_idle k) (is_idle l) (range_with_len 0 k.cpus) (λ cpu. idle_alike k l cpu alike)
    ∙ ap (λ (n : ℕ). list_all (is_idle l) (range_with_len 0 n)) (ap (λ (u : KernelState). u.cpus) alike.rest)
