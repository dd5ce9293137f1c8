-- What is known of choices, and that it stays known while instructions go on.
use Rattle.std.proofs.Common.{◌≡◌, ℕ, zero, suc, List, [], ◌∷◌, refl, ap, sym, ◌∙◌, subst, IsSome}
use Rattle.std.specs.Prelude.{Bool, if◌then◌else◌, nat_lt, true, false, Option, Some, None, is_some, option_map, replicate, slice_get, slice_set}
use Rattle.rv_model.specs.Step.{Once, Raised, Went}
use Rattle.std.proofs.lemmas.Option.{same_Some}
use Rattle.law_turns.proofs.Candidates.{schedule_of, the_chosen}
use Rattle.nova_ec.proofs.Acting.{awake}
use Rattle.nova_ec.proofs.Donors.{same_state_keeps_chases}
use Rattle.nova_ec.proofs.Untouched.{same_actor}
use Rattle.nova_ec.specs.Tables.{actor_in}
use Rattle.nova_objects.specs.declared.object.Object.{Object}
use Rattle.nova_objects.specs.declared.object.Object.TheVariants.{Pd, Ec, Sc, Pt, Sm}
use Rattle.nova_model.specs.Choice.{Candidate, choice}
use Rattle.nova_model.specs.Deeds.{deed, done, instruction, sign_of, stepped}
use Rattle.nova_model.specs.Inputs.{stirred}
use Rattle.nova_model.specs.State.{Contexts, KernelState, budget_at, context, context_at, with_ec}
use Rattle.nova_model.specs.Runs.{after}
use Rattle.nova_model.specs.Turn.{answer_of, charged, counted, event_of, paid_by, quantum_in, state_after, turn}
use Rattle.nova_model.specs.declared.budget.Budget.{Budget}
use Rattle.nova_model.specs.declared.context.EcState.{EcState}
use Rattle.nova_model.specs.declared.deed.Deed.{Deed}
use Rattle.nova_model.specs.declared.deed.Deed.TheVariants.{Rests, Steps, Finishes, Replies}
use Rattle.nova_model.specs.declared.event.Turn.{Turn}
use Rattle.nova_model.specs.declared.transfer.ItemEnd.TheVariants.{Given, Skipped, Translated}
use Rattle.law_forest.specs.Effects.{Falls, Passing, Ticks}
use Rattle.law_forest.specs.Turns.{Acts, Idles, Passes, Takes, passing_event}
use Rattle.nova_model.specs.declared.event.Turn.TheVariants.{Stepped}
use Rattle.nova_model.specs.declared.times.Due.TheVariants as due
use Rattle.law_forest.proofs.Actors.{chosen_answers}
use Rattle.law_forest.proofs.Turning.{acting_is, acts_chosen, chosen_turn, comes}
use Rattle.nova_choice.proofs.Nexts.{chosen_acts}
use Rattle.nova_choice.proofs.Waits.{there_at}
use Rattle.nova_choice.specs.Choices.{chosen_of}
use Rattle.nova_choice.specs.Schedules.{actor_of}
use Rattle.nova_choice.specs.declared.choice.Chosen.{Chosen}
use Rattle.nova_turn.proofs.Taken.{told_acts}
use Rattle.nova_turn.specs.Known.{AreKnown, IsKnown}
use Rattle.nova_kernel.specs.Known.{known_after, known_by}

-- ALL THAT IS KNOWN

known_set : (k : KernelState) (known : List (Option Chosen)) (i : ℕ) (o : Option Chosen) → AreKnown k known → IsKnown k o → AreKnown k (slice_set known i o)
known_set k [] i o all is = tt
known_set k (x ∷ xs) zero o all is = (is, all.1)
known_set k (x ∷ xs) (suc i) o all is = (all.0, known_set k xs i o all.1 is)

pub none_known : (k : KernelState) (n : ℕ) → AreKnown k (replicate n None)
none_known k zero = tt
none_known k (suc n) = (tt, none_known k n)

pub known_along : (k new : KernelState) → ((o : Option Chosen) → IsKnown k o → IsKnown new o) → (known : List (Option Chosen)) → AreKnown k known → AreKnown new known
known_along k new go [] all = tt
known_along k new go (x ∷ xs) all = (go x all.0, known_along k new go xs all.1)

-- AN INSTRUCTION THAT GOES ON

-- the same contexts act in all turns
pub record AreLedOn (k new : KernelState) : Type 0 where
  pub objects : new.objects ≡ k.objects
  pub actors : (ec : ℕ) → actor_in new.contexts ec ≡ actor_in k.contexts ec

actor_same : (cs ds : Contexts) → ((ec : ℕ) → actor_in ds ec ≡ actor_in cs ec) → (o : Option Object) → actor_of ds o ≡ actor_of cs o
actor_same cs ds same (Some (Sc ec cpu priority quantum)) = same ec
actor_same cs ds same (Some Pd) = refl
actor_same cs ds same (Some (Ec pd cpu kind event)) = refl
actor_same cs ds same (Some (Pt ec mtd ip)) = refl
actor_same cs ds same (Some Sm) = refl
actor_same cs ds same None = refl

pub known_on : (k new : KernelState) → AreLedOn k new → (o : Option Chosen) → IsKnown k o → IsKnown new o
known_on k new on None is = tt
known_on k new on (Some c) is =
    ap (λ (os : List Object). actor_of new.contexts (slice_get os c.sc)) on.objects ∙ (actor_same k.contexts new.contexts on.actors (slice_get k.objects c.sc) ∙ is)

stepped_on : (k : KernelState) (ec : ℕ) (o : Once) → IsSome (context_at k ec) → AreLedOn k (stepped k ec o)
stepped_on k ec (Raised reason q0 q1) there = record { objects = refl; actors = λ e. refl }
stepped_on k ec (Went regs store) there =
    let y : EcState = record (context k ec) { regs = regs } in record {
      objects = refl;
      actors = λ e. same_actor k.contexts (with_ec k.contexts ec y) e (same_state_keeps_chases k.contexts ec e (context k ec) y (there_at k.contexts ec there) refl);
    }

-- which scheduling context pays changes nothing of it
pub paid_on : (k s : KernelState) (cpu sc : ℕ) → AreLedOn k s → AreLedOn k (charged s cpu sc)
unfolding charged
paid_on k s cpu sc on = by_budget (budget_at s sc)
  where
    by_budget : (o : Option Budget) → AreLedOn k (counted (paid_by s sc (quantum_in (slice_get s.objects sc)) o) cpu)
    by_budget None = record { objects = on.objects; actors = on.actors }
    by_budget (Some b) = record { objects = on.objects; actors = on.actors }

-- nor does what is stirred
charged_on : (k s : KernelState) (ec cpu sc : ℕ) (d : Deed) → AreLedOn k s → AreLedOn k (charged (stirred k ec d s) cpu sc)
charged_on k s ec cpu sc d on = paid_on k (stirred k ec d s) cpu sc (record { objects = on.objects; actors = on.actors })

steps_known : (k s : KernelState) (cpu : ℕ) (c : Candidate) (d : Deed) (known : List (Option Chosen)) → AreLedOn k s → IsKnown k (Some (chosen_of c)) → AreKnown k known →
    AreKnown (charged (stirred k c.actor d s) cpu c.sc) (if nat_lt cpu 8 then slice_set known cpu (Some (chosen_of c)) else known)
steps_known k s cpu c d known on here all =
    let new : KernelState = charged (stirred k c.actor d s) cpu c.sc in
    let led : AreLedOn k new = charged_on k s c.actor cpu c.sc d on in
    by_place new (known_along k new (known_on k new led) known all) (known_on k new led (Some (chosen_of c)) here) (nat_lt cpu 8)
  where
    by_place : (new : KernelState) → AreKnown new known → IsKnown new (Some (chosen_of c)) → (t : Bool) → AreKnown new (if t then slice_set known cpu (Some (chosen_of c)) else known)
    by_place new stay now true = known_set new known cpu (Some (chosen_of c)) stay now
    by_place new stay now false = stay

-- by what the deed comes to
event_known : (k : KernelState) (cpu : ℕ) (c : Candidate) (d : Deed) (known : List (Option Chosen)) → IsSome (context_at k c.actor) → IsKnown k (Some (chosen_of c)) →
    AreKnown k known → AreKnown (charged (stirred k c.actor d (done k c.actor d)) cpu c.sc) (known_by (sign_of d).0 (event_of cpu c d) known)
event_known k cpu c Rests known there here all = steps_known k k cpu c Rests known (record { objects = refl; actors = λ e. refl }) here all
event_known k cpu c Steps known there here all =
    steps_known k (stepped k c.actor (instruction k c.actor)) cpu c Steps known (stepped_on k c.actor (instruction k c.actor) there) here all
event_known k cpu c (Finishes item (Given children) words after) known there here all = none_known k 8
event_known k cpu c (Finishes item (Skipped skip) words after) known there here all = none_known k 8
event_known k cpu c (Finishes item (Translated word) words after) known there here all = none_known k 8
event_known k cpu c (Replies caller mark true) known there here all = none_known k 8
event_known k cpu c (Replies caller mark false) known there here all = none_known k 8
event_known k cpu c other known there here all = none_known k 8

-- A TURN

pub chosen_there : (k : KernelState) (cpu : ℕ) (c : Chosen) → Some c ≡ option_map chosen_of (choice k cpu) → IsSome (context_at k c.actor)
chosen_there k cpu c told = ap is_some (awake k.contexts c.actor (told_acts k cpu c told)).there

-- and has a budget
pub chosen_budget : (k : KernelState) (cpu : ℕ) (c : Chosen) → Some c ≡ option_map chosen_of (choice k cpu) → IsSome (budget_at k c.sc)
chosen_budget k cpu c told = by_choice (choice k cpu) refl told
  where
    by_choice : (o : Option Candidate) → choice k cpu ≡ o → Some c ≡ option_map chosen_of o → IsSome (budget_at k c.sc)
    by_choice None is told = absurd (cc)
    by_choice (Some d) is told =
        ap (λ (x : Chosen). is_some (budget_at k x.sc)) (same_Some c (chosen_of d) told) ∙ ap is_some (schedule_of k cpu d (the_chosen k cpu d is)).there

-- after what comes by itself nothing is known
passing_known : (k new : KernelState) (cpu : ℕ) (p : Passing) (known : List (Option Chosen)) → AreKnown new (known_after (Stepped (passing_event k cpu p)) known)
passing_known k new cpu (Falls (due.Alarm alarm)) known = none_known new 8
passing_known k new cpu (Falls (due.Deadline ec)) known = none_known new 8
passing_known k new cpu Ticks known = none_known new 8

turn_known : (k : KernelState) (cpu : ℕ) (t : Turn) (known : List (Option Chosen)) → t ≡ answer_of (turn k cpu) → AreKnown k known →
    AreKnown (after k cpu) (known_after t known)
turn_known k cpu t known told all = elim (comes k cpu) [
  | Idles none moment same answer ↦
      subst (λ (a : Turn). AreKnown (after k cpu) (known_after a known)) (sym (told ∙ answer)) (subst (λ (s : KernelState). AreKnown s known) (sym same) all)
  | Takes u e is state answer ↦ elim is [
    | Acts c next acts event ↦
        let chosen = (acts_chosen k cpu c next).0 in
        let d = deed k c.actor in
        let new : after k cpu ≡ charged (stirred k c.actor d (done k c.actor d)) cpu c.sc = chosen_turn k cpu c next ∙ sym (acting_is k cpu c) in
        let there = chosen_there k cpu (chosen_of c) (sym (ap (option_map chosen_of) chosen)) in
        subst (λ (a : Turn). AreKnown (after k cpu) (known_after a known)) (sym (told ∙ chosen_answers k cpu c next))
        (subst (λ (s : KernelState). AreKnown s (known_by (sign_of d).0 (event_of cpu c d) known)) (sym new) (event_known k cpu c d known there (chosen_acts k cpu c chosen) all))
    | Passes p due passes event ↦
        subst (λ (a : Turn). AreKnown (after k cpu) (known_after a known)) (sym (told ∙ answer ∙ ap Stepped event)) (passing_known k (after k cpu) cpu p known)
  ]
]

-- after it what is known is as the code keeps it
pub kept_known : (k new : KernelState) (cpu : ℕ) (t : Turn) (known after : List (Option Chosen)) → t ≡ answer_of (turn k cpu) → new ≡ state_after k (turn k cpu) →
    after ≡ known_after t known → AreKnown k known → AreKnown new after
kept_known k new cpu t known after answer state kept all =
    subst (λ (s : KernelState). AreKnown s after) (sym state)
    (subst (λ (all : List (Option Chosen)). AreKnown (state_after k (turn k cpu)) all) (sym kept) (turn_known k cpu t known answer all))
