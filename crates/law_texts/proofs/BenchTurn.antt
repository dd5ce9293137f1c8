-- A turn of a bench: its one thread is chosen, nothing is due, no virtual CPU is stirred.
use Rattle.std.proofs.Common.{◌≡◌, ℕ, suc, ◌+◌, List, [], ◌∷◌, length, refl, ap, ap₂, sym, ◌∙◌, arith}
use Rattle.std.specs.Prelude.{Bool, true, false, ◌==◌, ◌&&◌, ◌||◌, is_none, if◌then◌else◌, Option, Some, None, option_map, option_and_then}
use Rattle.std.specs.List.{AllByRecursion, find}
use Rattle.nova_model.specs.Choice.{Candidate, candidate_of, candidate_with, candidates_from, choice, foremost, goes_before, in_front, actor}
use Rattle.nova_model.specs.Deeds.{deed, done}
use Rattle.nova_model.specs.Edges.{acts, acts_by, edge, edge_of, met, met_within, or_itself, state_in, stays}
use Rattle.nova_model.specs.Inputs.{stirred, stirred_count, stirred_from}
use Rattle.nova_model.specs.Memory.{Memory}
use Rattle.nova_model.specs.State.{KernelState}
use Rattle.nova_model.specs.Times.{Entry, before_rest, deadline_entries, deadline_entry, next_entry, if_due}
use Rattle.nova_model.specs.Turn.{budget_after, charged, chosen_by, event_by, is_spent, stamp_after, taken, turn, turn_by}
use Rattle.nova_model.specs.declared.context.EcState.{EcState}
use Rattle.nova_model.specs.declared.context.State.{State}
use Rattle.nova_model.specs.declared.deed.Deed.{Deed}
use Rattle.nova_model.specs.declared.delegation.Derivation.{Derivation}
use Rattle.nova_model.specs.declared.times.Deadline.{Deadline}
use Rattle.nova_model.specs.declared.transfer.Transfer.{Transfer}
use Rattle.nova_objects.specs.declared.object.Object.{Object}
use Rattle.nova_objects.specs.declared.object.Object.TheVariants.{Sc}
use Rattle.law_texts.proofs.BenchStates.{Accounts, AreDomains, IsDomain, IsNone, Tables, kernel}

-- one turn more
abbrev pub paid_once : Accounts → Accounts
paid_once a = record {
  budget = budget_after (is_spent a.budget) 10 a.stamp a.budget;
  stamp = stamp_after (is_spent a.budget) a.stamp;
  turns = a.turns + 1;
  stirs = a.stirs + 1;
  clock = a.clock + 1;
}

-- NOTHING IS DUE

no_deadlines : (n : ℕ) (ds : List (Option Deadline)) → AllByRecursion IsNone ds → deadline_entries 0 n ds ≡ []
no_deadlines n [] all = refl
no_deadlines n (d ∷ ds) all =
    ap (λ (o : Option Deadline). before_rest (deadline_entry 0 n o) (deadline_entries 0 (n + 1) ds)) all.0 ∙ no_deadlines (n + 1) ds all.1

pub no_entry : (clock : ℕ) (ds : List (Option Deadline)) → AllByRecursion IsNone ds →
    next_entry (record { clocks = clock ∷ []; deadlines = None ∷ None ∷ None ∷ ds; alarms = [] }) 0 ≡ None
unfolding next_entry
no_entry clock ds all = rw (no_deadlines 3 ds all) refl

-- WHICH CONTEXT IS CHOSEN

pub no_candidates : (k : KernelState) (n : ℕ) (os : List Object) → AllByRecursion IsDomain os → candidates_from k 0 n os ≡ []
no_candidates k n [] all = refl
no_candidates k n (o ∷ os) all =
    ap (λ (p : Object). in_front (candidate_of k 0 n p) (candidates_from k 0 (n + 1) os)) all.0 ∙ no_candidates k (n + 1) os all.1

-- a state without an edge in which it acts
pub record IsActing (s : State) : Type 0 where
  pub edge : edge_of s ≡ None
  pub acts : acts_by s None ≡ true

-- one alone goes before all
alone : (c : Candidate) → foremost (c ∷ []) ≡ Some c
alone c = let none : goes_before c c ≡ false = grind arith in rw none refl

abbrev pub the_thread : Accounts → Candidate
the_thread a = record { sc = 2; actor = 1; priority = 1; stamp = a.budget.stamp }

module _ (a : Accounts) (x : EcState) (words : List ℕ) (transfer : Transfer) (t : Tables) (list : List Derivation) (next : ℕ) (m : Memory) (are : AreDomains t) (is : IsActing x.state) where
  abbrev k : KernelState
  k = kernel a x words transfer t list next m

  one_met : met k.contexts 1 ≡ 1 ∷ []
  one_met = ap (λ (o : Option ℕ). 1 ∷ met_within (suc (suc (length t.contexts))) (edge k.contexts) o) is.edge

  acting : acts k.contexts 1 ≡ true
  acting = ap (λ (o : Option ℕ). acts_by x.state (option_and_then (state_in k.contexts) o)) is.edge ∙ is.acts

  staying : stays k.contexts 1 ≡ true
  staying = ap (λ (b : Bool). b || is_none (edge k.contexts 1)) acting

  itself : actor k 1 ≡ 1
  itself = ap (λ (l : List ℕ). or_itself 1 (find (stays k.contexts) l)) one_met ∙ rw staying refl

  candidate : candidate_of k 0 2 (Sc 1 0 1 10) ≡ Some (the_thread a)
  candidate = ap (λ (e : ℕ). if (0 == 0) && acts k.contexts e then candidate_with 2 e 1 (Some a.budget) else None) itself
      ∙ ap (λ (b : Bool). if b then candidate_with 2 1 1 (Some a.budget) else None) acting

  pub thread_chosen : choice k 0 ≡ Some (the_thread a)
  unfolding choice
  thread_chosen =
      ap (λ (cs : List Candidate). foremost (in_front (candidate_of k 0 2 (Sc 1 0 1 10)) cs)) (no_candidates k 3 t.objects are.objects)
      ∙ (ap (λ (o : Option Candidate). foremost (in_front o [])) candidate ∙ alone (the_thread a))

-- NONE IS STIRRED

none_counted : (k : KernelState) (ec : ℕ) (d : Deed) (n : ℕ) (gs : List (Option ℕ)) → AllByRecursion IsNone gs → stirred_from k ec d n gs ≡ gs
none_counted k ec d n [] all = refl
none_counted k ec d n (g ∷ gs) all =
    ap₂ (λ (o : Option ℕ) (os : List (Option ℕ)). o ∷ os)
    (ap (option_map (stirred_count k ec d n)) all.0 ∙ sym all.0) (none_counted k ec d (n + 1) gs all.1)

-- THE TURN

pub record IsTaken (k : KernelState) (d : Deed) (new : KernelState) : Type 0 where
  pub turn : turn k 0 ≡ Some (record { kernel = new; event = event_by 0 2 1 d })

module _ (a : Accounts) (x y : EcState) (words words' : List ℕ) (transfer transfer' : Transfer) (t u : Tables) (list list' : List Derivation) (next next' : ℕ) (m m' : Memory) (d : Deed) where
  abbrev old : KernelState
  old = kernel a x words transfer t list next m

  abbrev new : KernelState
  new = kernel a y words' transfer' u list' next' m'

  pub turn_taken : AreDomains t → AreDomains u → IsActing x.state → deed old 1 ≡ d → done old 1 d ≡ new → IsTaken old d (kernel (paid_once a) y words' transfer' u list' next' m')
  unfolding turn charged
  turn_taken are_t are_u is does is_done = record {
    turn = ap (λ (e : Option Entry). turn_by old 0 (option_and_then (if_due a.clock) e)) (no_entry a.clock t.deadlines are_t.deadlines)
        ∙ (ap (chosen_by old 0) (thread_chosen a x words transfer t list next m are_t is)
        ∙ (ap (λ (e : Deed). Some (taken old 0 (the_thread a) e)) does
        ∙ (ap (λ (s : KernelState). Some (record { kernel = charged (stirred old 1 d s) 0 2; event = event_by 0 2 1 d })) is_done
        ∙ ap (λ (gs : List (Option ℕ)). Some (record { kernel = charged (record new { stirs = record new.stirs { guests = gs } }) 0 2; event = event_by 0 2 1 d }))
        (none_counted old 1 d 0 new.stirs.guests (refl, (refl, (refl, are_u.guests)))))));
  }
