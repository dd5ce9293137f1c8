-- The turn of the context that acts, and what it is for a revoke.
use Rattle.law_forest.specs.Turns.{is_passing}
use Rattle.std.proofs.Common.{◌≡◌, ℕ, ap, sym, ◌∙◌, subst, refl}
use Rattle.std.specs.Prelude.{◌==◌, Bool, true, false, Option, Some, None, option_map}
use Rattle.std.proofs.lemmas.Bool.{eqb-true, eqb-false, eq-eqb, ne_eqb}
use Rattle.std.proofs.lemmas.Option.{same_Some}
use Rattle.nova_model.specs.Choice.{Candidate, next_to_act}
use Rattle.nova_model.specs.Deeds.{deed, deed_in, done, removes, sign_of}
use Rattle.nova_model.specs.Delegations.{Delegations, without}
use Rattle.nova_model.specs.Revokes.{Revocation, next_leaf, scope}
use Rattle.nova_model.specs.Running.{revoke_of}
use Rattle.nova_model.specs.Runs.{after}
use Rattle.nova_model.specs.State.{KernelState}
use Rattle.nova_model.specs.Turn.{answer_of, event_of, turn}
use Rattle.nova_model.specs.declared.deed.Deed.{Deed}
use Rattle.nova_model.specs.declared.deed.Deed.TheVariants.{Removes, Returns, Revokes}
use Rattle.nova_model.specs.declared.delegation.Derivation.{Derivation}
use Rattle.nova_model.specs.declared.event.Event.{Event}
use Rattle.nova_model.specs.declared.event.Turn.TheVariants.{Stepped}
use Rattle.law_forest.specs.Made.{IsSame}
use Rattle.law_forest.proofs.Leaves.{leaf_or_none}
use Rattle.law_forest.proofs.Running.{revoking_there}
use Rattle.law_forest.proofs.Actors.{chosen_answers, who_acts}
use Rattle.law_forest.proofs.Doing.{done_is}
use Rattle.law_forest.proofs.Turning.{chosen_turn, of_event}
use Rattle.law_turns.specs.Keeping.{IsKept}
use Rattle.law_turns.specs.Revoking.{revoke_after, revoke_in_turn}
use Rattle.law_turns.proofs.Revoking.{turns_leave}
use Rattle.law_origins.specs.Giving.{Acts}
use Rattle.law_revocation.specs.Along.{HasEvent, acts_once}
use Rattle.law_revocation.specs.Sound.{IsKeptForest}
use Rattle.law_revocation.specs.Taken.{IsClear}
use Rattle.law_revocation.specs.Whole.{HasReturned}
use Rattle.law_revocation.proofs.Taking.{cleared}

-- WHICH CONTEXT ACTS

-- an execution context acts in the turn, or it doesn't
pub data HasPart (k : KernelState) (cpu ec : ℕ) : Type 0 where
  Itself : Acts k cpu ec → acts_once ec (next_to_act k cpu) ≡ 1 → HasPart k cpu ec
  Another : ((c : Candidate) → next_to_act k cpu ≡ Some c → ec ≡ c.actor → ⊥) → acts_once ec (next_to_act k cpu) ≡ 0 → HasPart k cpu ec

pub part_of : (k : KernelState) (cpu ec : ℕ) → HasPart k cpu ec
part_of k cpu ec = by_choice (next_to_act k cpu) refl
  where
    by_test : (c : Candidate) → next_to_act k cpu ≡ Some c → (t : Bool) → (c.actor == ec) ≡ t → HasPart k cpu ec
    by_test c chosen true is =
        let same : c.actor ≡ ec = eqb-true c.actor ec is in
        let once : acts_once ec (Some c) ≡ 1 = rw is refl in
        Itself (ap (option_map (λ (x : Candidate). x.actor)) chosen ∙ ap (λ (n : ℕ). Some n) same) (ap (acts_once ec) chosen ∙ once)
    by_test c chosen false is =
        let once : acts_once ec (Some c) ≡ 0 = rw is refl in
        Another (λ other at same. eqb-false c.actor ec is (ap (λ (x : Candidate). x.actor) (same_Some c other (sym chosen ∙ at)) ∙ sym same))
        (ap (acts_once ec) chosen ∙ once)

    by_choice : (o : Option Candidate) → next_to_act k cpu ≡ o → HasPart k cpu ec
    by_choice None idle = Another (λ c at same. absurd (cc)) (ap (acts_once ec) idle)
    by_choice (Some c) chosen = by_test c chosen (c.actor == ec) refl

-- WHAT ITS TURN LEAVES AND TELLS

pub turn_same : (k : KernelState) (cpu ec : ℕ) (d : Deed) → Acts k cpu ec → deed k ec ≡ d → IsSame (done k ec d) (after k cpu)
turn_same k cpu ec d acts is = who_acts (λ n. deed k n ≡ d → IsSame (done k n d) (after k cpu)) k cpu ec acts of_chosen is
  where
    of_chosen : (c : Candidate) → next_to_act k cpu ≡ Some c → deed k c.actor ≡ d → IsSame (done k c.actor d) (after k cpu)
    of_chosen c chosen its =
        let turns = chosen_turn k cpu c chosen in
        let does = sym (done_is k c.actor (deed k c.actor)) ∙ ap (λ (e : Deed). done k c.actor e) its in
        record {
          objects = ap (λ (s : KernelState). s.objects) turns ∙ ap (λ (s : KernelState). s.objects) does;
          delegations = ap (λ (s : KernelState). s.delegations) turns ∙ ap (λ (s : KernelState). s.delegations) does;
        }

pub turn_event : (k : KernelState) (cpu ec : ℕ) (d : Deed) → Acts k cpu ec → deed k ec ≡ d → HasEvent k cpu ec (sign_of d).0 (sign_of d).1 (sign_of d).2
turn_event k cpu ec d acts is = who_acts (λ n. deed k n ≡ d → HasEvent k cpu n (sign_of d).0 (sign_of d).1 (sign_of d).2) k cpu ec acts of_chosen is
  where
    of_chosen : (c : Candidate) → next_to_act k cpu ≡ Some c → deed k c.actor ≡ d → HasEvent k cpu c.actor (sign_of d).0 (sign_of d).1 (sign_of d).2
    of_chosen c chosen its = record {
      event = event_of cpu c (deed k c.actor);
      answers = chosen_answers k cpu c chosen;
      ec = refl;
      kind = ap (λ (e : Deed). (sign_of e).0) its;
      a = ap (λ (e : Deed). (sign_of e).1) its;
      b = ap (λ (e : Deed). (sign_of e).2) its;
    }

-- the context that an event names acts
pub event_acts : (k : KernelState) (cpu ec : ℕ) (e : Event) → is_passing e.kind ≡ false → answer_of (turn k cpu) ≡ Stepped e → e.ec ≡ ec → Acts k cpu ec
event_acts k cpu ec e other answers its =
    of_event (λ (f : Event). f.ec ≡ ec → Acts k cpu ec) k cpu e other answers
    (λ c chosen state is. ap (option_map (λ (x : Candidate). x.actor)) chosen ∙ ap (λ (n : ℕ). Some n) is) its

-- WHICH REVOKE RUNS AFTER IT

pub its_revoke : (k : KernelState) (cpu ec : ℕ) (d : Deed) → IsKept k → Acts k cpu ec → deed k ec ≡ d → revoke_of (after k cpu) ec ≡ revoke_after k ec d ec
its_revoke k cpu ec d kept acts is = who_acts (λ n. deed k n ≡ d → revoke_of (after k cpu) n ≡ revoke_after k n d n) k cpu ec acts of_chosen is
  where
    of_chosen : (c : Candidate) → next_to_act k cpu ≡ Some c → deed k c.actor ≡ d → revoke_of (after k cpu) c.actor ≡ revoke_after k c.actor d c.actor
    of_chosen c chosen its =
        turns_leave k cpu kept c.actor ∙ ap (λ (o : Option Candidate). revoke_in_turn k o c.actor) chosen ∙ ap (λ (e : Deed). revoke_after k c.actor e c.actor) its

others_stay : (k : KernelState) (actor ec : ℕ) (d : Deed) → (ec ≡ actor → ⊥) → revoke_after k actor d ec ≡ revoke_of k ec
others_stay k actor ec (Revokes range own) other = rw (ne_eqb ec actor other) refl
others_stay k actor ec Returns other = rw (ne_eqb ec actor other) refl
others_stay k actor ec d other = refl

pub stays_apart : (k : KernelState) (cpu ec : ℕ) → IsKept k → ((c : Candidate) → next_to_act k cpu ≡ Some c → ec ≡ c.actor → ⊥) →
    revoke_of (after k cpu) ec ≡ revoke_of k ec
stays_apart k cpu ec kept another = turns_leave k cpu kept ec ∙ by_choice (next_to_act k cpu) refl
  where
    by_choice : (o : Option Candidate) → next_to_act k cpu ≡ o → revoke_in_turn k o ec ≡ revoke_of k ec
    by_choice None idle = refl
    by_choice (Some c) chosen = others_stay k c.actor ec (deed k c.actor) (another c chosen)

-- A CONTEXT THAT REVOKES

revoking_deed : (k : KernelState) (ec : ℕ) (r : Revocation) → revoke_of k ec ≡ Some r → deed k ec ≡ removes (next_leaf r k.delegations)
unfolding deed
revoking_deed k ec r runs =
    let it = revoking_there k ec r runs in
    ap (deed_in k ec) it.state ∙ ap (λ (w : Revocation). removes (next_leaf w k.delegations)) (sym it.its)

-- it takes a leaf away and goes on, or returns with nothing left
pub record HasTaken (k : KernelState) (cpu ec : ℕ) (r : Revocation) : Type 0 where
  pub leaf : Derivation
  pub next : next_leaf r k.delegations ≡ Some leaf
  pub does : deed k ec ≡ Removes leaf
  pub runs : revoke_of (after k cpu) ec ≡ Some r
  pub delegations : (after k cpu).delegations ≡ without k.delegations leaf.id

pub data GoesOn (k : KernelState) (cpu ec : ℕ) (r : Revocation) : Type 0 where
  Takes : HasTaken k cpu ec r → GoesOn k cpu ec r
  IsOver : HasReturned k cpu ec r → GoesOn k cpu ec r

pub goes_on : (k : KernelState) (cpu ec : ℕ) (r : Revocation) → IsKeptForest k → revoke_of k ec ≡ Some r → Acts k cpu ec → GoesOn k cpu ec r
goes_on k cpu ec r sound runs acts = by_leaf (next_leaf r k.delegations) refl
  where
    by_leaf : (o : Option Derivation) → next_leaf r k.delegations ≡ o → GoesOn k cpu ec r
    by_leaf (Some leaf) next =
        let does : deed k ec ≡ Removes leaf = revoking_deed k ec r runs ∙ ap removes next in
        Takes (record {
          leaf = leaf;
          next = next;
          does = does;
          runs = its_revoke k cpu ec (Removes leaf) sound.kept acts does ∙ runs;
          delegations = (turn_same k cpu ec (Removes leaf) acts does).delegations;
        })
    by_leaf None next =
        let does : deed k ec ≡ Returns = revoking_deed k ec r runs ∙ ap removes next in
        let same : (after k cpu).delegations ≡ k.delegations = (turn_same k cpu ec Returns acts does).delegations in
        let none : revoke_after k ec Returns ec ≡ None = rw (eq-eqb ec ec refl) refl in
        let empty = (leaf_or_none r k.delegations sound.forest).0 next in
        IsOver (record {
          acts = acts;
          event = turn_event k cpu ec Returns acts does;
          over = its_revoke k cpu ec Returns sound.kept acts does ∙ none;
          delegations = same;
          nothing = ap (λ (f : Delegations). scope r f.list) same ∙ empty;
          clear = subst (λ (f : Delegations). IsClear r f.list) (sym same) ((cleared r k.delegations sound.forest).0 empty);
        })
