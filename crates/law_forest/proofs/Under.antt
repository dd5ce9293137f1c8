-- How a turn changes delegations while a revoke runs.
use Rattle.std.proofs.Common.{◌≡◌, ℕ, ◌+◌, [], ◌∷◌, ap, sym, ◌∙◌, refl, arith}
use Rattle.std.specs.Prelude.{Bool, true, false, ◌==◌, Option, Some, None}
use Rattle.std.proofs.lemmas.Bool.{eqb-true, eqb-false}
use Rattle.nova_model.specs.Choice.{Candidate, next_to_act}
use Rattle.nova_model.specs.Delegations.{Delegations}
use Rattle.nova_model.specs.Forest.{IsForest}
use Rattle.nova_model.specs.Revokes.{Revocation, next_leaf, taken_away}
use Rattle.nova_model.specs.Running.{revoke_of}
use Rattle.nova_model.specs.Runs.{after}
use Rattle.nova_model.specs.State.{KernelState}
use Rattle.nova_model.specs.declared.delegation.Derivation.{Derivation}
use Rattle.law_forest.specs.Changes.{ChangeUnder, StaysUnder, JoinsUnder, TakesPart, GoesUnder, leaves_in, ChangesUnder}
use Rattle.law_forest.specs.Courses.{Joins, Goes, Part, one_if, IsCourse}
use Rattle.law_forest.specs.Made.{Grows, Leaves, MakesObject, GivesChild, TakesLeaf, HasTaken, GrowsBy}
use Rattle.law_forest.proofs.Changes.{first_fits}
use Rattle.law_forest.proofs.Growth.{turn_grows}
use Rattle.law_forest.proofs.Running.{idle_under}

-- a leaf that is taken is a part of this revoke where the context that runs it acts
taken_under : (k new : KernelState) (runner actor : ℕ) (r : Revocation) → IsForest k.delegations → revoke_of k runner ≡ Some r → HasTaken k actor new →
    ChangeUnder r runner actor k.delegations new.delegations
taken_under k new runner actor r forest runs g = by_test (runner == actor) refl
  where
    by_test : (t : Bool) → (runner == actor) ≡ t → ChangeUnder r runner actor k.delegations new.delegations
    by_test true is =
        let same : runner ≡ actor = eqb-true runner actor is in
        let both : Some r ≡ Some g.is.revoke = sym runs ∙ ap (revoke_of k) same ∙ g.is.runs in
        let one : g.is.revoke ≡ r = cc in
        let next : next_leaf r k.delegations ≡ Some g.leaf = ap (λ (w : Revocation). next_leaf w k.delegations) (sym one) ∙ g.is.next in
        TakesPart same g.leaf next (g.delegations ∙ ap (taken_away k.delegations) (sym next))
    by_test false is = let leaf = g.is.goes forest in GoesUnder (eqb-false runner actor is) g.leaf leaf.there leaf.childless g.delegations

grows_under : (k new : KernelState) (runner actor : ℕ) (r : Revocation) → IsForest k.delegations → revoke_of k runner ≡ Some r → Grows k actor new →
    ChangeUnder r runner actor k.delegations new.delegations
grows_under k new runner actor r forest runs (Leaves s) = StaysUnder s.delegations
grows_under k new runner actor r forest runs (MakesObject g) =
    JoinsUnder g.capability (first_fits k actor g.object g.capability g.first) (idle_under k runner r g.capability runs g.first.idle) g.delegations
grows_under k new runner actor r forest runs (GivesChild g) =
    JoinsUnder g.child (g.given.fits forest) (idle_under k runner r g.child runs g.given.idle) g.delegations
grows_under k new runner actor r forest runs (TakesLeaf g) = taken_under k new runner actor r forest runs g

pub turn_under : (k : KernelState) (cpu runner : ℕ) (r : Revocation) → IsForest k.delegations → revoke_of k runner ≡ Some r →
    ChangesUnder r runner (next_to_act k cpu) k.delegations (after k cpu).delegations
turn_under k cpu runner r forest runs = by_choice (next_to_act k cpu) (turn_grows k cpu)
  where
    by_choice : (c : Option Candidate) → GrowsBy k c (after k cpu) → ChangesUnder r runner c k.delegations (after k cpu).delegations
    by_choice None s = s.delegations
    by_choice (Some c) g = grows_under k (after k cpu) runner c.actor r forest runs g

-- each such change is at most one allowed step, which is a part only where the context that runs the revoke acts
pub under_course : (r : Revocation) (runner actor : ℕ) (old new : Delegations) (change : ChangeUnder r runner actor old new) → IsCourse r old new (leaves_in change)
under_course r runner actor old new (StaysUnder same) = record { steps = []; short = omega arith; allowed = tt; ends = same; parts = refl }
under_course r runner actor old new (JoinsUnder d fits idle is) = record { steps = Joins d ∷ []; short = omega arith; allowed = ((fits, idle), tt); ends = is; parts = refl }
under_course r runner actor old new (TakesPart same leaf next is) =
    record { steps = Part ∷ []; short = omega arith; allowed = (tt, tt); ends = is; parts = ap (λ (o : Option Derivation). one_if o + 0) next }
under_course r runner actor old new (GoesUnder others d there childless is) = record { steps = Goes d.id ∷ []; short = omega arith; allowed = (childless, tt); ends = is; parts = refl }
