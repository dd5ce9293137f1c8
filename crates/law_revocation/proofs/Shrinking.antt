-- A revoke that runs only shrinks.
use Rattle.std.proofs.Common.{◌≡◌, ℕ, ◌+◌, ◌≤◌, List, [], ◌∷◌, ap, sym, ◌∙◌, subst, refl, arith}
use Rattle.std.specs.Prelude.{Contains, length, Option, Some, None}
use Rattle.nova_model.specs.Choice.{Candidate, next_to_act}
use Rattle.nova_model.specs.Delegations.{Delegations}
use Rattle.nova_model.specs.Forest.{IsForest}
use Rattle.nova_model.specs.Revokes.{Revocation, taken_away}
use Rattle.nova_model.specs.Running.{revoke_of}
use Rattle.nova_model.specs.Runs.{after}
use Rattle.nova_model.specs.State.{KernelState}
use Rattle.nova_model.specs.declared.delegation.Derivation.{Derivation}
use Rattle.law_forest.specs.Changes.{ChangesUnder, TakesPart, leaves_in}
use Rattle.law_forest.specs.Courses as courses
use Rattle.law_forest.specs.Courses.{IsCourse}
use Rattle.law_forest.proofs.Courses.{course_kept}
use Rattle.law_forest.proofs.Under.{turn_under, under_course}
use Rattle.law_revocation.specs.Along.{Runs, acts_once}
use Rattle.law_revocation.specs.Sound.{IsKeptForest}
use Rattle.law_revocation.specs.Whole.{HasShrunk, left}
use Rattle.law_revocation.proofs.Kept.{turn_sound}
use Rattle.law_revocation.proofs.Turns.{GoesOn, HasPart, HasTaken, Another, IsOver, Itself, Takes, goes_on, part_of}

-- what allowed steps lead to
course_leads : (r : Revocation) (f g : Delegations) (leaves : ℕ) → IsForest f → IsCourse r f g leaves → courses.IsKept r f g leaves
course_leads r f g leaves forest c =
    subst (λ (h : Delegations). courses.IsKept r f h leaves) (sym c.ends)
    (subst (λ (n : ℕ). courses.IsKept r f (courses.after r f c.steps) n) c.parts (course_kept r f c.steps forest c.allowed))

-- one turn
record Shrinks (k : KernelState) (cpu ec : ℕ) (r : Revocation) : Type 0 where
  among : (d : Derivation) → Contains (left r (after k cpu)) d → Contains (left r k) d
  fewer : acts_once ec (next_to_act k cpu) + length (left r (after k cpu)) ≤ length (left r k)

others_turn : (k : KernelState) (cpu ec : ℕ) (r : Revocation) → IsKeptForest k → revoke_of k ec ≡ Some r → acts_once ec (next_to_act k cpu) ≡ 0 → Shrinks k cpu ec r
others_turn k cpu ec r sound runs none = by_choice (next_to_act k cpu) (turn_under k cpu ec r sound.forest runs)
  where
    by_kept : (leaves : ℕ) → courses.IsKept r k.delegations (after k cpu).delegations leaves → Shrinks k cpu ec r
    by_kept leaves kept = record { among = kept.among; fewer = omega (arith, none, kept.fewer) }

    by_choice : (o : Option Candidate) → ChangesUnder r ec o k.delegations (after k cpu).delegations → Shrinks k cpu ec r
    by_choice None same =
        by_kept 0 (course_leads r k.delegations (after k cpu).delegations 0 sound.forest (record { steps = []; short = omega arith; allowed = tt; ends = same; parts = refl }))
    by_choice (Some c) change =
        by_kept (leaves_in change) (course_leads r k.delegations (after k cpu).delegations (leaves_in change) sound.forest
        (under_course r ec c.actor k.delegations (after k cpu).delegations change))

own_turn : (k : KernelState) (cpu ec : ℕ) (r : Revocation) → IsKeptForest k → acts_once ec (next_to_act k cpu) ≡ 1 → HasTaken k cpu ec r → Shrinks k cpu ec r
own_turn k cpu ec r sound one t =
    let kept = course_leads r k.delegations (after k cpu).delegations 1 sound.forest
    (under_course r ec ec k.delegations (after k cpu).delegations
    (TakesPart refl t.leaf t.next (t.delegations ∙ ap (taken_away k.delegations) (sym t.next)))) in
    record { among = kept.among; fewer = omega (arith, one, kept.fewer) }

one_turn : (k : KernelState) (cpu ec : ℕ) (r : Revocation) → IsKeptForest k → revoke_of k ec ≡ Some r → revoke_of (after k cpu) ec ≡ Some r → Shrinks k cpu ec r
one_turn k cpu ec r sound now then_too = by_part (part_of k cpu ec)
  where
    by_own : acts_once ec (next_to_act k cpu) ≡ 1 → GoesOn k cpu ec r → Shrinks k cpu ec r
    by_own one (Takes t) = own_turn k cpu ec r sound one t
    by_own one (IsOver h) = let over = h.over in absurd (cc)

    by_part : HasPart k cpu ec → Shrinks k cpu ec r
    by_part (Itself acts one) = by_own one (goes_on k cpu ec r sound now acts)
    by_part (Another another none) = others_turn k cpu ec r sound now none

-- all of them
pub runs_now : (k : KernelState) (ec : ℕ) (r : Revocation) (turns : List ℕ) → Runs k ec r turns → revoke_of k ec ≡ Some r
runs_now k ec r [] runs = runs
runs_now k ec r (cpu ∷ turns) runs = runs.0

pub shrunk : (k : KernelState) (turns : List ℕ) (ec : ℕ) (r : Revocation) → IsKeptForest k → Runs k ec r turns → HasShrunk k turns ec r
shrunk k [] ec r sound runs = record { among = λ d there. there; fewer = omega arith }
shrunk k (cpu ∷ turns) ec r sound (now, runs) =
    let first = one_turn k cpu ec r sound now (runs_now (after k cpu) ec r turns runs) in
    let rest = shrunk (after k cpu) turns ec r (turn_sound k cpu sound) runs in
    record { among = λ d there. first.among d (rest.among d there); fewer = omega (arith, first.fewer, rest.fewer) }
