-- Labels that were joined to the finest are sole: their sides are, and each side has the least label of its own. And so is the tie for which there are none.
use Rattle.std.proofs.Common.{◌≡◌, ◌≢◌, ◌≤◌, ℕ, List, refl, sym, ◌∙◌, inl, inr, arith}
use Rattle.std.specs.Prelude.{Option, Some, None}
use Rattle.std.proofs.lemmas.Bool.{cases_eq, eq-eqb, eqb-true}
use Rattle.nova_ties.specs.Ties.{IsStuck, label_in}
use Rattle.nova_ties.specs.declared.tie.Tie.{Tie}
use Rattle.nova_judging.specs.Answers.{AreFinest, AreSettled}

none_alike : (tied : List Tie) (old one other : List ℕ) → AreFinest tied old one → AreFinest tied old other → (n : ℕ) → label_in one n ≡ 0 → label_in other n ≡ 0
none_alike tied old one other a b n none = eqb-true (label_in other n) 0 (b.trusted n ∙ sym (a.trusted n) ∙ eq-eqb (label_in one n) 0 none)

-- whoever had the label of a side before is of the same side in the other table, whose label is no greater then
no_greater : (tied : List Tie) (old one other : List ℕ) → AreFinest tied old one → AreFinest tied old other → (n : ℕ) → label_in one n ≢ 0 → label_in other n ≤ label_in one n
no_greater tied old one other a b n some =
    let coarser = a.finest (label_in other) b.respected b.joined in
    let had = a.least.had n some in
    let bound = b.least.least had.0 n (coarser.joined had.0 n (λ none. some (sym had.1 ∙ none)) had.1) in
    let its = had.2 in
    omega (arith, bound, its)

pub sole : (tied : List Tie) (old one other : List ℕ) (n : ℕ) → AreFinest tied old one → AreFinest tied old other → label_in one n ≡ label_in other n
sole tied old one other n a b = elim (cases_eq (label_in one n) 0) [
  | inl none ↦ none ∙ sym (none_alike tied old one other a b n none)
  | inr some ↦
      let first = no_greater tied old one other a b n some in
      let second = no_greater tied old other one b a n (λ none. some (none_alike tied old other one b a n none)) in
      omega (arith, first, second)
]

-- labels are joined, or there are none to which they can be: not both
not_both : (tied : List Tie) (old new : List ℕ) (t : Tie) → AreFinest tied old new → IsStuck tied (label_in old) t → ⊥
not_both tied old new t are stuck =
    stuck.no (label_in new) are.respected are.joined (eqb-true (label_in new t.to) 0 (are.trusted t.to ∙ eq-eqb (label_in old t.to) 0 stuck.trusted))

pub sole_tie : (tied : List Tie) (old one other : List ℕ) (s t : Option Tie) → AreSettled tied old one s → AreSettled tied old other t → s ≡ t
sole_tie tied old one other None None a b = refl
sole_tie tied old one other None (Some t) a b = absurd (not_both tied old one t a b)
sole_tie tied old one other (Some s) None a b = absurd (not_both tied old other s b a)
sole_tie tied old one other (Some s) (Some t) a b = sym a.first ∙ b.first
