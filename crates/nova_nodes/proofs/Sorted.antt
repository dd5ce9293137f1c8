-- Entries by rising base.
use Rattle.std.proofs.Common.{◌≡◌, ℕ, ◌≤◌, List, [], ◌∷◌, ap, sym, ◌∙◌, refl, inl, inr, arith}
use Rattle.std.specs.Prelude.{Bool, true, false, Some}
use Rattle.std.specs.List.{find}
use Rattle.std.proofs.lemmas.Nat.{pow_pos}
use Rattle.nova_range.specs.declared.index.Entry.{Entry}
use Rattle.nova_range.specs.Ranges.{end_of}
use Rattle.nova_range.specs.Indices.{IsRising, ends_after}
pub use Rattle.nova_range.proofs.Sorted.{filter_all, filter_none, held, key_held}
use Rattle.law_forest.proofs.Members.{IsIn, all_at}

-- the first entry that has a place at or after `place` is that of least base that does
pub first_least : (place : ℕ) (es : List Entry) (e f : Entry) → IsRising es → find (ends_after place) es ≡ Some e → IsIn es f → ends_after place f ≡ true → e.range.base ≤ f.range.base
first_least place [] e f rising is i h = absurd i
first_least place (a ∷ es) e f rising is i h = by_test (ends_after place a) refl i is (λ j k. first_least place es e f rising.1 k j h)
  where
    by_test : (t : Bool) → ends_after place a ≡ t → IsIn (a ∷ es) f → find (ends_after place) (a ∷ es) ≡ Some e → (IsIn es f → find (ends_after place) es ≡ Some e → e.range.base ≤ f.range.base) → e.range.base ≤ f.range.base
    by_test true t (inl same) g rest = let it : a ≡ e = (let k : Some a ≡ Some e = rw t at g in cc) in rw (sym it, sym same) (omega arith)
    by_test true t (inr j) g rest =
        let it : a ≡ e = (let k : Some a ≡ Some e = rw t at g in cc) in
        let later = all_at (λ b. end_of a.range ≤ b.range.base) es f rising.0 j in
        let some = pow_pos a.range.order in
        rw (sym it) (omega arith)
    by_test false t (inl same) g rest = let k : ends_after place f ≡ false = ap (ends_after place) (sym same) ∙ t in absurd (cc)
    by_test false t (inr j) g rest = let k : find (ends_after place) es ≡ Some e = rw t at g in rest j k
