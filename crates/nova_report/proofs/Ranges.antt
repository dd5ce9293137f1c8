-- What a loop over numbers wrote, and what is left to write.
use Rattle.std.proofs.Common.{◌≡◌, ◌∙◌, sym, ap, ℕ, suc, ◌+◌, ◌-◌, ◌<◌, ◌≤◌, ◌++◌, List, flat_map, arith}
use Rattle.std.proofs.lemmas.List.{append_assoc, append-nil}
use Rattle.std.specs.List.{range_with_len}

module _ (f : ℕ → List ℕ) (i n : ℕ) (before total : List ℕ) (left : before ++ flat_map f (range_with_len i (n - i)) ≡ total) where
  -- one number further
  pub range_more : (after : List ℕ) → i < n → after ≡ before ++ f i → after ++ flat_map f (range_with_len (i + 1) (n - (i + 1))) ≡ total
  range_more after h wrote =
      let rest = flat_map f (range_with_len (i + 1) (n - (i + 1))) in
      let e : n - i ≡ suc (n - (i + 1)) = omega arith in
      ap (λ a. a ++ rest) wrote ∙ append_assoc before (f i) rest ∙ sym (ap (λ m. before ++ flat_map f (range_with_len i m)) e) ∙ left

  -- nothing is left
  pub range_end : n ≤ i → before ≡ total
  range_end h =
      let e : n - i ≡ 0 = omega arith in
      sym (append-nil before) ∙ sym (ap (λ m. before ++ flat_map f (range_with_len i m)) e) ∙ left
