-- What a search for the first byte of a kind gives, and what stands before it.
use Rattle.std.proofs.Common.{◌≡◌, ℕ, suc, ◌≤◌, Bool, true, false, cond, ltb, List, [], ◌∷◌, length, take, Option, Some, None, unwrap_or, refl, ap, ◌∙◌, arith}
use Rattle.std.specs.List.{position_or_len, position, before_first}
use Rattle.std.proofs.lemmas.List.Sums.{prefix_len-le-length}

unwrap_or-cond : (n m : ℕ) → n ≤ m → unwrap_or (cond (ltb n m) (Some n) None) m ≡ n
unwrap_or-cond n m le = grind arith

-- the place that `position` gives, or the length
pub unwrap_or-position : (p : ℕ → Bool) (bs : List ℕ) (o : Option ℕ) (n : ℕ) → n ≡ unwrap_or o (length bs) → o ≡ position p bs → n ≡ position_or_len p bs
unwrap_or-position p bs o n e f =
    e ∙ ap (λ r. unwrap_or r (length bs)) f ∙ unwrap_or-cond (position_or_len p bs) (length bs) (prefix_len-le-length _ bs)

-- by whether the first byte passes
module _ (p : ℕ → Bool) (b : ℕ) (bs : List ℕ) where
  pub position_or_len-here : p b ≡ true → position_or_len p (b ∷ bs) ≡ 0
  position_or_len-here is = rw is refl

  pub position_or_len-later : p b ≡ false → position_or_len p (b ∷ bs) ≡ suc (position_or_len p bs)
  position_or_len-later is = rw is (omega arith)

  pub before_first-here : p b ≡ true → before_first p (b ∷ bs) ≡ []
  before_first-here is = rw is refl

  pub before_first-later : p b ≡ false → before_first p (b ∷ bs) ≡ b ∷ before_first p bs
  before_first-later is = ap (λ n. take n (b ∷ bs)) (position_or_len-later is)
