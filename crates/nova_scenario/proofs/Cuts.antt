-- What stands before the first element that passes a test, and after it.
use Rattle.std.proofs.Common.{◌≡◌, suc, ◌+◌, Bool, false, List, ◌∷◌, take, drop, refl, ap, ◌∙◌, arith}
use Rattle.std.specs.Prelude.{find}
use Rattle.std.specs.List.{before_first, after_first, position_or_len}

module _ {X : Type 0} (p : X → Bool) (x : X) (xs : List X) where
  later : p x ≡ false → position_or_len p (x ∷ xs) ≡ suc (position_or_len p xs)
  later is = rw is (omega arith)

  pub before_later : p x ≡ false → before_first p (x ∷ xs) ≡ x ∷ before_first p xs
  before_later is = ap (λ n. take n (x ∷ xs)) (later is)

  pub after_later : p x ≡ false → after_first p (x ∷ xs) ≡ after_first p xs
  after_later is =
      let one : suc (position_or_len p xs) + 1 ≡ suc (position_or_len p xs + 1) = omega arith in
      ap (λ n. drop (n + 1) (x ∷ xs)) (later is) ∙ ap (λ n. drop n (x ∷ xs)) one

  pub find_later : p x ≡ false → find p (x ∷ xs) ≡ find p xs
  find_later is = rw is refl
