-- The message words of a new thread.
use Rattle.std.proofs.Common.{◌≡◌, ℕ, zero, suc, ◌<◌, List, [], ◌∷◌, ◌++◌, length, slice_get, Option, Some, refl, ap, ◌∙◌, arith}
use Rattle.std.specs.Prelude.{slice_index}
use Rattle.std.proofs.lemmas.List.{get_or-replicate}
use Rattle.nova_model.specs.State.{entry, message_in, no_words}

after_front : {A : Type 0} (xs : List A) (y : A) (n : ℕ) → length xs ≡ n → slice_get (xs ++ y ∷ []) n ≡ Some y
after_front [] y zero is = refl
after_front [] y (suc n) is = absurd (omega arith)
after_front (x ∷ xs) y zero is = absurd (omega arith)
after_front (x ∷ xs) y (suc n) is = after_front xs y n (omega arith)

zero_words : (n : ℕ) → n < 128 → slice_index no_words n ≡ 0
zero_words n within = get_or-replicate 128 n 0 0 within

pub new_words : (messages : List (Option (List ℕ))) (n count : ℕ) → length messages ≡ count → n < 128 →
    slice_index (message_in (entry (slice_get (messages ++ Some no_words ∷ []) count))) n ≡ 0
new_words messages n count same within = ap (λ (o : Option (Option (List ℕ))). slice_index (message_in (entry o)) n) (after_front messages (Some no_words) count same) ∙ zero_words n within
