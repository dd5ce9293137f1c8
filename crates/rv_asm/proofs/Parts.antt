-- How a text that was put together is taken apart.
use Rattle.std.proofs.Common.{◌≡◌, ℕ, suc, ◌+◌, Bool, true, false, List, [], ◌∷◌, ◌++◌, length, take, refl, ap, ◌∙◌, arith}
use Rattle.std.proofs.Math.Seq.{take-length}
use Rattle.std.specs.List.{position_or_len, before_first, slice_split, onto_first}

-- no byte passes a test
abbrev pub Without : (ℕ → Bool) → List ℕ → Type 0
Without p [] = Unit {0}
Without p (b ∷ bs) = (p b ≡ false) × Without p bs

pub without-append : (p : ℕ → Bool) (text rest : List ℕ) → Without p text → Without p rest → Without p (text ++ rest)
without-append p [] rest none others = others
without-append p (b ∷ bs) rest none others = (none.0, without-append p bs rest none.1 others)

-- bytes that pass one test and so fail another
abbrev pub Each : (ℕ → Bool) → List ℕ → Type 0
Each q [] = Unit {0}
Each q (b ∷ bs) = (q b ≡ true) × Each q bs

pub each-append : (q : ℕ → Bool) (text rest : List ℕ) → Each q text → Each q rest → Each q (text ++ rest)
each-append q [] rest all others = others
each-append q (b ∷ bs) rest all others = (all.0, each-append q bs rest all.1 others)

pub each-without : (p q : ℕ → Bool) → ((b : ℕ) → q b ≡ true → p b ≡ false) → (text : List ℕ) → Each q text → Without p text
each-without p q fails [] all = tt
each-without p q fails (b ∷ bs) all = (fails b all.0, each-without p q fails bs all.1)

-- the first byte that passes stands after a text in which none does
pub len_past : (p : ℕ → Bool) (text rest : List ℕ) → Without p text → position_or_len p rest ≡ 0 → position_or_len p (text ++ rest) ≡ length text
len_past p [] rest none first = first
len_past p (b ∷ bs) rest none first =
    let more : position_or_len p (b ∷ (bs ++ rest)) ≡ 1 + position_or_len p (bs ++ rest) = rw none.0 refl in
    let tail = len_past p bs rest none.1 first in
    more ∙ (let same : 1 + position_or_len p (bs ++ rest) ≡ suc (length bs) = omega arith in same)

pub len_none : (p : ℕ → Bool) (text : List ℕ) → Without p text → position_or_len p text ≡ length text
len_none p [] none = refl
len_none p (b ∷ bs) none =
    let more : position_or_len p (b ∷ bs) ≡ 1 + position_or_len p bs = rw none.0 refl in
    let tail = len_none p bs none.1 in
    more ∙ (let same : 1 + position_or_len p bs ≡ suc (length bs) = omega arith in same)

pub before-none : (p : ℕ → Bool) (text : List ℕ) → Without p text → before_first p text ≡ text
before-none p text none = ap (λ n. take n text) (len_none p text none) ∙ take-length text

-- so the parts of what follows stand after it
pub split_past : (p : ℕ → Bool) (text rest : List ℕ) (more : List (List ℕ)) → Without p text → slice_split p rest ≡ [] ∷ more → slice_split p (text ++ rest) ≡ text ∷ more
split_past p [] rest more none others = others
split_past p (b ∷ bs) rest more none others =
    let first : slice_split p (b ∷ (bs ++ rest)) ≡ onto_first b (slice_split p (bs ++ rest)) = rw none.0 refl in
    first ∙ ap (onto_first b) (split_past p bs rest more none.1 others)

pub split_none : (p : ℕ → Bool) (text : List ℕ) → Without p text → slice_split p text ≡ text ∷ []
split_none p [] none = refl
split_none p (b ∷ bs) none =
    let first : slice_split p (b ∷ bs) ≡ onto_first b (slice_split p bs) = rw none.0 refl in
    first ∙ ap (onto_first b) (split_none p bs none.1)
