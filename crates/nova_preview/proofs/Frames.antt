-- The bytes of frames, one after another.
use Rattle.std.proofs.Common.{◌≡◌, ◌<◌, ◌≤◌, ℕ, zero, suc, ◌+◌, ◌++◌, List, [], ◌∷◌, length, take, drop, refl, sym, ap, ◌∙◌, arith}
use Rattle.std.specs.Prelude.{Some, slice_get}
use Rattle.std.specs.List.{concat}
use Rattle.std.proofs.lemmas.List.{append-nil, append_assoc, length-append, length-drop, length-take}

concat_next : (xs : List (List ℕ)) (i : ℕ) (x : List ℕ) → slice_get xs i ≡ Some x → concat (take (suc i) xs) ≡ concat (take i xs) ++ x
concat_next [] i x is = absurd (cc)
concat_next (y ∷ ys) zero x is = let e : y ≡ x = cc in append-nil y ∙ e
concat_next (y ∷ ys) (suc i) x is = ap (λ (zs : List ℕ). y ++ zs) (concat_next ys i x is) ∙ sym (append_assoc y (concat (take i ys)) x)

-- one frame more
pub concat_more : (xs : List (List ℕ)) (bytes after x : List ℕ) (i : ℕ) → slice_get xs i ≡ Some x → bytes ≡ concat (take i xs) → after ≡ bytes ++ x →
    after ≡ concat (take (i + 1) xs)
concat_more xs bytes after x i is were more =
    let e : suc i ≡ i + 1 = omega arith in
    more ∙ (ap (λ (zs : List ℕ). zs ++ x) were ∙ (sym (concat_next xs i x is) ∙ ap (λ n. concat (take n xs)) e))

take_taken : {T : Type 0} (n : ℕ) (xs : List T) → take (length (take n xs)) xs ≡ take n xs
take_taken zero xs = refl
take_taken (suc n) [] = refl
take_taken (suc n) (x ∷ xs) = ap (λ ys. x ∷ ys) (take_taken n xs)

-- all of them
pub all_taken : (n : ℕ) (xs : List (List ℕ)) → concat (take (length (take n xs)) xs) ≡ concat (take n xs)
all_taken n xs = ap concat (take_taken n xs)

dropped_at : {T : Type 0} (xs : List T) (frame i : ℕ) → slice_get (drop frame xs) i ≡ slice_get xs (frame + i)
dropped_at xs zero i = let e : i ≡ zero + i = omega arith in ap (slice_get xs) e
dropped_at [] (suc frame) i = refl
dropped_at (x ∷ xs) (suc frame) i = let e : suc frame + i ≡ suc (frame + i) = omega arith in dropped_at xs frame i ∙ sym (ap (slice_get (x ∷ xs)) e)

taken_at : {T : Type 0} (xs : List T) (n i : ℕ) → i < length (take n xs) → slice_get (take n xs) i ≡ slice_get xs i
taken_at xs zero i low = absurd (omega (arith, low))
taken_at [] (suc n) i low = refl
taken_at (x ∷ xs) (suc n) zero low = refl
taken_at (x ∷ xs) (suc n) (suc i) low = taken_at xs n i (omega (arith, low))

-- one of those frames is one of all
pub frame_at : (ram : List (List ℕ)) (frame i : ℕ) (x : List ℕ) → slice_get ram (frame + i) ≡ Some x → slice_get (drop frame ram) i ≡ Some x
frame_at ram frame i x is = dropped_at ram frame i ∙ is

pub frame_within : (ram : List (List ℕ)) (n frame i : ℕ) → i < length (take n (drop frame ram)) → frame + i < length ram
frame_within ram n frame i low =
    let taken = length-take n (drop frame ram) in
    let left = length-drop frame ram in
    grind (arith, low, taken, left)

concat_has : (xs : List (List ℕ)) (i : ℕ) (x : List ℕ) → slice_get xs i ≡ Some x → length x ≤ length (concat xs)
concat_has [] i x is = absurd (cc)
concat_has (y ∷ ys) zero x is =
    let e : y ≡ x = cc in
    let same : length y ≡ length x = ap (λ (zs : List ℕ). length zs) e in
    let sum = length-append y (concat ys) in
    omega (arith, same, sum)
concat_has (y ∷ ys) (suc i) x is = let rest = concat_has ys i x is in let sum = length-append y (concat ys) in omega (arith, rest, sum)

-- where there is a frame, there are its bytes
pub has_bytes : (ram : List (List ℕ)) (n frame i : ℕ) (x : List ℕ) → i < length (take n (drop frame ram)) → slice_get ram (frame + i) ≡ Some x → 0 < length x →
    0 < length (concat (take n (drop frame ram)))
has_bytes ram n frame i x low is some =
    let most = concat_has (take n (drop frame ram)) i x (taken_at (drop frame ram) n i low ∙ frame_at ram frame i x is) in
    omega (arith, most, some)
