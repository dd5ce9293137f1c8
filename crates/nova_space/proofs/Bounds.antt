-- Sorted entries: where those begin that begin at a bound or after it.
use Rattle.std.proofs.Common.{◌≡◌, ℕ, ◌<◌, ◌≤◌, ◌-◌, List, [], ◌∷◌, refl, ap, sym, ◌∙◌, arith}
use Rattle.std.specs.Prelude.{Bool, true, false, nat_lt, nat_le, zero, suc, length, filter, slice_get, slice_index_or, Some}
use Rattle.std.specs.List.{AllByRecursion, find}
use Rattle.std.specs.List.Sorted.{IsPartitionPoint, IsPartitionedBy}
use Rattle.std.proofs.lemmas.Nat.{pow_pos}
use Rattle.nova_range.specs.declared.index.Entry.{Entry}
use Rattle.nova_range.specs.Ranges.{end_of}
use Rattle.nova_range.specs.Indices.{IsRising, ends_after}

base_at : (e : Entry) (es : List Entry) (k : ℕ) (other : Entry) → AllByRecursion (λ f. end_of e.range ≤ f.range.base) es → k < length es → end_of e.range ≤ (slice_index_or es k other).range.base
base_at e [] k other after low = absurd (omega arith)
base_at e (x ∷ xs) zero other after low = after.0
base_at e (x ∷ xs) (suc k) other after low = base_at e xs k other after.1 (omega arith)

-- bases rise
bases_rise : (es : List Entry) (i j : ℕ) (other : Entry) → IsRising es → i ≤ j → j < length es → (slice_index_or es i other).range.base ≤ (slice_index_or es j other).range.base
bases_rise [] i j other rising h low = absurd (omega arith)
bases_rise (e ∷ es) zero zero other rising h low = omega arith
bases_rise (e ∷ es) zero (suc j) other rising h low =
    let some = pow_pos e.range.order in
    let above = base_at e es j other rising.0 (omega arith) in
    omega arith
bases_rise (e ∷ es) (suc i) zero other rising h low = absurd (omega arith)
bases_rise (e ∷ es) (suc i) (suc j) other rising h low = bases_rise es i j other rising.1 (omega arith) (omega arith)

pub parted_below : (base : ℕ) (es : List Entry) → IsRising es → IsPartitionedBy (λ (e : Entry). nat_lt e.range.base base) es
parted_below base es rising i j other h low t = let up = bases_rise es i j other rising h low in grind (arith, up, t)

pub parted_upto : (place : ℕ) (es : List Entry) → IsRising es → IsPartitionedBy (λ (e : Entry). nat_le e.range.base place) es
parted_upto place es rising i j other h low t = let up = bases_rise es i j other rising h low in grind (arith, up, t)

-- where a test begins to fail, as many pass
pub counted : (p : Entry → Bool) (es : List Entry) (n : ℕ) → n ≤ length es → IsPartitionPoint (λ e. p e ≡ true) (λ e. p e ≡ false) es n → n ≡ length (filter p es)
counted p [] zero bound point = refl
counted p [] (suc n) bound point = absurd (omega arith)
counted p (e ∷ es) zero bound point =
    let off = point.1 0 e (omega arith) (omega arith) in
    rw off (counted p es zero (omega arith) (λ k d low high. absurd (omega arith), λ k d low high. point.1 (suc k) d (omega arith) (omega arith)))
counted p (e ∷ es) (suc n) bound point =
    let on = point.0 0 e (omega arith) (omega arith) in
    let rest = counted p es n (omega arith) (λ k d low high. point.0 (suc k) d (omega arith) (omega arith), λ k d low high. point.1 (suc k) d (omega arith) (omega arith)) in
    rw on (ap (λ m. suc m) rest)

-- those that begin at a place or before stand first, up to this index
abbrev pub IsBegun : ℕ → List Entry → ℕ → Type 0
IsBegun place es n = IsPartitionPoint (λ (e : Entry). nat_le e.range.base place ≡ true) (λ (e : Entry). nat_le e.range.base place ≡ false) es n

begun_rest : (place : ℕ) (e : Entry) (es : List Entry) (n : ℕ) → IsBegun place (e ∷ es) (suc n) → IsBegun place es n
begun_rest place e es n point = (λ k d low high. point.0 (suc k) d (omega arith) (omega arith), λ k d low high. point.1 (suc k) d (omega arith) (omega arith))

-- an entry with a later one that begins at `place` or before ends there or before
ended : (place : ℕ) (e : Entry) (es : List Entry) (n : ℕ) → IsRising (e ∷ es) → IsBegun place (e ∷ es) (suc (suc n)) → suc n ≤ length es → ends_after place e ≡ false
ended place e [] n rising point low = absurd (omega arith)
ended place e (f ∷ es) n rising point low =
    let after = rising.0.0 in
    let begun = point.0 1 f (omega arith) (omega arith) in
    grind (arith, after, begun)

-- the last of them has the place, where it ends after it
last_begun : (place : ℕ) (es : List Entry) (n : ℕ) (other : Entry) → IsRising es → IsBegun place es (suc n) → suc n ≤ length es → ends_after place (slice_index_or es n other) ≡ true →
    find (ends_after place) es ≡ Some (slice_index_or es n other)
last_begun place [] n other rising point low h = absurd (omega arith)
last_begun place (e ∷ es) zero other rising point low h = rw h refl
last_begun place (e ∷ es) (suc n) other rising point low h =
    rw (ended place e es n rising point (omega arith)) (last_begun place es n other rising.1 (begun_rest place e es (suc n) point) (omega arith) h)

-- else the next entry is the first that ends after it
next_begun : (place : ℕ) (es : List Entry) (n : ℕ) (other : Entry) → IsRising es → IsBegun place es n → n ≤ length es →
    ((k : ℕ) → n ≡ suc k → ends_after place (slice_index_or es k other) ≡ false) → find (ends_after place) es ≡ slice_get es n
next_begun place [] zero other rising point low h = refl
next_begun place [] (suc n) other rising point low h = absurd (omega arith)
next_begun place (e ∷ es) zero other rising point low h =
    let after = point.1 0 e (omega arith) (omega arith) in
    let some = pow_pos e.range.order in
    let ends : ends_after place e ≡ true = grind (arith, after, some) in
    rw ends refl
next_begun place (e ∷ es) (suc zero) other rising point low h =
    rw (h 0 refl) (next_begun place es zero other rising.1 (begun_rest place e es zero point) (omega arith) (λ k no. absurd (omega arith)))
next_begun place (e ∷ es) (suc (suc n)) other rising point low h =
    rw (ended place e es n rising point (omega arith)) (next_begun place es (suc n) other rising.1 (begun_rest place e es (suc n) point) (omega arith)
    (λ k is. h (suc k) (omega arith)))

-- the same by the index before
pub last_at : (place : ℕ) (es : List Entry) (n : ℕ) (other : Entry) → 0 < n → IsRising es → IsBegun place es n → n ≤ length es → ends_after place (slice_index_or es (n - 1) other) ≡ true →
    find (ends_after place) es ≡ Some (slice_index_or es (n - 1) other)
last_at place es zero other some rising point low h = absurd (omega arith)
last_at place es (suc n) other some rising point low h =
    let one : suc n - 1 ≡ n = omega arith in
    let last : ends_after place (slice_index_or es n other) ≡ true = ap (λ k. ends_after place (slice_index_or es k other)) (sym one) ∙ h in
    last_begun place es n other rising point low last ∙ ap (λ k. Some (slice_index_or es k other)) (sym one)

pub next_at : (place : ℕ) (es : List Entry) (n : ℕ) (other : Entry) → IsRising es → IsBegun place es n → n ≤ length es → (0 < n → ends_after place (slice_index_or es (n - 1) other) ≡ false) →
    find (ends_after place) es ≡ slice_get es n
next_at place es n other rising point low h =
    next_begun place es n other rising point low (λ k is. let one : k ≡ n - 1 = omega arith in ap (λ j. ends_after place (slice_index_or es j other)) one ∙ h (omega arith))
