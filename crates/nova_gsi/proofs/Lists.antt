-- The firings of a trace are the places of its events that are firings, and how many moments have come.
use Rattle.std.proofs.Common.{◌≡◌, ℕ, zero, suc, ◌+◌, ◌<◌, ◌≤◌, List, [], ◌∷◌, length, refl, ap, ◌∙◌, arith}
use Rattle.std.specs.Prelude.{Bool, true, false, cond, filter, take, if◌then◌else◌, slice_get, Some, None}
use Rattle.std.specs.List.{range_with_len}
use Rattle.nova_model.specs.Choice.{in_front}
use Rattle.nova_model.specs.declared.event.Event.{Event}
use Rattle.nova_gsi.specs.Firings.{count_of, firings_from, is_firing}

pub fired_is : (n place : ℕ) (es : List Event) → length (firings_from n place es) ≡ count_of (is_firing n) es
fired_is n place [] = refl
fired_is n place (e ∷ es) = by_test (is_firing n e) (fired_is n (place + 1) es)
  where
    by_test : (t : Bool) → length (firings_from n (place + 1) es) ≡ count_of (is_firing n) es →
        length (in_front (if t then Some place else None) (firings_from n (place + 1) es)) ≡ length (cond t (e ∷ filter (is_firing n) es) (filter (is_firing n) es))
    by_test true h = ap suc h
    by_test false h = h

-- firing `j`, whose place is `place`, among events that are numbered from `m` on
pub record IsFiring (n m : ℕ) (es : List Event) (j place : ℕ) : Type 0 where
  pub ahead : ℕ
  pub event : Event
  pub stands : place ≡ m + ahead
  pub there : slice_get es ahead ≡ Some event
  pub fires : is_firing n event ≡ true
  pub before : count_of (is_firing n) (take ahead es) ≡ j

later : (n m : ℕ) (e : Event) (es : List Event) (j i place : ℕ) (t : Bool) → is_firing n e ≡ t → (if t then suc j else j) ≡ i → IsFiring n (m + 1) es j place → IsFiring n m (e ∷ es) i place
later n m e es j i place t is same h = record {
  ahead = suc h.ahead;
  event = h.event;
  stands = let old = h.stands in omega (arith, old);
  there = h.there;
  fires = h.fires;
  before = by_test t is same;
}
  where
    by_test : (t : Bool) → is_firing n e ≡ t → (if t then suc j else j) ≡ i → count_of (is_firing n) (e ∷ take h.ahead es) ≡ i
    by_test true is same = ap (λ (b : Bool). length (cond b (e ∷ filter (is_firing n) (take h.ahead es)) (filter (is_firing n) (take h.ahead es)))) is ∙ ap suc h.before ∙ same
    by_test false is same = ap (λ (b : Bool). length (cond b (e ∷ filter (is_firing n) (take h.ahead es)) (filter (is_firing n) (take h.ahead es)))) is ∙ h.before ∙ same

pub firing_is : (n m : ℕ) (es : List Event) (j place : ℕ) → slice_get (firings_from n m es) j ≡ Some place → IsFiring n m es j place
firing_is n m [] j place there = absurd cc
firing_is n m (e ∷ es) j place there = by_test (λ i at. firing_is n (m + 1) es i place at) (is_firing n e) refl j there
  where
    by_test : ((i : ℕ) → slice_get (firings_from n (m + 1) es) i ≡ Some place → IsFiring n (m + 1) es i place) →
        (t : Bool) → is_firing n e ≡ t → (j : ℕ) → slice_get (in_front (if t then Some m else None) (firings_from n (m + 1) es)) j ≡ Some place → IsFiring n m (e ∷ es) j place
    by_test rest true is zero there =
        let same : m ≡ place = cc in record { ahead = 0; event = e; stands = omega (arith, same); there = refl; fires = is; before = refl }
    by_test rest true is (suc j) there = later n m e es j (suc j) place true is refl (rest j there)
    by_test rest false is j there = later n m e es j j place false is refl (rest j there)

pub taken_fewer : (p : Event → Bool) (es : List Event) (a b : ℕ) → a ≤ b → count_of p (take a es) ≤ count_of p (take b es)
taken_fewer p es zero b less = omega arith
taken_fewer p [] (suc a) b less = omega arith
taken_fewer p (e ∷ es) (suc a) zero less = absurd (omega (arith, less))
taken_fewer p (e ∷ es) (suc a) (suc b) less = by_test (p e) (taken_fewer p es a b (omega (arith, less)))
  where
    by_test : (t : Bool) → count_of p (take a es) ≤ count_of p (take b es) →
        length (cond t (e ∷ filter p (take a es)) (filter p (take a es))) ≤ length (cond t (e ∷ filter p (take b es)) (filter p (take b es)))
    by_test true h = omega (arith, h)
    by_test false h = h

-- the first numbers of a range pass, and no others
pub none_pass : (p : ℕ → Bool) (m len : ℕ) → ((j : ℕ) → m ≤ j → j < m + len → p j ≡ false) → length (filter p (range_with_len m len)) ≡ 0
none_pass p m zero fails = refl
none_pass p m (suc len) fails = by_test (p m) (fails m (omega arith) (omega arith)) (none_pass p (m + 1) len (λ j from below. fails j (omega (arith, from)) (omega (arith, below))))
  where
    by_test : (t : Bool) → t ≡ false → length (filter p (range_with_len (m + 1) len)) ≡ 0 → length (cond t (m ∷ filter p (range_with_len (m + 1) len)) (filter p (range_with_len (m + 1) len))) ≡ 0
    by_test true is h = absurd cc
    by_test false is h = h

pub first_pass : (p : ℕ → Bool) (m r len : ℕ) → r ≤ len → ((j : ℕ) → m ≤ j → j < m + r → p j ≡ true) → ((j : ℕ) → m + r ≤ j → j < m + len → p j ≡ false) →
    length (filter p (range_with_len m len)) ≡ r
first_pass p m zero len less passes fails = none_pass p m len (λ j from below. fails j (omega (arith, from)) below)
first_pass p m (suc r) zero less passes fails = absurd (omega (arith, less))
first_pass p m (suc r) (suc len) less passes fails =
    by_test (p m) (passes m (omega arith) (omega arith))
    (first_pass p (m + 1) r len (omega (arith, less)) (λ j from below. passes j (omega (arith, from)) (omega (arith, below))) (λ j from below. fails j (omega (arith, from)) (omega (arith, below))))
  where
    by_test : (t : Bool) → t ≡ true → length (filter p (range_with_len (m + 1) len)) ≡ r →
        length (cond t (m ∷ filter p (range_with_len (m + 1) len)) (filter p (range_with_len (m + 1) len))) ≡ suc r
    by_test true is h = ap suc h
    by_test false is h = absurd cc
