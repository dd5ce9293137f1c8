-- The list of the revokes that run: when one begins, when one is over, and while a list of contexts grows.
use Rattle.std.proofs.Common.{◌≡◌, ℕ, zero, suc, ◌+◌, ◌<◌, ◌≤◌, List, [], ◌∷◌, ap, ap₂, sym, ◌∙◌, refl, arith}
use Rattle.std.specs.Prelude.{Bool, true, false, ◌==◌, nat_lt, length, slice_get, Option, Some, None, option_map}
use Rattle.std.specs.List.{cons_option, filter_map, range_with_len, remove}
use Rattle.nova_model.specs.Revokes.{Revocation}
use Rattle.nova_model.specs.Running.{Running, running_of}
use Rattle.nova_revoke.specs.Runners.{index_of, revoke_in, begun_in, ended_in}

-- those of the `count` numbers from `n` on, by a function that says which revoke each runs
abbrev pub runs : (ℕ → Option Revocation) → ℕ → ℕ → List Running
runs f n count = filter_map (λ ec. running_of ec (f ec)) (range_with_len n count)

-- the same for the same of these numbers
pub runs_same : (f g : ℕ → Option Revocation) (n count : ℕ) → ((e : ℕ) → n ≤ e → f e ≡ g e) → runs f n count ≡ runs g n count
runs_same f g n zero same = refl
runs_same f g n (suc count) same =
    ap₂ (λ (o : Option Revocation) (ws : List Running). cons_option (running_of n o) ws) (same n (omega arith))
    (runs_same f g (n + 1) count (λ e h. same e (omega (arith, h))))

-- one more number, which runs none
pub runs_more : (f : ℕ → Option Revocation) (n count : ℕ) → f (n + count) ≡ None → runs f n (suc count) ≡ runs f n count
runs_more f n zero none = let here : f n ≡ None = ap f (omega arith) ∙ none in ap (λ (o : Option Revocation). cons_option (running_of n o) []) here
runs_more f n (suc count) none =
    ap (cons_option (running_of n (f n))) (runs_more f (n + 1) count (ap f (omega arith) ∙ none))

-- no more run than there are numbers, and less where one of them runs none
few_by : (n : ℕ) (count : ℕ) (o : Option Revocation) (ws : List Running) → length ws ≤ count → length (cons_option (running_of n o) ws) ≤ suc count
few_by n count None ws h = omega (arith, h)
few_by n count (Some r) ws h = omega (arith, h)

pub runs_few : (f : ℕ → Option Revocation) (n count : ℕ) → length (runs f n count) ≤ count
runs_few f n zero = omega arith
runs_few f n (suc count) = few_by n count (f n) (runs f (n + 1) count) (runs_few f (n + 1) count)

fewer_by : (n : ℕ) (count : ℕ) (o : Option Revocation) (ws : List Running) → length ws < count → length (cons_option (running_of n o) ws) < suc count
fewer_by n count None ws h = omega (arith, h)
fewer_by n count (Some r) ws h = omega (arith, h)

pub runs_fewer : (f : ℕ → Option Revocation) (n count ec : ℕ) → n ≤ ec → ec < n + count → f ec ≡ None → length (runs f n count) < count
runs_fewer f n zero ec from below none = absurd (grind (arith, from, below))
runs_fewer f n (suc count) ec from below none = by_place (n == ec) refl (λ h. runs_fewer f (n + 1) count ec h (omega (arith, below)) none)
  where
    by_place : (t : Bool) → (n == ec) ≡ t → (n + 1 ≤ ec → length (runs f (n + 1) count) < count) → length (runs f n (suc count)) < suc count
    by_place true is rest =
        let here : f n ≡ None = ap f (grind (arith, is)) ∙ none in
        let few = runs_few f (n + 1) count in
        rw here (omega (arith, few))
    by_place false is rest = fewer_by n count (f n) (runs f (n + 1) count) (rest (grind (arith, from, is)))

-- a context that runs a revoke is found
away : (f : ℕ → Option Revocation) (n count ec : ℕ) → ec < n → index_of ec (runs f n count) ≡ length (runs f n count)
away f n zero ec before = refl
away f n (suc count) ec before = by_first (f n) (away f (n + 1) count ec (omega (arith, before)))
  where
    by_first : (o : Option Revocation) → index_of ec (runs f (n + 1) count) ≡ length (runs f (n + 1) count) →
        index_of ec (cons_option (running_of n o) (runs f (n + 1) count)) ≡ length (cons_option (running_of n o) (runs f (n + 1) count))
    by_first None h = h
    by_first (Some r) h = let other : (n == ec) ≡ false = grind (arith, before) in rw other (ap suc h)

past : (xs : List Running) → slice_get xs (length xs) ≡ None
past [] = refl
past (x ∷ xs) = past xs

pub runs_found : (f : ℕ → Option Revocation) (n count ec : ℕ) → n ≤ ec → ec < n + count → revoke_in ec (runs f n count) ≡ f ec
runs_found f n zero ec from below = absurd (grind (arith, from, below))
runs_found f n (suc count) ec from below = by_place (n == ec) refl (λ h. runs_found f (n + 1) count ec h (omega (arith, below)))
  where
    here : (n == ec) ≡ true → (o : Option Revocation) → revoke_in ec (cons_option (running_of n o) (runs f (n + 1) count)) ≡ o
    here is None = ap (option_map (λ (w : Running). w.revoke))
        (ap (slice_get (runs f (n + 1) count)) (away f (n + 1) count ec (grind (arith, is))) ∙ past (runs f (n + 1) count))
    here is (Some r) = rw is refl

    later : (n == ec) ≡ false → (o : Option Revocation) → revoke_in ec (cons_option (running_of n o) (runs f (n + 1) count)) ≡ revoke_in ec (runs f (n + 1) count)
    later other None = refl
    later other (Some r) = rw other refl

    by_place : (t : Bool) → (n == ec) ≡ t → (n + 1 ≤ ec → revoke_in ec (runs f (n + 1) count) ≡ f ec) → revoke_in ec (runs f n (suc count)) ≡ f ec
    by_place true is rest = here is (f n) ∙ ap f (grind (arith, is))
    by_place false is rest = later is (f n) ∙ rest (grind (arith, from, is))

-- a revoke begins
pass : (w x : Running) (xs : List Running) → nat_lt w.ec x.ec ≡ false → begun_in w (x ∷ xs) ≡ x ∷ begun_in w xs
pass w x xs later = rw later refl

front_by : (n : ℕ) (w : Running) (o : Option Revocation) (ws : List Running) → w.ec < n → begun_in w ws ≡ w ∷ ws →
    begun_in w (cons_option (running_of n o) ws) ≡ w ∷ cons_option (running_of n o) ws
front_by n w None ws before h = h
front_by n w (Some r) ws before h = let less : nat_lt w.ec n ≡ true = grind (arith, before) in rw less refl

front : (f : ℕ → Option Revocation) (n count : ℕ) (w : Running) → w.ec < n → begun_in w (runs f n count) ≡ w ∷ runs f n count
front f n zero w before = refl
front f n (suc count) w before = front_by n w (f n) (runs f (n + 1) count) before (front f (n + 1) count w (omega (arith, before)))

pub runs_begun : (f g : ℕ → Option Revocation) (n count ec : ℕ) (r : Revocation) → n ≤ ec → ec < n + count → f ec ≡ None → g ec ≡ Some r →
    ((e : ℕ) → (e == ec) ≡ false → g e ≡ f e) → runs g n count ≡ begun_in (record { ec = ec; revoke = r }) (runs f n count)
runs_begun f g n zero ec r from below none begins others = absurd (grind (arith, from, below))
runs_begun f g n (suc count) ec r from below none begins others =
    by_place (n == ec) refl (λ h. runs_begun f g (n + 1) count ec r h (omega (arith, below)) none begins others)
  where
    w : Running
    w = record { ec = ec; revoke = r }

    later : (o : Option Revocation) → n ≤ ec → runs g (n + 1) count ≡ begun_in w (runs f (n + 1) count) →
        cons_option (running_of n o) (runs g (n + 1) count) ≡ begun_in w (cons_option (running_of n o) (runs f (n + 1) count))
    later None before rest = rest
    later (Some s) before rest =
        ap (λ (ws : List Running). record { ec = n; revoke = s } ∷ ws) rest
        ∙ sym (pass w (record { ec = n; revoke = s }) (runs f (n + 1) count) (grind (arith, before)))

    by_place : (t : Bool) → (n == ec) ≡ t → (n + 1 ≤ ec → runs g (n + 1) count ≡ begun_in w (runs f (n + 1) count)) → runs g n (suc count) ≡ begun_in w (runs f n (suc count))
    by_place true is rest =
        let at : n ≡ ec = grind (arith, is) in
        let was : f n ≡ None = ap f at ∙ none in
        let now : g n ≡ Some r = ap g at ∙ begins in
        let same : runs g (n + 1) count ≡ runs f (n + 1) count = runs_same g f (n + 1) count (λ e h. others e (grind (arith, h, at))) in
        ap₂ (λ (o : Option Revocation) (ws : List Running). cons_option (running_of n o) ws) now same
        ∙ ap (λ (e : ℕ). record { ec = e; revoke = r } ∷ runs f (n + 1) count) at
        ∙ sym (front f (n + 1) count w (grind (arith, at)))
        ∙ sym (ap (λ (o : Option Revocation). begun_in w (cons_option (running_of n o) (runs f (n + 1) count))) was)
    by_place false is rest =
        ap (λ (o : Option Revocation). cons_option (running_of n o) (runs g (n + 1) count)) (others n is) ∙ later (f n) from (rest (grind (arith, from, is)))

-- a revoke is over
remove_past : (xs : List Running) → remove xs (length xs) ≡ xs
remove_past [] = refl
remove_past (x ∷ xs) = ap (λ (ys : List Running). x ∷ ys) (remove_past xs)

pub runs_ended : (f g : ℕ → Option Revocation) (n count ec : ℕ) → g ec ≡ None → ((e : ℕ) → (e == ec) ≡ false → g e ≡ f e) →
    runs g n count ≡ ended_in ec (runs f n count)
runs_ended f g n zero ec over others = refl
runs_ended f g n (suc count) ec over others = by_place (n == ec) refl (runs_ended f g (n + 1) count ec over others)
  where
    dropped : (n == ec) ≡ true → (o : Option Revocation) → ended_in ec (cons_option (running_of n o) (runs f (n + 1) count)) ≡ runs f (n + 1) count
    dropped is None =
        ap (remove (runs f (n + 1) count)) (away f (n + 1) count ec (grind (arith, is))) ∙ remove_past (runs f (n + 1) count)
    dropped is (Some r) = rw is refl

    stays : (n == ec) ≡ false → (o : Option Revocation) →
        cons_option (running_of n o) (ended_in ec (runs f (n + 1) count)) ≡ ended_in ec (cons_option (running_of n o) (runs f (n + 1) count))
    stays is None = refl
    stays is (Some r) = rw is refl

    by_place : (t : Bool) → (n == ec) ≡ t → runs g (n + 1) count ≡ ended_in ec (runs f (n + 1) count) → runs g n (suc count) ≡ ended_in ec (runs f n (suc count))
    by_place true is rest =
        let at : n ≡ ec = grind (arith, is) in
        let now : g n ≡ None = ap g at ∙ over in
        ap (λ (o : Option Revocation). cons_option (running_of n o) (runs g (n + 1) count)) now
        ∙ runs_same g f (n + 1) count (λ e h. others e (grind (arith, h, at))) ∙ sym (dropped is (f n))
    by_place false is rest =
        ap₂ (λ (o : Option Revocation) (ws : List Running). cons_option (running_of n o) ws) (others n is) rest ∙ stays is (f n)
