-- Histories, and the seats in line.
use Rattle.std.proofs.Common.{◌≡◌, ◌≢◌, ◌⊎◌, inl, inr, ⊎_elim, Contains, slice_index_or, ℕ, zero, suc, ◌+◌, ◌<◌, ◌≤◌, List, [], ◌∷◌, ◌++◌, length, set, replicate, refl, ap, sym, ◌∙◌, subst, arith, append_assoc, append-nil}
use Rattle.std.proofs.lemmas.Bool.Decides.{nat_tests}
use mathlib.Core.Option.{some, some-injective, some-ne-none}
use mathlib.Core.List.{IsPrefix}
use lib.ListN.{get_elem?}
use Rattle.nova_lock.specs.declared.view.View.{View}
use Rattle.nova_lock.specs.declared.view.Phase.{Phase}
use Rattle.nova_lock.specs.declared.view.Phase.TheVariants.{Idle, Waiting, Called, Passed, Spent}
use Rattle.nova_lock.specs.History.{Adds, entries, IsFrontOf}
use Rattle.nova_lock.specs.Ticketed.{queued, weight}

pub prefix_self : {A : Type 0} (xs : List A) → IsPrefix xs xs
prefix_self xs = ([], append-nil xs)

pub prefix_more : {A : Type 0} (xs ys zs : List A) → IsPrefix xs ys → IsPrefix xs (ys ++ zs)
prefix_more xs ys zs p = (p.0 ++ zs, sym (append_assoc xs p.0 zs) ∙ ap (λ w. w ++ zs) p.1)

pub entries-append : (n : ℕ) (xs ys : List ℕ) → entries n (xs ++ ys) ≡ entries n xs + entries n ys
entries-append n [] ys = omega arith
entries-append n (x ∷ xs) ys = let r = entries-append n xs ys in grind (arith, r)

pub entries-others : (n m k : ℕ) → n ≢ m → entries n (replicate k m) ≡ 0
entries-others n m zero ne = refl
entries-others n m (suc k) ne = let r = entries-others n m k ne in grind (arith, nat_tests, r, ne)

pub entries-added : (n m : ℕ) (xs ys : List ℕ) → Adds m xs ys → n ≢ m → entries n ys ≡ entries n xs
entries-added n m xs ys a ne = omega (arith, ap (entries n) a.1, entries-append n xs (replicate a.0 m), entries-others n m a.0 ne)

-- a front stays one as others add entries
pub fronts-added : (n m : ℕ) (front xs ys : List ℕ) → Adds m xs ys → n ≢ m → IsFrontOf n front xs → IsFrontOf n front ys
fronts-added n m front xs ys a ne f = record {
  prefix = subst (IsPrefix front) (sym a.1) (prefix_more front xs (replicate a.0 m) f.prefix);
  whole = f.whole ∙ sym (entries-added n m xs ys a ne);
}

pub fronts-self : (n : ℕ) (xs : List ℕ) → IsFrontOf n xs xs
fronts-self n xs = record { prefix = prefix_self xs; whole = refl }

weight-one : (p : Phase) → weight p ≤ 1
weight-one Idle = omega arith
weight-one Waiting = omega arith
weight-one Called = omega arith
weight-one Passed = omega arith
weight-one Spent = omega arith

module _ {T : Type 0} where
  pub queued-set : (l : List (View T)) (i : ℕ) (v w : View T) → get_elem? l i ≡ some v → queued (set l i w) + weight v.phase ≡ queued l + weight w.phase
  queued-set [] i v w e = absurd (some-ne-none v (sym e))
  queued-set (x ∷ xs) zero v w e = let is : weight x.phase ≡ weight v.phase = ap (λ (m : View T). weight m.phase) (some-injective x v e) in omega arith
  queued-set (x ∷ xs) (suc i) v w e = let r = queued-set xs i v w e in omega arith

  pub queued-snoc : (l : List (View T)) (w : View T) → queued (l ++ w ∷ []) ≡ queued l + weight w.phase
  queued-snoc [] w = omega arith
  queued-snoc (x ∷ xs) w = let r = queued-snoc xs w in omega arith

  pub queued-few : (l : List (View T)) → queued l ≤ length l
  queued-few [] = omega arith
  queued-few (x ∷ xs) = let r = queued-few xs in let o = weight-one x.phase in omega arith

pub at_less : {A : Type 0} (l : List A) (i : ℕ) (a : A) → get_elem? l i ≡ some a → i < length l
at_less [] i a e = absurd (some-ne-none a (sym e))
at_less (x ∷ xs) zero a e = omega arith
at_less (x ∷ xs) (suc i) a e = let r = at_less xs i a e in omega arith

pub snoc_at : {A : Type 0} (l : List A) (a b : A) (j : ℕ) → get_elem? (l ++ a ∷ []) j ≡ some b → (get_elem? l j ≡ some b) ⊎ ((j ≡ length l) × (a ≡ b))
snoc_at [] a b zero e = inr (refl, some-injective a b e)
snoc_at [] a b (suc j) e = absurd (some-ne-none b (sym e))
snoc_at (x ∷ xs) a b zero e = inl e
snoc_at (x ∷ xs) a b (suc j) e = ⊎_elim inl (λ t. let is = t.0 in inr (omega arith, t.1)) (snoc_at xs a b j e)

cons-at : {A : Type 0} (y : A) (ys : List A) (x : A) (k : ℕ) → k < length (y ∷ ys) → slice_index_or (y ∷ ys) k x ≡ x → (y ≡ x) ⊎ Contains ys x
cons-at y ys x zero l e = inl e
cons-at y ys x (suc k) l e = inr (k, omega arith, e)

pub cons_cases : {A : Type 0} (y : A) (ys : List A) (x : A) → Contains (y ∷ ys) x → (y ≡ x) ⊎ Contains ys x
cons_cases y ys x c = cons-at y ys x c.0 c.1 c.2
