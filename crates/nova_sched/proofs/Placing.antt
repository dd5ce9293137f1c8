-- One more among those that run in order, and one less.
use Rattle.std.proofs.Common.{◌≡◌, ℕ, zero, suc, ◌<◌, ◌≤◌, List, [], ◌∷◌, length, refl, ap, sym, subst, ◌∙◌, inl, inr, arith}
use Rattle.std.specs.Prelude.{◌⊎◌, Bool, true, false, slice_index_or, if◌then◌else◌}
use Rattle.std.specs.List.{AllByRecursion, insert, remove}
use Rattle.std.specs.List.Sorted.{IsPartitionPoint, IsPartitionedBy}
use Rattle.nova_model.specs.Forest.{ArePairs}
use Rattle.nova_sched.specs.Queues.{runs_before}
use Rattle.nova_sched.specs.Ready.{IsAmong, IsBehind, dropped, placed}
use Rattle.nova_sched.specs.declared.queued.Runnable.{Runnable}

-- MEMBERS

pub all_among : (P : Runnable → Type 0) (rs : List Runnable) (r : Runnable) → AllByRecursion P rs → IsAmong rs r → P r
all_among P [] r all i = absurd i
all_among P (q ∷ qs) r all (inl e) = subst P e all.0
all_among P (q ∷ qs) r all (inr i) = all_among P qs r all.1 i

pub among_all : (P : Runnable → Type 0) (rs : List Runnable) → ((r : Runnable) → IsAmong rs r → P r) → AllByRecursion P rs
among_all P [] h = tt
among_all P (q ∷ qs) h = (h q (inl refl), among_all P qs (λ r i. h r (inr i)))

-- THE ORDER

pub not_itself : (a : Runnable) → runs_before a a ≡ false
not_itself a = grind arith

through : (a b c : Runnable) → runs_before a b ≡ true → runs_before b c ≡ true → runs_before a c ≡ true
through a b c h k = grind (arith, h, k)

at_index : (q : Runnable) (rs : List Runnable) (k : ℕ) (other : Runnable) → AllByRecursion (IsBehind q) rs → k < length rs → runs_before q (slice_index_or rs k other) ≡ true
at_index q [] k other all low = absurd (omega arith)
at_index q (r ∷ rs) zero other all low = all.0
at_index q (r ∷ rs) (suc k) other all low = at_index q rs k other all.1 (omega arith)

before_first : (r : Runnable) (rs : List Runnable) (i j : ℕ) (other : Runnable) → ArePairs IsBehind rs → i ≤ j → j < length rs → runs_before (slice_index_or rs j other) r ≡ true →
    runs_before (slice_index_or rs i other) r ≡ true
before_first r [] i j other order h low t = absurd (omega arith)
before_first r (q ∷ qs) zero zero other order h low t = t
before_first r (q ∷ qs) zero (suc j) other order h low t = through q (slice_index_or qs j other) r (at_index q qs j other order.0 (omega arith)) t
before_first r (q ∷ qs) (suc i) zero other order h low t = absurd (omega arith)
before_first r (q ∷ qs) (suc i) (suc j) other order h low t = before_first r qs i j other order.1 (omega arith) (omega arith) t

pub parted : (r : Runnable) (rs : List Runnable) → ArePairs IsBehind rs → IsPartitionedBy (λ q. runs_before q r) rs
parted r rs order i j other h low t = before_first r rs i j other order h low t

abbrev pub IsPoint : Runnable → List Runnable → ℕ → Type 0
IsPoint r rs n = IsPartitionPoint (λ q. runs_before q r ≡ true) (λ q. runs_before q r ≡ false) rs n

point_rest : (r q : Runnable) (qs : List Runnable) (n : ℕ) → IsPoint r (q ∷ qs) (suc n) → IsPoint r qs n
point_rest r q qs n point = (λ k e low high. point.0 (suc k) e (omega arith) (omega arith), λ k e low high. point.1 (suc k) e (omega arith) (omega arith))

-- at its point a runnable is put in, and that which stands there is taken out
pub inserted : (r : Runnable) (rs : List Runnable) (n : ℕ) → n ≤ length rs → IsPoint r rs n → insert rs n r ≡ placed r rs
inserted r [] zero low point = refl
inserted r [] (suc n) low point = absurd (omega arith)
inserted r (q ∷ qs) zero low point = let off = point.1 0 q (omega arith) (omega arith) in rw off refl
inserted r (q ∷ qs) (suc n) low point = let on = point.0 0 q (omega arith) (omega arith) in rw on (ap (λ l. q ∷ l) (inserted r qs n (omega arith) (point_rest r q qs n point)))

pub removed : (r : Runnable) (rs : List Runnable) (n : ℕ) → n < length rs → IsPoint r rs n → remove rs n ≡ dropped r rs
removed r [] n low point = absurd (omega arith)
removed r (q ∷ qs) zero low point = let off = point.1 0 q (omega arith) (omega arith) in rw off refl
removed r (q ∷ qs) (suc n) low point = let on = point.0 0 q (omega arith) (omega arith) in rw on (ap (λ l. q ∷ l) (removed r qs n (omega arith) (point_rest r q qs n point)))

pub none_removed : (r : Runnable) (rs : List Runnable) (n : ℕ) → length rs ≤ n → IsPoint r rs n → dropped r rs ≡ rs
none_removed r [] n low point = refl
none_removed r (q ∷ qs) zero low point = absurd (omega arith)
none_removed r (q ∷ qs) (suc n) low point = let on = point.0 0 q (omega arith) (omega arith) in rw on (ap (λ l. q ∷ l) (none_removed r qs n (omega arith) (point_rest r q qs n point)))

-- ONE MORE

pub among_placed : (r x : Runnable) (rs : List Runnable) → (r ≡ x) ⊎ IsAmong rs x → IsAmong (placed r rs) x
among_placed r x [] (inl e) = inl e
among_placed r x [] (inr i) = absurd i
among_placed r x (q ∷ qs) h = by_test (runs_before q r) h (λ k. among_placed r x qs k)
  where
    by_test : (t : Bool) → (r ≡ x) ⊎ IsAmong (q ∷ qs) x → ((r ≡ x) ⊎ IsAmong qs x → IsAmong (placed r qs) x) → IsAmong (if t then q ∷ placed r qs else r ∷ q ∷ qs) x
    by_test true (inl e) rest = inr (rest (inl e))
    by_test true (inr (inl e)) rest = inl e
    by_test true (inr (inr i)) rest = inr (rest (inr i))
    by_test false (inl e) rest = inl e
    by_test false (inr i) rest = inr i

pub placed_among : (r x : Runnable) (rs : List Runnable) → IsAmong (placed r rs) x → (r ≡ x) ⊎ IsAmong rs x
placed_among r x [] (inl e) = inl e
placed_among r x [] (inr i) = absurd i
placed_among r x (q ∷ qs) h = by_test (runs_before q r) h (λ k. placed_among r x qs k)
  where
    later : (r ≡ x) ⊎ IsAmong qs x → (r ≡ x) ⊎ IsAmong (q ∷ qs) x
    later (inl e) = inl e
    later (inr i) = inr (inr i)

    by_test : (t : Bool) → IsAmong (if t then q ∷ placed r qs else r ∷ q ∷ qs) x → (IsAmong (placed r qs) x → (r ≡ x) ⊎ IsAmong qs x) → (r ≡ x) ⊎ IsAmong (q ∷ qs) x
    by_test true (inl e) rest = inr (inl e)
    by_test true (inr i) rest = later (rest i)
    by_test false (inl e) rest = inl e
    by_test false (inr i) rest = inr i

pub length_placed : (r : Runnable) (rs : List Runnable) → length (placed r rs) ≡ suc (length rs)
length_placed r [] = refl
length_placed r (q ∷ qs) = by_test (runs_before q r) (length_placed r qs)
  where
    by_test : (t : Bool) → length (placed r qs) ≡ suc (length qs) → length (if t then q ∷ placed r qs else r ∷ q ∷ qs) ≡ suc (suc (length qs))
    by_test true rest = ap (λ n. suc n) rest
    by_test false rest = refl

-- it has a stamp of its own
pub order_placed : (r : Runnable) (rs : List Runnable) → ArePairs IsBehind rs → ((q : Runnable) → IsAmong rs q → q.stamp ≡ r.stamp → ⊥) → ArePairs IsBehind (placed r rs)
order_placed r [] order apart = (tt, tt)
order_placed r (q ∷ qs) order apart = by_test (runs_before q r) refl (order_placed r qs order.1 (λ p i. apart p (inr i)))
  where
    ahead : runs_before q r ≡ false → runs_before r q ≡ true
    ahead h = let off = apart q (inl refl) in by_stamp (runs_before r q) refl off
      where
        by_stamp : (t : Bool) → runs_before r q ≡ t → (q.stamp ≡ r.stamp → ⊥) → t ≡ true
        by_stamp true k off = refl
        by_stamp false k off = absurd (off (grind (arith, h, k)))

    by_test : (t : Bool) → runs_before q r ≡ t → ArePairs IsBehind (placed r qs) → ArePairs IsBehind (if t then q ∷ placed r qs else r ∷ q ∷ qs)
    by_test true h rest = (among_all (IsBehind q) (placed r qs) (λ x i. each x (placed_among r x qs i)), rest)
      where
        each : (x : Runnable) → (r ≡ x) ⊎ IsAmong qs x → runs_before q x ≡ true
        each x (inl e) = subst (λ (y : Runnable). runs_before q y ≡ true) e h
        each x (inr i) = all_among (IsBehind q) qs x order.0 i
    by_test false h rest =
        let first = ahead h in
        ((first, among_all (IsBehind r) qs (λ x i. through r q x first (all_among (IsBehind q) qs x order.0 i))), order)

-- ONE LESS

pub dropped_among : (r x : Runnable) (rs : List Runnable) → IsAmong (dropped r rs) x → IsAmong rs x
dropped_among r x [] i = absurd i
dropped_among r x (q ∷ qs) h = by_test (runs_before q r) h (λ k. dropped_among r x qs k)
  where
    by_test : (t : Bool) → IsAmong (if t then q ∷ dropped r qs else qs) x → (IsAmong (dropped r qs) x → IsAmong qs x) → IsAmong (q ∷ qs) x
    by_test true (inl e) rest = inl e
    by_test true (inr i) rest = inr (rest i)
    by_test false i rest = inr i

pub order_dropped : (r : Runnable) (rs : List Runnable) → ArePairs IsBehind rs → ArePairs IsBehind (dropped r rs)
order_dropped r [] order = tt
order_dropped r (q ∷ qs) order = by_test (runs_before q r) (order_dropped r qs order.1)
  where
    by_test : (t : Bool) → ArePairs IsBehind (dropped r qs) → ArePairs IsBehind (if t then q ∷ dropped r qs else qs)
    by_test true rest = (among_all (IsBehind q) (dropped r qs) (λ x i. all_among (IsBehind q) qs x order.0 (dropped_among r x qs i)), rest)
    by_test false rest = order.1

-- where it is there, it goes and no other does

first_is : (r q : Runnable) (qs : List Runnable) → AllByRecursion (IsBehind q) qs → IsAmong (q ∷ qs) r → runs_before q r ≡ false → q ≡ r
first_is r q qs all (inl e) h = e
first_is r q qs all (inr i) h = let on = all_among (IsBehind q) qs r all i in absurd (cc)

pub gone : (r : Runnable) (rs : List Runnable) → ArePairs IsBehind rs → IsAmong rs r → IsAmong (dropped r rs) r → ⊥
gone r [] order there i = i
gone r (q ∷ qs) order there i = by_test (runs_before q r) refl there i (λ a b. gone r qs order.1 a b)
  where
    by_test : (t : Bool) → runs_before q r ≡ t → IsAmong (q ∷ qs) r → IsAmong (if t then q ∷ dropped r qs else qs) r → (IsAmong qs r → IsAmong (dropped r qs) r → ⊥) → ⊥
    by_test true h (inl e) k rest = let off : runs_before q r ≡ false = ap (runs_before q) (sym e) ∙ not_itself q in absurd (cc)
    by_test true h (inr j) (inl e) rest = let off : runs_before q r ≡ false = ap (runs_before q) (sym e) ∙ not_itself q in absurd (cc)
    by_test true h (inr j) (inr k) rest = rest j k
    by_test false h j k rest =
        let same = first_is r q qs order.0 j h in
        let on = all_among (IsBehind q) qs r order.0 k in
        let off : runs_before q r ≡ false = ap (runs_before q) (sym same) ∙ not_itself q in
        absurd (cc)

pub among_dropped : (r x : Runnable) (rs : List Runnable) → ArePairs IsBehind rs → IsAmong rs r → IsAmong rs x → (x ≡ r → ⊥) → IsAmong (dropped r rs) x
among_dropped r x [] order there i off = i
among_dropped r x (q ∷ qs) order there i off = by_test (runs_before q r) refl there i (λ a b. among_dropped r x qs order.1 a b off)
  where
    by_test : (t : Bool) → runs_before q r ≡ t → IsAmong (q ∷ qs) r → IsAmong (q ∷ qs) x → (IsAmong qs r → IsAmong qs x → IsAmong (dropped r qs) x) → IsAmong (if t then q ∷ dropped r qs else qs) x
    by_test true h (inl e) k rest = let no_more : runs_before q r ≡ false = ap (runs_before q) (sym e) ∙ not_itself q in absurd (cc)
    by_test true h (inr j) (inl e) rest = inl e
    by_test true h (inr j) (inr k) rest = inr (rest j k)
    by_test false h j (inl e) rest = absurd (off (sym e ∙ first_is r q qs order.0 j h))
    by_test false h j (inr k) rest = k

pub length_dropped : (r : Runnable) (rs : List Runnable) → ArePairs IsBehind rs → IsAmong rs r → suc (length (dropped r rs)) ≡ length rs
length_dropped r [] order there = absurd there
length_dropped r (q ∷ qs) order there = by_test (runs_before q r) refl there (λ a. length_dropped r qs order.1 a)
  where
    by_test : (t : Bool) → runs_before q r ≡ t → IsAmong (q ∷ qs) r → (IsAmong qs r → suc (length (dropped r qs)) ≡ length qs) → suc (length (if t then q ∷ dropped r qs else qs)) ≡ suc (length qs)
    by_test true h (inl e) rest = let no_more : runs_before q r ≡ false = ap (runs_before q) (sym e) ∙ not_itself q in absurd (cc)
    by_test true h (inr j) rest = ap (λ n. suc n) (rest j)
    by_test false h j rest = refl
