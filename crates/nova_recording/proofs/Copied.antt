-- States that are kept are among those that were kept, or new; and what they take together.
use Rattle.std.proofs.Common.{ℕ, List, ◌≡◌, ◌*◌, ◌/◌, ◌<◌, ◌≤◌, length, sym, subst, take, swap, [], ◌∷◌, inl, inr, arith}
use Rattle.std.specs.Prelude.{Contains, All}
use Rattle.std.proofs.lemmas.List.Elements.{All-nil, All-push, All-set, All-take, All-get_or, All-weaker, All-contains, All-contains_itself}
use Rattle.nova_model.specs.State.{KernelState}
use Rattle.nova_model.specs.declared.event.Event.{Event}
use Rattle.nova_recording.specs.declared.copies.Kept.{Kept}
use Rattle.std.proofs.lemmas.List.Sums.{sum_by-le}
use Rattle.nova_recording.specs.Copies.{AreAmong, AreNoLarger, CopiesView, IsMore, size_of, sizes_of}
use Rattle.nova_recording.specs.Recordings.{IsKept}

pub all_among : (xs : List Kept) → AreAmong xs xs
all_among xs = record { each = All-contains_itself xs }

swapped : (all xs : List Kept) (i j : ℕ) → i < length xs → j < length xs → All (Contains all) xs → All (Contains all) (swap xs i j)
swapped all [] i j less last are = are
swapped all (x ∷ xs) i j less last are =
    All-set (Contains all) _ j _ (All-get_or (Contains all) (x ∷ xs) i x less are)
    (All-set (Contains all) (x ∷ xs) i _ (All-get_or (Contains all) (x ∷ xs) j x last are) are)

pub swapped_among : (all xs ys : List Kept) (i j : ℕ) → AreAmong xs all → ys ≡ swap xs i j → i < length xs → j < length xs → AreAmong ys all
swapped_among all xs ys i j are is less last = record { each = subst (λ zs. All (Contains all) zs) (sym is) (swapped all xs i j less last are.each) }

pub taken_among : (all xs ys : List Kept) (n : ℕ) → AreAmong xs all → ys ≡ take n xs → AreAmong ys all
taken_among all xs ys n are is = record { each = subst (λ zs. All (Contains all) zs) (sym is) (All-take (Contains all) n xs are.each) }

pub none_among : (all xs : List Kept) → xs ≡ [] → AreAmong xs all
none_among all xs is = record { each = subst (λ zs. All (Contains all) zs) (sym is) (All-nil (Contains all)) }

pub among_those : (some all more : List Kept) → AreAmong some all → AreAmong all more → AreAmong some more
among_those some all more are those = record { each = All-weaker (Contains all) (Contains more) (λ x is. All-contains (Contains more) all x those.each is) some are.each }

-- so each of them is the state of its own turn
pub some_kept : (k : KernelState) (events : List Event) (some all : List Kept) → AreAmong some all → All (IsKept k events) all → All (IsKept k events) some
some_kept k events some all are each = All-weaker (Contains all) (IsKept k events) (λ x is. All-contains (IsKept k events) all x each is) some are.each

pub more_kept : (k : KernelState) (events : List Event) (old new : List Kept) (x : Kept) → IsMore old x new → All (IsKept k events) old → IsKept k events x
    → All (IsKept k events) new
more_kept k events old new x (inl same) each is = subst (λ xs. All (IsKept k events) xs) (sym same) each
more_kept k events old new x (inr more) each is = subst (λ xs. All (IsKept k events) xs) (sym more) (All-push (IsKept k events) old x each is)

pub none_kept : (k : KernelState) (events : List Event) (xs : List Kept) → xs ≡ [] → All (IsKept k events) xs
none_kept k events xs none = subst (λ ys. All (IsKept k events) ys) (sym none) (All-nil (IsKept k events))

-- what they take

pub none_larger : (each : ℕ) (xs : List Kept) → xs ≡ [] → AreNoLarger each xs
none_larger each xs none = record { all = subst (λ ys. All (λ (x : Kept). size_of x.kernel.state ≤ each) ys) (sym none) (All-nil (λ (x : Kept). size_of x.kernel.state ≤ each)) }

pub none_within : (c : CopiesView) → c ≡ record { kept = []; most = 0; each = 1 } → sizes_of c.kept ≤ c.most
none_within c none = subst (λ (d : CopiesView). sizes_of d.kept ≤ d.most) (sym none) (omega arith)

-- some of them, where one may take more
pub some_no_larger : (each larger : ℕ) (some all : List Kept) → each ≤ larger → AreAmong some all → AreNoLarger each all → AreNoLarger larger some
some_no_larger each larger some all more are those = record {
  all = All-weaker (Contains all) (λ (x : Kept). size_of x.kernel.state ≤ larger)
      (λ x is. let few = All-contains (λ (x : Kept). size_of x.kernel.state ≤ each) all x those.all is in omega (arith, few, more)) some are.each;
}

-- and one more
pub more_no_larger : (each : ℕ) (old new : List Kept) (x : Kept) → IsMore old x new → size_of x.kernel.state ≤ each → AreNoLarger each old → AreNoLarger each new
more_no_larger each old new x (inl same) few those = record { all = subst (λ xs. All (λ (x : Kept). size_of x.kernel.state ≤ each) xs) (sym same) those.all }
more_no_larger each old new x (inr more) few those = record {
  all = subst (λ xs. All (λ (x : Kept). size_of x.kernel.state ≤ each) xs) (sym more) (All-push (λ (x : Kept). size_of x.kernel.state ≤ each) old x those.all few);
}

-- as many as fit at `each` bytes take no more than there is
pub within_most : (each most : ℕ) (xs : List Kept) → 0 < each → length xs ≤ most / each → AreNoLarger each xs → sizes_of xs ≤ most
within_most each most xs some few those =
    let sum = sum_by-le (λ (x : Kept). size_of x.kernel.state) each xs those.all in
    fits each most (length xs) (sizes_of xs) some few sum
  where
    fits : (each most n sum : ℕ) → 0 < each → n ≤ most / each → sum ≤ n * each → sum ≤ most
    fits each most n sum some few less = grind (arith, some, few, less)
