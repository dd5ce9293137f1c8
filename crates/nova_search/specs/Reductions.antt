-- A search that expands some states by the turn of one processor alone, where what that turn touches is apart from what turns of other processors touch.
-- What touches are is left open: `touched s cpu t` says that the turn of a processor in a state touches no more than `t`, and `apart p a q b` tells whether
-- a turn of `p` that touches `a` is apart from one of `q` that touches `b`.
use Rattle.std.specs.Prelude.{◌≡◌, ◌⊎◌, ◌≢◌, ℕ, ◌<◌, Bool, true, List, [], ◌∷◌, ◌++◌, length, slice_index_or, All, Contains}
use Rattle.nova_model.specs.State.{KernelState}
use Rattle.nova_model.specs.Runs.{after, run}
use Rattle.nova_search.specs.Merged.{HasOne, IsApt, IsOne, IsOneAt, StaysOne}
use Rattle.nova_search.specs.Searches.{AreProcessors, IsReached}
use Rattle.nova_search.specs.declared.merging.Merging.{Merging}

-- the turn of a processor touches no more than this, and leads from states that are one to states that are one
pub record Touches (T : Type 0) (touched : KernelState → ℕ → T → Type 0) (m : Merging) (s : KernelState) (cpu : ℕ) (t : T) : Type 0 where
  pub touch : touched s cpu t
  pub stays : StaysOne m s cpu

-- Turns touch no more in one of two states that are one than in the other. And where turns of two processors are apart, they may change places: the states
-- after both are one, and neither touches more than it did.
pub record Swaps (T : Type 0) (touched : KernelState → ℕ → T → Type 0) (apart : ℕ → T → ℕ → T → Bool) (m : Merging) : Type 0 where
  pub one : (s t : KernelState) (p : ℕ) (a : T) → IsApt s → IsApt t → IsOne m s t → Touches T touched m s p a → Touches T touched m t p a
  pub state : (s : KernelState) (p q : ℕ) (a b : T) → IsApt s → p ≢ q → Touches T touched m s p a → Touches T touched m (after s p) q b → apart p a q b ≡ true
      → IsOne m (after (after s q) p) (after (after s p) q)
  pub first : (s : KernelState) (p q : ℕ) (a b : T) → IsApt s → p ≢ q → Touches T touched m s p a → Touches T touched m (after s p) q b → apart p a q b ≡ true
      → Touches T touched m (after s q) p a
  pub second : (s : KernelState) (p q : ℕ) (a b : T) → IsApt s → p ≢ q → Touches T touched m s p a → Touches T touched m (after s p) q b → apart p a q b ≡ true
      → Touches T touched m s q b

-- what the turn of a processor touches was noted of that processor
pub record IsNoted (T : Type 0) (touched : KernelState → ℕ → T → Type 0) (noted : ℕ → T → Bool) (m : Merging) (s : KernelState) (cpu : ℕ) : Type 0 where
  pub touch : T
  pub touches : Touches T touched m s cpu touch
  pub is : noted cpu touch ≡ true

-- the turn of each processor below `n` was taken in a state, and noted
pub record IsFull (T : Type 0) (touched : KernelState → ℕ → T → Type 0) (noted : ℕ → T → Bool) (m : Merging) (n : ℕ) (states : List KernelState) (s : KernelState) : Type 0 where
  pub each : (cpu : ℕ) → cpu < n → HasOne m states (after s cpu)
  pub notes : (cpu : ℕ) → cpu < n → IsNoted T touched noted m s cpu

-- the turn of one processor was taken in the state at a place, and noted, also as taken alone; it leads to a state that is one with one at a later place
pub record IsLone (T : Type 0) (touched : KernelState → ℕ → T → Type 0) (noted lone : ℕ → T → Bool) (m : Merging) (n : ℕ) (states : List KernelState) (place : ℕ) (s : KernelState) : Type 0 where
  pub cpu : ℕ
  pub processor : cpu < n
  pub note : IsNoted T touched noted m s cpu
  pub alone : lone cpu note.touch ≡ true
  pub next : ℕ
  pub later : place < next
  pub is : IsOneAt m states next (after s cpu)

-- the state at a place was expanded in one of the two ways
abbrev pub IsTaken : (T : Type 0) → (KernelState → ℕ → T → Type 0) → (ℕ → T → Bool) → (ℕ → T → Bool) → Merging → ℕ → List KernelState → ℕ → KernelState → Type 0
IsTaken T touched noted lone m n states place s = IsFull T touched noted m n states s ⊎ IsLone T touched noted lone m n states place s

-- what was taken alone of a processor is apart from all that was noted of others
abbrev pub AreApart : (T : Type 0) → (ℕ → T → ℕ → T → Bool) → (ℕ → T → Bool) → (ℕ → T → Bool) → Type 0
AreApart T apart noted lone = (p q : ℕ) (a b : T) → p ≢ q → lone p a ≡ true → noted q b ≡ true → apart p a q b ≡ true

-- the states that a search found from `k`: each was expanded, and what was taken alone is apart from the rest
pub record IsReduction (T : Type 0) (touched : KernelState → ℕ → T → Type 0) (apart : ℕ → T → ℕ → T → Bool) (noted lone : ℕ → T → Bool) (m : Merging) (k : KernelState) (states : List KernelState) : Type 0 where
  pub opening : Contains states k
  pub reached : All (IsReached k) states
  pub each : (place : ℕ) (d : KernelState) → place < length states → IsTaken T touched noted lone m k.cpus states place (slice_index_or states place d)
  pub are_apart : AreApart T apart noted lone

-- each turn of an order was noted
abbrev pub AreNoted : (T : Type 0) → (KernelState → ℕ → T → Type 0) → (ℕ → T → Bool) → Merging → KernelState → List ℕ → Type 0
AreNoted T touched noted m s [] = Unit {0}
AreNoted T touched noted m s (cpu ∷ order) = IsNoted T touched noted m s cpu × AreNoted T touched noted m (after s cpu) order

-- each turn of an order was noted, and of some more behind it, which lead to a state that is one with one that was found
pub record IsCovered (T : Type 0) (touched : KernelState → ℕ → T → Type 0) (noted : ℕ → T → Bool) (m : Merging) (n : ℕ) (states : List KernelState) (s : KernelState) (order : List ℕ) : Type 0 where
  pub more : List ℕ
  pub processors : AreProcessors n more
  pub notes : AreNoted T touched noted m s (order ++ more)
  pub there : HasOne m states (run s (order ++ more))

-- no processor has a turn to take
abbrev pub IsStill : ℕ → KernelState → Type 0
IsStill n s = (q : ℕ) → q < n → after s q ≡ s

-- a property of states that no turn undoes, after any order from `k`
pub record IsStable (property : KernelState → Bool) (k : KernelState) : Type 0 where
  pub stays : (order : List ℕ) (cpu : ℕ) → AreProcessors k.cpus order → cpu < k.cpus → property (run k order) ≡ true → property (after (run k order) cpu) ≡ true
