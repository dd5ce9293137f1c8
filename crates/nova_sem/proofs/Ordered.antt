-- Those that wait, told one after another along the links.
use Rattle.std.proofs.Common.{◌≡◌, ℕ, zero, suc, ◌<◌, List, [], ◌∷◌, ◌++◌, length, refl, ap, sym, ◌∙◌, arith}
use Rattle.std.specs.Prelude.{true, slice_index}
use Rattle.nova_model.specs.Semaphores.{has}
use Rattle.nova_sem.specs.Links.{linked}

-- one more is told
pub one_told : (links told : List ℕ) (at left next : ℕ) → left ≡ suc next →
    (told ++ at ∷ []) ++ linked links (slice_index links at) next ≡ told ++ linked links at left
one_told links [] at left next one = ap (linked links at) (sym one)
one_told links (t ∷ told) at left next one = ap (λ (rest : List ℕ). t ∷ rest) (one_told links told at left next one)

-- the first of those that are left is among them
pub is_left : (links : List ℕ) (at left next : ℕ) → left ≡ suc next → has (linked links at left) at ≡ true
is_left links at left next one = ap (λ (n : ℕ). has (linked links at n) at) one ∙ grind arith

-- and so are those after it
pub left_after : (links : List ℕ) (at left next x : ℕ) → left ≡ suc next → has (linked links (slice_index links at) next) x ≡ true →
    has (linked links at left) x ≡ true
left_after links at left next x one is = ap (λ (n : ℕ). has (linked links at n) x) one ∙ more x at (linked links (slice_index links at) next) is
  where
    more : (y b : ℕ) (ecs : List ℕ) → has ecs y ≡ true → has (b ∷ ecs) y ≡ true
    more y b ecs h = grind (arith, h)
