-- Stir counts of virtual CPUs, by the number of the object, and the numbers that have one.
use Rattle.std.specs.Prelude.{ℕ, ◌+◌, ◌==◌, Bool, true, false, List, [], ◌∷◌, slice_get, slice_set, Option, Some, None, option_map}
use Rattle.nova_model.specs.State.{entry}

-- an entry for each object, and room for `spare` more
pub record StirTable : Type 0 where
  pub counts : List (Option ℕ)
  pub spare : ℕ

-- the stir count of a virtual CPU
abbrev pub count_in : Option ℕ → ℕ
count_in (Some count) = count
count_in None = 0

-- the numbers that have a count, rising, of the entries from number n on
abbrev pub numbers_from : ℕ → List (Option ℕ) → List ℕ
numbers_from n [] = []
numbers_from n (None ∷ counts) = numbers_from (n + 1) counts
numbers_from n (Some count ∷ counts) = n ∷ numbers_from (n + 1) counts

-- the counts of some numbers rise
abbrev pub risen : Bool → ℕ → ℕ
risen true count = count + 1
risen false count = count

abbrev pub risen_from : (ℕ → Bool) → ℕ → List (Option ℕ) → List (Option ℕ)
risen_from stirs g [] = []
risen_from stirs g (count ∷ counts) = option_map (risen (stirs g)) count ∷ risen_from stirs (g + 1) counts

-- the count of one number rises
abbrev pub risen_at : ℕ → List (Option ℕ) → List (Option ℕ)
risen_at g counts = risen_from (λ n. n == g) 0 counts

-- the count of `g` rises by `n`
abbrev pub risen_by_in : ℕ → ℕ → List (Option ℕ) → Option ℕ → List (Option ℕ)
risen_by_in g n counts (Some count) = slice_set counts g (Some (count + n))
risen_by_in g n counts None = counts

abbrev pub risen_by : ℕ → ℕ → List (Option ℕ) → List (Option ℕ)
risen_by g n counts = risen_by_in g n counts (entry (slice_get counts g))
