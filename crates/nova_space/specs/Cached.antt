-- What is remembered of an index: some of its ranges, with their keys.
use Rattle.std.specs.Prelude.{◌≡◌, ◌==◌, ◌&&◌, ℕ, Bool, nat_lt, nat_le, length, List, [], ◌∷◌, ◌++◌, drop, if◌then◌else◌, Option, Some, None}
use Rattle.std.specs.List.{AllByRecursion}
use Rattle.nova_range.specs.declared.index.Entry.{Entry}
use Rattle.nova_range.specs.Ranges.{end_of}
use Rattle.nova_range.specs.Indices.{has_base}
use Rattle.nova_range.specs.Members.{IsIn}
use Rattle.nova_space.specs.declared.cache.Place.{Place}
use Rattle.nova_space.specs.declared.cache.TheConstants.{SIZE}

abbrev pub key_of_place : Place → ℕ
key_of_place p = p.key

-- the range has the place, and the range begins at the base
abbrev pub spans : ℕ → Place → Bool
spans place p = nat_le p.base place && nat_lt place p.end

abbrev pub begins_at : ℕ → Place → Bool
begins_at base p = p.base == base

-- one more at the end; where all are taken the first goes
abbrev pub noted : Place → List Place → List Place
noted p ps = (if length ps == SIZE then drop 1 ps else ps) ++ p ∷ []

-- as an entry is remembered
abbrev pub place_of : Entry → Place
place_of e = record { base = e.range.base; end = end_of e.range; key = e.key }

-- what is remembered is there
pub record IsOf (entries : List Entry) (p : Place) : Type 0 where
  pub of : Entry
  pub there : IsIn entries of
  pub is : place_of of ≡ p

abbrev pub AreOf : List Entry → List Place → Type 0
AreOf entries ps = AllByRecursion (IsOf entries) ps

-- entries by rising base, and for how many more there is room
pub record SpaceState : Type 0 where
  pub entries : List Entry
  pub spare : ℕ

abbrev pub is_below : ℕ → Entry → Bool
is_below base e = nat_lt e.range.base base

-- what stands somewhere, if it is of this base
abbrev pub of_base : ℕ → Option Entry → Option Entry
of_base base None = None
of_base base (Some e) = if has_base base e then Some e else None
