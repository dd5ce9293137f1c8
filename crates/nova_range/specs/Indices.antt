-- Sorted indices: ranges of one space, of which no two share a place, each with a key.
use Rattle.std.specs.Prelude.{ℕ, ◌≤◌, ◌==◌, ◌&&◌, Bool, not, nat_lt, nat_le, List, [], ◌∷◌, ◌++◌, filter, Option, option_map}
use Rattle.std.specs.List.{All, AllByRecursion, find}
use Rattle.nova_range.specs.declared.index.Entry.{Entry}
use Rattle.nova_range.specs.declared.range.Range.{Range}
use Rattle.nova_range.specs.Ranges.{IsRange, end_of}

abbrev pub key_of : Entry → ℕ
key_of e = e.key

abbrev pub with_range : Entry → Range × ℕ
with_range e = (e.range, e.key)

-- the entry's range has the place
abbrev pub has_place : ℕ → Entry → Bool
has_place place e = nat_le e.range.base place && nat_lt place (end_of e.range)

-- the entry's range has a place at or after `place`
abbrev pub ends_after : ℕ → Entry → Bool
ends_after place e = nat_lt place (end_of e.range)

abbrev pub has_base : ℕ → Entry → Bool
has_base base e = e.range.base == base

-- the key of the range that has the place
abbrev pub key_at : ℕ → List Entry → Option ℕ
key_at place entries = option_map key_of (find (has_place place) entries)

-- the range, with its key, that is first among those that have a place at or after `place`
abbrev pub range_from : ℕ → List Entry → Option (Range × ℕ)
range_from place entries = option_map with_range (find (ends_after place) entries)

-- the key of the range of this base
abbrev pub key_of_base : ℕ → List Entry → Option ℕ
key_of_base base entries = option_map key_of (find (has_base base) entries)

-- one more between those that begin before it and those that do not; and without that of a base
abbrev pub begins_before : Entry → Entry → Bool
begins_before x e = nat_lt e.range.base x.range.base

abbrev pub put_in : Entry → List Entry → List Entry
put_in x entries = filter (begins_before x) entries ++ x ∷ filter (λ e. not (begins_before x e)) entries

abbrev pub taken_out : ℕ → List Entry → List Entry
taken_out base entries = filter (λ e. not (has_base base e)) entries

-- by rising base, and no two share a place: each ends where the later ones begin, or before
abbrev pub IsRising : List Entry → Type 0
IsRising [] = Unit {0}
IsRising (e ∷ es) = AllByRecursion (λ f. end_of e.range ≤ f.range.base) es × IsRising es

pub record IsSorted (entries : List Entry) : Type 0 where
  pub ranges : All (λ e. IsRange e.range) entries
  pub rising : IsRising entries
