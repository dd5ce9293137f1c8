-- Ranges: which places they have, and where two of them meet. A place is the number of a page in a memory space or of a selector
-- in an object space. Which space is meant is said by the kind, beside the places.
use Rattle.std.specs.Prelude.{◌≡◌, ◌<◌, ◌≤◌, ℕ, ◌+◌, ◌%◌, ◌^◌, ◌&&◌, Bool, nat_lt, nat_le}
use Rattle.nova_range.specs.declared.range.Range.{Range}

-- a range: its order is at most 20, and its base is a multiple of 2 to the power of the order, below 2^20
pub record IsRange (r : Range) : Type 0 where
  pub order : r.order ≤ 20
  pub aligned : r.base % 2 ^ r.order ≡ 0
  pub base : r.base < 2 ^ 20

-- the first place after a range
abbrev pub end_of : Range → ℕ
end_of r = r.base + 2 ^ r.order

-- the place is one of the range's
pub record HasPlace (r : Range) (place : ℕ) : Type 0 where
  pub from_base : r.base ≤ place
  pub before_end : place < end_of r

-- some place is one of both
abbrev pub SharesPlace : Range → Range → Type 0
SharesPlace a b = (place : ℕ) × (HasPlace a place × HasPlace b place)

-- each place of the first is one of the second
abbrev pub IsWithin : Range → Range → Type 0
IsWithin a b = (place : ℕ) → HasPlace a place → HasPlace b place

-- the test of a shared place: each begins before the other ends
abbrev pub overlaps : Range → Range → Bool
overlaps a b = nat_lt a.base (end_of b) && nat_lt b.base (end_of a)

-- the test of all places
abbrev pub is_inside : Range → Range → Bool
is_inside a b = nat_le b.base a.base && nat_le (end_of a) (end_of b)
