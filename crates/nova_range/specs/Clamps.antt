-- Clamps: where a range that is sent and the window that takes it are of different sizes, a number called the hotspot says which
-- part of the larger goes with the smaller.
use Rattle.std.specs.Prelude.{◌≡◌, ℕ, ◌+◌, ◌-◌, ◌/◌, ◌%◌, ◌^◌, nat_lt, min, if◌then◌else◌}
use Rattle.nova_range.specs.Ranges.{IsRange, IsWithin}
use Rattle.nova_range.specs.declared.range.Range.{Range}
use Rattle.nova_range.specs.declared.clamped.Clamped.{Clamped}

-- the order of both parts: the smaller
abbrev pub common_order : Range → Range → ℕ
common_order sent window = min sent.order window.order

-- the base of a part of order `low`: of a range of greater order, bits `low` to `order - 1` are taken from the hotspot; else it stays
abbrev pub part_base : ℕ → ℕ → ℕ → ℕ → ℕ
part_base base order low hotspot =
    if nat_lt low order then base + hotspot % 2 ^ order - hotspot % 2 ^ low else base

abbrev pub clamp_of : Range → Range → ℕ → Clamped
clamp_of sent window hotspot =
    let low = common_order sent window in
    record {
      source = part_base sent.base sent.order low hotspot;
      dest = part_base window.base window.order low hotspot;
      order = low;
    }

-- a part of a range: a range of this base and order whose places are all the range's
pub record IsPart (r : Range) (base order : ℕ) : Type 0 where
  pub range : IsRange (record { kind = r.kind; base = base; order = order })
  pub within : IsWithin (record { kind = r.kind; base = base; order = order }) r

-- both parts are of one order, one of the range that is sent and the other of the window
pub record IsClamped (sent window : Range) (c : Clamped) : Type 0 where
  pub source : IsPart sent c.source c.order
  pub dest : IsPart window c.dest c.order

-- the bits of a part's base: those from `order` on are the range's, those from `low` on below them the hotspot's, the others 0
pub record TakesBits (base order low hotspot part : ℕ) : Type 0 where
  pub above : part / 2 ^ order ≡ base / 2 ^ order
  pub taken : part / 2 ^ low % 2 ^ (order - low) ≡ hotspot / 2 ^ low % 2 ^ (order - low)
  pub below : part % 2 ^ low ≡ 0
