-- What a reply tells a guest: no more than the groups that it names.
use Rattle.std.specs.Prelude.{◌≡◌, ◌<◌, ◌≤◌, ◌+◌, ℕ, false, bit_and, List, length, slice_index}
use Rattle.nova_guest.specs.declared.input.Input.{Input}
use Rattle.nova_guest.specs.declared.input.Input.TheVariants.{Reply}
use Rattle.nova_range.specs.Mtds.{names}
use Rattle.nova_range.specs.declared.mtd.Mtd.{Mtd}
use Rattle.nova_range.specs.declared.mtd.TheConstants.Mtd.{PC, LOW, HIGH}

-- No group but pc, x1 to x15 and x16 to x31 is named. The words are pc, a word that is 0, and x1 to x31; those of a group that isn't named are 0.
pub record IsMasked (mtd : Mtd) (words : List ℕ) : Type 0 where
  pub groups : bit_and mtd.0 14 ≡ mtd.0
  pub count : length words ≡ 33
  pub pc : names mtd PC ≡ false → slice_index words 0 ≡ 0
  pub unused : slice_index words 1 ≡ 0
  pub low : names mtd LOW ≡ false → (x : ℕ) → 1 ≤ x → x < 16 → slice_index words (x + 1) ≡ 0
  pub high : names mtd HIGH ≡ false → (x : ℕ) → 16 ≤ x → x < 32 → slice_index words (x + 1) ≡ 0

abbrev pub IsMaskedIn : Input → Type 0
IsMaskedIn (Reply mtd words) = IsMasked mtd words
IsMaskedIn other = Unit {0}
