-- Numbers in bytes, the lowest byte first.
use Rattle.std.specs.Prelude.{ℕ, List, drop}
use Rattle.byteorder.specs.Endian.{little_number}

-- the number in the two bytes at a place, and in the four
unfoldable pub half : List ℕ → ℕ → ℕ
half bytes place = little_number 2 (drop place bytes)

unfoldable pub word : List ℕ → ℕ → ℕ
word bytes place = little_number 4 (drop place bytes)
