-- A memory of bytes from address 0 on, in which programs run: 512 bytes, of which the first 256 may be executed, all may be read,
-- and the first 128 may not be written.
use Rattle.std.specs.Prelude.{ℕ, zero, suc, ◌+◌, ◌*◌, ◌/◌, ◌%◌, ◌&&◌, Bool, nat_lt, nat_le, List, Option, Some, None, if◌then◌else◌, slice_index, slice_set}
use Rattle.rv_model.specs.Step.{Store}

-- the number in `width` bytes, of which the first is the lowest
abbrev pub number_at : List ℕ → ℕ → ℕ → ℕ
number_at bytes address zero = 0
number_at bytes address (suc width) = slice_index bytes address + number_at bytes (address + 1) width * 256

-- the bytes with `number` put into `width` of them
abbrev pub with_number : List ℕ → ℕ → ℕ → ℕ → List ℕ
with_number bytes address zero number = bytes
with_number bytes address (suc width) number = with_number (slice_set bytes address (number % 256)) (address + 1) width (number / 256)

abbrev pub fetched : List ℕ → ℕ → Option ℕ
fetched bytes address = if nat_lt address 256 then Some (number_at bytes address 4) else None

abbrev pub loaded : List ℕ → ℕ → ℕ → Option ℕ
loaded bytes address width = if nat_lt address 512 then Some (number_at bytes address width) else None

abbrev pub takes : List ℕ → ℕ → ℕ → Bool
takes bytes address width = nat_le 128 address && nat_lt address 512

abbrev pub stored : Store → List ℕ → List ℕ
stored store bytes = with_number bytes store.address store.width store.value
