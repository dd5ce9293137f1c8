-- Memory as a list of its bytes, of which the first has the address START. A number has its lowest byte first.
use Rattle.std.specs.Prelude.{ℕ, ◌+◌, ◌-◌, ◌*◌, ◌&&◌, Bool, nat_lt, nat_le, List, length, ◌++◌, take, drop, replicate, slice_range, Option, Some, None, option_map, is_some, if◌then◌else◌}
use Rattle.std.specs.Int.{w32, from_le_bytes, to_le_bytes}
use Rattle.std.specs.List.{flat_map}
use Rattle.rv_model.specs.Step.{Space, Store}
use Rattle.vectors_runs.specs.declared.memory.TheConstants.{START, SIZE}

-- the words of a program with zeros after them
abbrev pub memory_with : List ℕ → List ℕ
memory_with program = flat_map (to_le_bytes w32) program ++ replicate (SIZE - 4 * length program) 0

-- where the byte at an address stands, or nothing
abbrev pub offset_of : ℕ → Option ℕ
offset_of address = if nat_le START address && nat_lt address (START + SIZE) then Some (address - START) else None

-- the number in `width` bytes
abbrev pub loaded : List ℕ → ℕ → ℕ → Option ℕ
loaded bytes address width = option_map (λ at. from_le_bytes w32 (slice_range bytes at (at + width))) (offset_of address)

abbrev pub fetched : List ℕ → ℕ → Option ℕ
fetched bytes address = loaded bytes address 4

abbrev pub takes : List ℕ → ℕ → ℕ → Bool
takes bytes address width = is_some (offset_of address)

-- the bytes with others put in the place of those from `at` on
abbrev pub with_bytes : List ℕ → ℕ → List ℕ → List ℕ
with_bytes bytes at put = take at bytes ++ (put ++ drop (at + length put) bytes)

abbrev pub stored : Store → List ℕ → List ℕ
stored store bytes = with_bytes bytes (store.address - START) (take store.width (to_le_bytes w32 store.value))

abbrev pub space : List ℕ → Space
space bytes = record { fetch = fetched bytes; load = loaded bytes; takes = takes bytes }
