-- What an executable is, and the program that it is.
use Rattle.std.specs.Prelude.{◌≡◌, ℕ, ◌+◌, ◌*◌, ◌<◌, ◌≤◌, ◌==◌, Bool, ◌&&◌, ◌||◌, not, is_none, is_ok, true, nat_lt, List, [], ◌∷◌, take, length, slice_index, Option, Some, None, Result, Ok, Err, if◌then◌else◌}
use Rattle.std.specs.Option.{option_or}
use Rattle.std.specs.Str.{bytes_eq}
use Rattle.nova_elf.specs.Fields.{half, word}
use Rattle.nova_elf.specs.Headers.{headers, first_fault_in, segments_of}
use Rattle.nova_elf.specs.declared.fault.ElfFault.{ElfFault}
use Rattle.nova_elf.specs.declared.fault.ElfFault.TheVariants.{NotElf, Class, ByteOrder, Version, NotExec, Machine, Table, Dynamic, Segment, Memory}
use Rattle.nova_elf.specs.declared.program.Program.{Program}

-- the faults of the file header, one after another
abbrev pub is_not_elf : List ℕ → Bool
is_not_elf bytes = nat_lt (length bytes) 52 || not (bytes_eq (take 4 bytes) (127 ∷ 69 ∷ 76 ∷ 70 ∷ []))

abbrev pub has_other_class : List ℕ → Bool
has_other_class bytes = not (slice_index bytes 4 == 1)

abbrev pub has_other_order : List ℕ → Bool
has_other_order bytes = not (slice_index bytes 5 == 1)

abbrev pub has_other_version : List ℕ → Bool
has_other_version bytes = not (slice_index bytes 6 == 1) || not (word bytes 20 == 1)

abbrev pub is_not_exec : List ℕ → Bool
is_not_exec bytes = not (half bytes 16 == 2)

abbrev pub is_for_other_machine : List ℕ → Bool
is_for_other_machine bytes = not (half bytes 18 == 243)

abbrev pub has_bad_table : List ℕ → Bool
has_bad_table bytes =
    nat_lt 0 (half bytes 44) && (half bytes 44 == 65535 || (not (half bytes 42 == 32) || nat_lt (length bytes) (word bytes 28 + 32 * half bytes 44)))

abbrev pub head_fault : List ℕ → Option ElfFault
head_fault bytes =
    if is_not_elf bytes then Some NotElf
    else (if has_other_class bytes then Some Class
    else (if has_other_order bytes then Some ByteOrder
    else (if has_other_version bytes then Some Version
    else (if is_not_exec bytes then Some NotExec
    else (if is_for_other_machine bytes then Some Machine
    else (if has_bad_table bytes then Some Table
    else None))))))

-- the program headers lie within the bytes
abbrev pub HasTable : List ℕ → Type 0
HasTable bytes = (52 ≤ length bytes) × (0 < half bytes 44 → word bytes 28 + 32 * half bytes 44 ≤ length bytes)

-- the first fault of all; bytes without one are an executable
unfoldable pub first_fault : List ℕ → Option ElfFault
first_fault bytes = option_or (head_fault bytes) (first_fault_in (length bytes) 0 (headers bytes))

abbrev pub unless : Option ElfFault → Program → Result Program ElfFault
unless (Some fault) program = Err fault
unless None program = Ok program

-- the program of bytes: its entry is the word at 24, its segments are those of the headers of type 1
unfoldable pub program : List ℕ → Result Program ElfFault
program bytes = unless (first_fault bytes) (record { entry = word bytes 24; segments = segments_of (headers bytes) })

-- what is answered: want of memory only where the bytes are an executable
abbrev pub IsRead : Result Program ElfFault → Result Program ElfFault → Type 0
IsRead wanted (Ok program) = wanted ≡ Ok program
IsRead wanted (Err Memory) = is_ok wanted ≡ true
IsRead wanted (Err fault) = wanted ≡ Err fault
