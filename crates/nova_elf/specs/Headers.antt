-- The program headers.
use Rattle.std.specs.Prelude.{ℕ, zero, suc, ◌+◌, ◌*◌, ◌^◌, ◌==◌, Bool, ◌&&◌, ◌||◌, nat_lt, List, [], ◌∷◌, map, filter, Option, Some, None, if◌then◌else◌}
use Rattle.nova_elf.specs.Fields.{half, word}
use Rattle.nova_elf.specs.declared.fault.ElfFault.{ElfFault}
use Rattle.nova_elf.specs.declared.fault.ElfFault.TheVariants.{Dynamic, Segment as BadSegment}
use Rattle.nova_elf.specs.declared.header.Header.{Header}
use Rattle.nova_elf.specs.declared.program.Segment.{Segment}

-- the header at a place: type, offset, address, physical address, file size, memory size, flags, alignment
abbrev pub header_at : List ℕ → ℕ → Header
header_at bytes place = record {
  kind = word bytes place;
  offset = word bytes (place + 4);
  address = word bytes (place + 8);
  file = word bytes (place + 16);
  memory = word bytes (place + 20);
}

-- as many headers as the number says from `place` on, each of 32 bytes
abbrev pub headers_from : List ℕ → ℕ → ℕ → List Header
headers_from bytes place zero = []
headers_from bytes place (suc n) = header_at bytes place ∷ headers_from bytes (place + 32) n

-- the headers of an executable: their place is the word at 28, their number the half word at 44
abbrev pub headers : List ℕ → List Header
headers bytes = headers_from bytes (word bytes 28) (half bytes 44)

-- the header of a number
abbrev pub header_of : List ℕ → ℕ → Header
header_of bytes i = header_at bytes (word bytes 28 + 32 * i)

-- type 2 has what a dynamic linker is to do, type 3 the name of one
abbrev pub is_dynamic : Header → Bool
is_dynamic h = h.kind == 2 || h.kind == 3

-- type 1 has a segment
abbrev pub is_loaded : Header → Bool
is_loaded h = h.kind == 1

-- a segment that reaches past `len` bytes, has less memory than bytes, or reaches past the last address
abbrev pub has_bad_segment : ℕ → Header → Bool
has_bad_segment len h = is_loaded h && (nat_lt len (h.offset + h.file) || (nat_lt h.memory h.file || nat_lt (2 ^ 32) (h.address + h.memory)))

-- the fault of the header of a number
abbrev pub fault_in : ℕ → ℕ → Header → Option ElfFault
fault_in len i h = if is_dynamic h then Some (Dynamic i) else (if has_bad_segment len h then Some (BadSegment i) else None)

-- the first fault of headers, of which the first has the number i
abbrev pub or_later : Option ElfFault → Option ElfFault → Option ElfFault
or_later (Some fault) later = Some fault
or_later None later = later

abbrev pub first_fault_in : ℕ → ℕ → List Header → Option ElfFault
first_fault_in len i [] = None
first_fault_in len i (h ∷ hs) = or_later (fault_in len i h) (first_fault_in len (i + 1) hs)

abbrev pub segment_of : Header → Segment
segment_of h = record { address = h.address; offset = h.offset; file = h.file; memory = h.memory }

-- the segments of headers, in order
abbrev pub segments_of : List Header → List Segment
segments_of hs = map segment_of (filter is_loaded hs)
