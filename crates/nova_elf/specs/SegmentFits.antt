-- What every segment keeps.
use Rattle.std.specs.Prelude.{ℕ, ◌+◌, ◌^◌, ◌≤◌}
use Rattle.nova_elf.specs.declared.program.Segment.{Segment}

-- its bytes lie within the executable's, and its memory has room for them and ends within the addresses
pub record SegmentFits (len : ℕ) (s : Segment) : Type 0 where
  pub within : s.offset + s.file ≤ len
  pub room : s.file ≤ s.memory
  pub addresses : s.address + s.memory ≤ 2 ^ 32
