-- Memory: frames of 4,096 bytes, and what was stored to the consoles. A frame that is no RAM is a console.
use Rattle.std.specs.Prelude.{ℕ, ◌-◌, ◌%◌, ◌==◌, List, [], ◌∷◌, ◌++◌, length, slice_get, slice_set, Option, Some, None, if◌then◌else◌}
use Rattle.nova_model.specs.Numbers.{FrameNumber}
use Rattle.byteorder.specs.Endian.{little_bytes}
use Rattle.nova_guest.specs.Frames.{read_in, replaced}
use Rattle.nova_model.specs.declared.log.LogByte.{LogByte}

-- the bytes of each RAM frame, and the bytes stored to the consoles, in order
pub record Memory : Type 0 where
  pub ram : List (List ℕ)
  pub log : List LogByte

abbrev pub read : Memory → FrameNumber → ℕ → ℕ → ℕ
read m frame offset width = read_in (slice_get m.ram frame) offset width

-- what a store to a console enters in the log: its low byte, at offset 0 alone
abbrev pub logged : ℕ → ℕ → ℕ → List LogByte
logged console offset value = if offset == 0 then record { console = console; value = value % 256 } ∷ [] else []

abbrev pub written_in : Memory → Option (List ℕ) → FrameNumber → ℕ → ℕ → ℕ → Memory
written_in m (Some bytes) frame offset width value =
    record m { ram = slice_set m.ram frame (replaced bytes offset (little_bytes width value)) }
written_in m None frame offset width value = record m { log = m.log ++ logged (frame - length m.ram) offset value }

-- the memory after a store of the lowest bytes of a value
abbrev pub written : Memory → FrameNumber → ℕ → ℕ → ℕ → Memory
written m frame offset width value = written_in m (slice_get m.ram frame) frame offset width value
