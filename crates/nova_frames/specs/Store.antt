-- What a caller sees of the frames.
use Rattle.std.specs.Prelude.{◌≡◌, ◌≢◌, ℕ, ◌+◌, ◌-◌, ◌%◌, ◌<◌, ◌≤◌, ◌⊎◌, List, [], ◌∷◌, ◌++◌, length}
use Rattle.std.specs.List.{All}
use Rattle.nova_model.specs.Memory.{Memory}

-- the memory, how many consoles it has, and how many more bytes its log takes
pub record FrameStore : Type 0 where
  pub memory : Memory
  pub consoles : ℕ
  pub room : ℕ

-- each frame has its 4,096 bytes
abbrev pub AreWhole : List (List ℕ) → Type 0
AreWhole frames = All (λ bytes. length bytes ≡ 4096) frames

-- two places, each a frame, an offset and a count of bytes, have no byte in common: they lie in two frames, or one ends before the other begins
abbrev pub AreApart : ℕ → ℕ → ℕ → ℕ → ℕ → ℕ → Type 0
AreApart frame offset width other place count = (other ≢ frame) ⊎ ((place + count ≤ offset) ⊎ (offset + width ≤ place))

-- The log grows by stores to consoles alone: a store to RAM leaves it, one to a console at another offset than 0 changes
-- nothing, and one at offset 0 enters its low byte at the log's end, in a place of the room.
pub record GrowsByConsoles (old new : FrameStore) (frame offset value : ℕ) : Type 0 where
  pub ram : frame < length old.memory.ram → new.memory.log ≡ old.memory.log
  pub elsewhere : length old.memory.ram ≤ frame → 0 < offset → new ≡ old
  pub entered : length old.memory.ram ≤ frame → offset ≡ 0 → new ≡ record old {
    memory = record old.memory { log = old.memory.log ++ record { console = frame - length old.memory.ram; value = value % 256 } ∷ [] };
    room = old.room - 1;
  }
