-- The calls of depots and sinks in memory: what each gives or takes, and what it leaves.
use Rattle.std.specs.Prelude.{◌≡◌, ℕ, ◌-◌, ◌<◌, ◌≤◌, ◌⊎◌, ◌++◌, min, true, false, List, length, take, drop, None, IsSome, Contains}
use Rattle.std.specs.FinMap.{get}
use Rattle.nova_io.specs.Faults.{raised}
use Rattle.nova_io.specs.Files.{bytes_of, appended}
use Rattle.nova_io.specs.Memory.{CallCounts, DepotState, SinkState, after_call, room_of, lowered}

-- the next call of this kind is among those that are to fail
abbrev pub IsToFail : CallCounts → Type 0
IsToFail calls = Contains calls.failing (raised calls.made)

-- a fetch that gave a piece: the bytes from the place on, as many as there are of those that were asked for, and at most as many as one call gives
pub record MemGave (before : DepotState) (name : List ℕ) (at asked : ℕ) (piece : List ℕ) (after : DepotState) : Type 0 where
  pub goes_well : IsToFail before.fetches → ⊥
  pub there : IsSome (get before.files name)
  pub bytes : piece ≡ take (min before.most asked) (drop at (bytes_of before.files name))
  pub left : after ≡ record before { fetches = after_call before.fetches false }

-- a fetch that failed
pub record MemFetchFailed (before : DepotState) (name : List ℕ) (at asked : ℕ) (after : DepotState) : Type 0 where
  pub cause : IsToFail before.fetches ⊎ (get before.files name ≡ None)
  pub left : after ≡ record before { fetches = after_call before.fetches true }

-- an append, which takes the piece, or as much of it as one call takes
pub record MemTook (before : DepotState) (name piece : List ℕ) (count : ℕ) (after : DepotState) : Type 0 where
  pub goes_well : IsToFail before.appends → ⊥
  pub fits : length piece ≤ room_of before.rooms name
  pub much : count ≡ min before.most (length piece)
  pub left : after ≡ record before {
    files = appended before.files name (take count piece);
    rooms = lowered before.rooms name count;
    appends = after_call before.appends false;
  }

-- an append that failed
pub record MemAppendFailed (before : DepotState) (name piece : List ℕ) (after : DepotState) : Type 0 where
  pub cause : IsToFail before.appends ⊎ (room_of before.rooms name < length piece)
  pub left : after ≡ record before { appends = after_call before.appends true }

-- a write, which takes the piece, or as much of it as one call takes
pub record SinkTook (before : SinkState) (piece : List ℕ) (count : ℕ) (after : SinkState) : Type 0 where
  pub goes_well : IsToFail before.writes → ⊥
  pub fits : length piece ≤ before.room
  pub much : count ≡ min before.most (length piece)
  pub left : after ≡ record before { bytes = before.bytes ++ take count piece; room = before.room - count; writes = after_call before.writes false }

-- a write that failed
pub record SinkWriteFailed (before : SinkState) (piece : List ℕ) (after : SinkState) : Type 0 where
  pub cause : IsToFail before.writes ⊎ (before.room < length piece)
  pub left : after ≡ record before { writes = after_call before.writes true }
