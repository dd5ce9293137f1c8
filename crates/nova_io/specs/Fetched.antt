-- What fetches give.
use Rattle.std.specs.Prelude.{◌≡◌, ℕ, ◌+◌, ◌<◌, ◌≤◌, ◌⊎◌, Bool, true, false, List, [], ◌++◌, length, drop, Option, IfSome, IsSome, Result, Ok, Err}
use Rattle.std.specs.FinMap.{get}
use Rattle.std.specs.Io.{StartsWith}
use Rattle.nova_io.specs.Faults.{NeverFalls, Stay, OthersStay}
use Rattle.nova_io.specs.Files.{Files, bytes_of}
use Rattle.nova_io.specs.declared.faults.FetchFault.{FetchFault}
use Rattle.nova_io.specs.declared.faults.FetchFault.TheVariants.{Failed, TooLong, Memory}

-- a piece of the bytes from the place on, empty only at their end or where none was asked for
pub record IsPiece (bytes : List ℕ) (at asked : ℕ) (piece : List ℕ) : Type 0 where
  pub follows : StartsWith (drop at bytes) piece
  pub empty : piece ≡ [] → (asked ≡ 0) ⊎ (length bytes ≤ at)

-- a fetch: the depot before it, the name, the place, how many bytes were asked for, the piece that it gave, and the
-- depot after it
abbrev pub Gave : Type 0 → Type 1
Gave D = D → List ℕ → ℕ → ℕ → List ℕ → D → Type 0

-- a fetch that failed: the depot before it, the name, the place, how many bytes were asked for, and the depot after it
abbrev pub FetchFailed : Type 0 → Type 1
FetchFailed D = D → List ℕ → ℕ → ℕ → D → Type 0

-- the bytes that came by fetches of a name one after the other, each from the place after the bytes before it; each
-- fetch gave some bytes, and no more than it was asked for
pub data Came {D : Type 0} (gave : Gave D) (name : List ℕ) (first : D) : List ℕ → D → Type 0 where
  Nothing : Came gave name first [] first
  Piece : (bytes piece : List ℕ) (asked : ℕ) (between last : D) → Came gave name first bytes between → 0 < length piece → length piece ≤ asked → gave between name (length bytes) asked piece last → Came gave name first (bytes ++ piece) last

-- bytes that came, and then a fetch that was asked for some gave none
abbrev pub CameWhole : {D : Type 0} → Gave D → List ℕ → D → List ℕ → D → Type 0
CameWhole {D} gave name first bytes last = (between : D) × (asked : ℕ) × Came gave name first bytes between × (0 < asked) × gave between name (length bytes) asked [] last

-- bytes that came, and then a fetch that was asked for more failed
abbrev pub CameInPart : {D : Type 0} → Gave D → FetchFailed D → List ℕ → D → List ℕ → D → Type 0
CameInPart {D} gave failed name first bytes last = (between : D) × (asked : ℕ) × Came gave name first bytes between × (0 < asked) × failed between name (length bytes) asked last

-- a fetch of some bytes from the place after those that came, of no more than may come and one, gave this piece
pub record IsNextPiece {D : Type 0} (gave : Gave D) (files : Option Files) (name : List ℕ) (most : ℕ) (before : D) (bytes piece : List ℕ) (after : D) : Type 0 where
  pub asked : ℕ
  pub some : 0 < asked
  pub few : length bytes + asked ≤ most + 1
  pub within : length piece ≤ asked
  pub given : gave before name (length bytes) asked piece after
  pub told : IfSome files (λ held. IsSome (get held name) × IsPiece (bytes_of held name) (length bytes) asked piece)

-- the bytes that came and then one more fetch: a piece came behind them, or none, or the fetch failed, or memory was refused for a piece
abbrev pub IsNext : {D : Type 0} → Gave D → FetchFailed D → Option Files → List ℕ → ℕ → D → List ℕ → D → List ℕ → Result Bool FetchFault → Type 0
IsNext gave failed files name most before bytes after new (Ok true) = (piece : List ℕ) × IsNextPiece gave files name most before bytes piece after × (0 < length piece) × (new ≡ bytes ++ piece)
IsNext gave failed files name most before bytes after new (Ok false) = IsNextPiece gave files name most before bytes [] after × (new ≡ bytes)
IsNext gave failed files name most before bytes after new (Err Failed) = (asked : ℕ) × (0 < asked) × failed before name (length bytes) asked after
IsNext gave failed files name most before bytes after new (Err TooLong) = ⊥
IsNext gave failed files name most before bytes after new (Err Memory) = (piece : List ℕ) × IsNextPiece gave files name most before bytes piece after × (0 < length piece)

-- fetches of a name leave the files, and all counts but that of its fetches that failed
pub record OnlyFetched {D : Type 0} (files : D → Option Files) (fetch_faults append_faults : D → List ℕ → ℕ) (name : List ℕ) (before after : D) : Type 0 where
  pub same : files after ≡ files before
  pub fetches : NeverFalls (fetch_faults before) (fetch_faults after)
  pub others : OthersStay fetch_faults name before after
  pub appends : Stay (append_faults before) (append_faults after)
