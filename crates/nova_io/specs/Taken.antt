-- What appends and writes take.
use Rattle.std.specs.Prelude.{ℕ, ◌+◌, ◌<◌, List, length, drop}

-- a piece that was offered: the taker before it, the piece, how many of its bytes were taken, and the taker after it
abbrev pub Took : Type 0 → Type 1
Took T = T → List ℕ → ℕ → T → Type 0

-- a piece that was offered, and failed: the taker before it, the piece, and the taker after it
abbrev pub TakeFailed : Type 0 → Type 1
TakeFailed T = T → List ℕ → T → Type 0

-- the same for a name's file
abbrev pub TookFor : Type 0 → Type 1
TookFor T = T → List ℕ → List ℕ → ℕ → T → Type 0

abbrev pub TakeFailedFor : Type 0 → Type 1
TakeFailedFor T = T → List ℕ → List ℕ → T → Type 0

-- as many of `bytes` as the number says were taken, in pieces one after the other: each time all the rest was offered, and some was taken
pub data Went {T : Type 0} (took : Took T) (bytes : List ℕ) (first : T) : ℕ → T → Type 0 where
  Nothing : Went took bytes first 0 first
  Piece : (done count : ℕ) (between last : T) → Went took bytes first done between → 0 < count → took between (drop done bytes) count last → Went took bytes first (done + count) last

-- all of the bytes were taken
abbrev pub WentWhole : {T : Type 0} → Took T → List ℕ → T → T → Type 0
WentWhole took bytes first last = Went took bytes first (length bytes) last

-- not all of the bytes were taken, and then the rest failed
abbrev pub WentInPart : {T : Type 0} → Took T → TakeFailed T → List ℕ → T → T → Type 0
WentInPart {T} took failed bytes first last = (between : T) × (done : ℕ) × (done < length bytes) × Went took bytes first done between × failed between (drop done bytes) last
