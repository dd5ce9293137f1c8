-- The fetches of one file.
use Rattle.std.specs.Prelude.{◌⊎◌, ℕ, ◌+◌, ◌≤◌, Bool, true, false, List, length}
use Rattle.nova_io.specs.Faults.{OthersStay}
use Rattle.nova_io.specs.Fetched.{Came, CameWhole, CameInPart}
use Rattle.nova_io.specs.Outside.{Depots}

-- bytes that came by fetches of a name, each from the place after the bytes before it. Where these failed, the last of them did.
abbrev pub CameBy : {D : Type 0} → Bool → Depots D → List ℕ → D → List ℕ → D → Type 0
CameBy true d name old bytes new = CameInPart d.gave d.fetch_failed name old bytes new
CameBy false d name old bytes new = Came d.gave name old bytes new ⊎ CameWhole d.gave name old bytes new

-- fetches of one name alone, which failed or did not: no byte comes after the first one too many, and no other name's count changes
pub record IsFetched {D : Type 0} (d : Depots D) (most : ℕ) (name : List ℕ) (failed : Bool) (old new : D) : Type 0 where
  pub bytes : List ℕ
  pub few : length bytes ≤ most + 1
  pub came : CameBy failed d name old bytes new
  pub others : OthersStay d.fetch_faults name old new
