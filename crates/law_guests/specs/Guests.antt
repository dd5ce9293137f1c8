-- A virtual CPU in two runs, compared from a place in each on.
use Rattle.std.specs.Prelude.{◌≡◌, ◌++◌, ◌==◌, ℕ, Bool, List, filter, length}
use Rattle.nova_guest.specs.declared.guest.Guest.{Guest}
use Rattle.nova_guest.specs.declared.input.Input.{Input}
use Rattle.nova_model.specs.Boot.{Scenario}
use Rattle.law_isolation.specs.Stretches.{BeginEqual, EndEqual, Stretch, inputs_in}
use Rattle.law_renaming.specs.Verdicts.{Equal, IsVerdict, Verdict}

-- the virtual CPU `g` in a run, from a place in it on
abbrev pub watched : Scenario → List ℕ → ℕ → List ℕ → Stretch
watched scenario before g turns = record { scenario = scenario; before = before; guest = g; turns = turns }

-- it says that two are equal, with `count` inputs on each side
abbrev pub SaysEqual : ℕ → Verdict → Type 0
SaysEqual count (Equal inputs pairs) = inputs ≡ count
SaysEqual count other = ⊥

-- It is one guest in both: its views are equal at the places and at the ends, it has the same inputs and puts out the same, with both qualifications
-- of each exit and every byte, and that is what traces, states and logs show of it. A comparison of the two from the places on, or from equal views
-- before, with equal inputs up to the places, finds them equal, with as many inputs.
pub record AreOneGuest (a b : Stretch) : Type 0 where
  pub begins : BeginEqual a b
  pub ends : EndEqual a b
  pub compares : (start : Guest) (past : List Input) (v : Verdict) → IsVerdict start start (past ++ inputs_in a) (past ++ inputs_in b) v → SaysEqual (length (past ++ inputs_in a)) v

-- one processor alone, and how many of these turns are its
abbrev pub only : ℕ → ℕ → Bool
only cpu n = n == cpu

abbrev pub turns_of : ℕ → List ℕ → ℕ
turns_of cpu turns = length (filter (only cpu) turns)
