-- What a seat knows of the order of turns, and how a turn changes that.
use Rattle.std.specs.Prelude.{◌≡◌, ℕ, ◌+◌, ◌-◌, ◌<◌, ◌≤◌, List, length, slice_get, Some}
use Rattle.nova_lock.specs.History.{entries}
use Rattle.nova_lock.specs.Seats.{SeatView}
use Rattle.nova_shared.specs.Ran.{Ran}
use Rattle.nova_shared.specs.declared.shared_run.SharedTurn.{SharedTurn}
use Rattle.nova_shared.specs.declared.shared_run.SharedTurn.TheVariants.{Stepped, Idle, AtLimit}

-- how many turns of all processors its last turn saw, its own included
abbrev pub seen : SeatView Ran → ℕ
seen s = length s.front

-- how many turns of its processor there were
abbrev pub mine : SeatView Ran → ℕ
mine s = entries s.number s.front

-- turn n of an order, counted from 1, is of this processor
abbrev pub IsTurnOf : ℕ → List ℕ → ℕ → Type 0
IsTurnOf cpu order n = slice_get order (n - 1) ≡ Some cpu

-- what a seat knows after a turn that told this, by what it knew before
abbrev pub Learns : SeatView Ran → SeatView Ran → SharedTurn → Type 0
Learns old new (Stepped n) = (seen old < n) × IsTurnOf new.number new.front n × (seen new ≡ n) × (mine new ≡ mine old + 1)
Learns old new (Idle n) = (seen old ≤ n) × (seen new ≡ n) × (mine new ≡ mine old)
Learns old new (AtLimit n) = (seen old ≤ n) × (seen new ≡ n) × (mine new ≡ mine old)

-- what it knows after a turn that was refused memory
abbrev pub LearnsOfOthers : SeatView Ran → SeatView Ran → Type 0
LearnsOfOthers old new = (seen old ≤ seen new) × (mine new ≡ mine old)

-- what it knows after `count` turns of its processor, one after another
abbrev pub LearnsOfBlock : SeatView Ran → SeatView Ran → ℕ → Type 0
LearnsOfBlock old new count = (seen old + count ≤ seen new) × (mine new ≡ mine old + count)
