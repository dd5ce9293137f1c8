-- A run that was made, and the state after some of its turns.
use Rattle.std.specs.Prelude.{◌≡◌, ℕ, ◌+◌, ◌^◌, ◌<◌, ◌≤◌, List, length, map, take}
use Rattle.std.specs.List.{AllByRecursion}
use Rattle.nova_model.specs.State.{KernelState}
use Rattle.nova_model.specs.Runs.{IsFreeOfIdle, run}
use Rattle.nova_model.specs.declared.event.Event.{Event}
use Rattle.nova_finished.specs.Finished.{IsFinished}
use Rattle.nova_finished.specs.declared.finished.Finished.{Finished}
use Rattle.nova_recording.specs.Copies.{sizes_of}
use Rattle.nova_recording.specs.declared.copies.Kept.{Kept}

-- the processors whose turns were taken
abbrev pub order_of : List Event → List ℕ
order_of events = map (λ (e : Event). e.cpu) events

-- the state after `n` turns of a run: that after the first entries of its order
abbrev pub at_turn : KernelState → List Event → ℕ → KernelState
at_turn k events n = run k (order_of (take n events))

-- the state after `turn` turns, of which there are as many
pub record IsAt (k : KernelState) (events : List Event) (turn : ℕ) (s : KernelState) : Type 0 where
  pub within : turn ≤ length events
  pub state : s ≡ at_turn k events turn
  pub counted : s.turns ≤ k.turns + turn
  pub cpus : s.cpus ≡ k.cpus

-- a state that is kept
abbrev pub IsKept : KernelState → List Event → Kept → Type 0
IsKept k events kept = IsAt k events kept.turn kept.kernel.state

-- the turns are of processors that are there, and a kernel may take as many
pub record AreTurns (k : KernelState) (events : List Event) : Type 0 where
  pub cpus : AllByRecursion (λ (e : Event). e.cpu < k.cpus) events
  pub few : k.turns + length events ≤ 2 ^ 31

-- what is seen of a recording: the state at its beginning, the event of each turn, the present turn and its state, the console log's room, and
-- the states kept on the way with the most bytes that they may take; the first state and the present one are no part of these
pub record RecordingView : Type 0 where
  pub opening : KernelState
  pub events : List Event
  pub turn : ℕ
  pub state : KernelState
  pub room : ℕ
  pub kept : List Kept
  pub most : ℕ

-- the same run
pub record IsSameRun (old new : RecordingView) : Type 0 where
  pub opening : new.opening ≡ old.opening
  pub events : new.events ≡ old.events

-- the bound on what is kept is as before, and what is kept is within it
pub record IsBounded (old new : RecordingView) : Type 0 where
  pub most : new.most ≡ old.most
  pub within : sizes_of new.kept ≤ new.most

-- a finished run, of which each turn is of a processor that is there and not idle
pub record IsDone (f : Finished) : Type 0 where
  pub order : List ℕ
  pub most : ℕ
  pub finished : IsFinished f.opening.state order most f
  pub no_idle : IsFreeOfIdle f.opening.state order
  pub processors : AllByRecursion (λ (cpu : ℕ). cpu < f.opening.state.cpus) order
  pub few : f.opening.state.turns + length order ≤ 2 ^ 31
