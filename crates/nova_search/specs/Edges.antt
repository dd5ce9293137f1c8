-- The turns that a search tried, as edges between places of what it found.
use Rattle.std.specs.Prelude.{◌≡◌, ◌⊎◌, ℕ, ◌<◌, ◌≤◌, ◌++◌, List, length, slice_index_or, Contains}
use Rattle.nova_model.specs.State.{KernelState}
use Rattle.nova_model.specs.Runs.{after}
use Rattle.nova_compare.specs.Steps.{IsSuccessor}
use Rattle.nova_search.specs.declared.edges.Edge.{Edge}

-- a state stands at a place
pub record IsAt (states : List KernelState) (place : ℕ) (s : KernelState) : Type 0 where
  pub there : place < length states
  pub is : (d : KernelState) → slice_index_or states place d ≡ s

abbrev pub edge : ℕ → ℕ → Edge
edge from to = record { from = from; to = to }

-- a turn that isn't idle leads from the state at one place to that at another
pub record IsEdge (states : List KernelState) (e : Edge) : Type 0 where
  pub from : e.from < length states
  pub to : e.to < length states
  pub cpu : ℕ
  pub processor : (d : KernelState) → cpu < (slice_index_or states e.from d).cpus
  pub next : (d : KernelState) → IsSuccessor (slice_index_or states e.from d) cpu (slice_index_or states e.to d)

-- each of the edges is one, and none leads from a place before that of an earlier one
pub record AreEdges (states : List KernelState) (edges : List Edge) : Type 0 where
  pub each : (i : ℕ) (d : Edge) → i < length edges → IsEdge states (slice_index_or edges i d)
  pub rising : (i j : ℕ) (d : Edge) → i ≤ j → j < length edges → (slice_index_or edges i d).from ≤ (slice_index_or edges j d).from

-- they lead to later places
pub record AreAhead (edges : List Edge) : Type 0 where
  pub each : (i : ℕ) (d : Edge) → i < length edges → (slice_index_or edges i d).from < (slice_index_or edges i d).to

-- an edge leads from a place to a state
pub record IsLed (states : List KernelState) (edges : List Edge) (place : ℕ) (t : KernelState) : Type 0 where
  pub to : ℕ
  pub there : Contains edges (edge place to)
  pub is : IsAt states to t

-- a turn of a processor in the state at a place is idle, or an edge leads to the state after it
abbrev pub IsTried : List KernelState → List Edge → ℕ → ℕ → Type 0
IsTried states edges place cpu =
    (d : KernelState) → (after (slice_index_or states place d) cpu ≡ slice_index_or states place d) ⊎ IsLed states edges place (after (slice_index_or states place d) cpu)

-- so it is for each of the first processors
abbrev pub AreTried : ℕ → List KernelState → List Edge → ℕ → Type 0
AreTried n states edges place = (cpu : ℕ) → cpu < n → IsTried states edges place cpu

-- ON THE WAY

-- none of the edges leads from a place behind `place`
pub record AreUpTo (states : List KernelState) (edges : List Edge) (place : ℕ) : Type 0 where
  pub are : AreEdges states edges
  pub most : (i : ℕ) (d : Edge) → i < length edges → (slice_index_or edges i d).from ≤ place

-- what was entered since stands behind what was there
pub record Extends (old new : List Edge) : Type 0 where
  pub more : List Edge
  pub whole : new ≡ old ++ more

-- a turn of a processor in the state at a place was tried, and what came of it is an edge
pub record IsTurnDrawn (old : List KernelState) (before : List Edge) (new : List KernelState) (since : List Edge) (place cpu : ℕ) : Type 0 where
  pub extends : Extends before since
  pub edges : AreUpTo old before place → AreUpTo new since place
  pub tried : IsTried new since place cpu

-- turns of all processors below `n` were
pub record AreTurnsDrawn (old : List KernelState) (before : List Edge) (new : List KernelState) (since : List Edge) (place n : ℕ) : Type 0 where
  pub extends : Extends before since
  pub edges : AreUpTo old before place → AreUpTo new since place
  pub tried : AreTried n new since place
