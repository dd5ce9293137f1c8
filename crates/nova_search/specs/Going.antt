-- A search on its way: how far it has come, and by which turns; and where it ends.
use Rattle.std.specs.Prelude.{◌≡◌, ℕ, ◌+◌, ◌<◌, ◌≤◌, Bool, true, false, List, length, slice_index_or, Some, None, All}
use Rattle.nova_model.specs.State.{KernelState}
use Rattle.nova_search.specs.declared.edges.Edge.{Edge}
use Rattle.nova_search.specs.declared.found.Found.{Found}
use Rattle.nova_search.specs.declared.exploring.Course.{Course}
use Rattle.nova_search.specs.declared.exploring.Passage.{Passage}
use Rattle.nova_search.specs.declared.exploring.Passage.TheVariants.{Met, Passed, Ticks}
use Rattle.nova_search.specs.declared.merging.Merging.{Merging}
use Rattle.nova_search.specs.declared.merging.Merging.TheVariants.{Alike, Same}
use Rattle.nova_search.specs.Edges.{AreAhead, AreEdges, AreTried}
use Rattle.nova_search.specs.Searches.{AreAll, AreAllWithin, AreByTurns, AreLinked, AreNearest, AreOfOwnTurns, AreOfTurnsBefore, GoesBeyond, IsFirst, IsReached, IsUnderWay, state_at, states_of}

-- Edges lead from the states at places before one; where the limit allows it the turns of these were tried.
pub record AreDrawn (k : KernelState) (limit : ℕ) (found : List Found) (edges : List Edge) (place : ℕ) : Type 0 where
  pub are : AreEdges (states_of found) edges
  pub below : (i : ℕ) (d : Edge) → i < length edges → (slice_index_or edges i d).from < place
  pub tried : (i : ℕ) (d : KernelState) → i < place → (state_at found i d).turns < limit → AreTried k.cpus (states_of found) edges i

-- The states at places before one were gone through: none of them passes a test, and where the limit allows it they were expanded.
pub record IsGoing (m : Merging) (test : KernelState → Bool) (k : KernelState) (limit : ℕ) (found : List Found) (edges : List Edge) (place : ℕ) (is_whole : Bool) : Type 0 where
  pub way : IsUnderWay m k limit (states_of found) place is_whole
  pub by_turns : AreByTurns limit (states_of found) place
  pub first : (d : KernelState) → state_at found 0 d ≡ k
  pub linked : AreLinked found
  pub turns : AreOfTurnsBefore found place 0
  pub none : (i : ℕ) (d : KernelState) → i < place → test (state_at found i d) ≡ false
  pub drawn : m ≡ Same → AreDrawn k limit found edges place
  pub beyond : is_whole ≡ false → GoesBeyond k limit

-- the state at a place passes the test; or its turns tell ticks, where that matters; or it was gone through, and the search is whole or isn't
abbrev pub IsSeen : Merging → (KernelState → Bool) → KernelState → ℕ → List Found → List Edge → ℕ → Bool → Passage → Type 0
IsSeen m test k limit found edges place is_whole (Passed stays) = IsGoing m test k limit found edges (place + 1) stays
IsSeen m test k limit found edges place is_whole Ticks = IsGoing m test k limit found edges place is_whole × (m ≡ Alike)
IsSeen m test k limit found edges place is_whole Met =
    IsGoing m test k limit found edges place is_whole × ((d : KernelState) → test (state_at found place d) ≡ true) × (place < length found)

-- what a search comes to that ends at a place with what came of the state there: it is over where the last one was passed
abbrev pub course_of : Passage → Bool → ℕ → Course
course_of Met is_whole place = record { goal = Some place; is_over = false; is_whole = is_whole; tells_ticks = false }
course_of Ticks is_whole place = record { goal = None; is_over = false; is_whole = is_whole; tells_ticks = true }
course_of (Passed stays) is_whole place = record { goal = None; is_over = true; is_whole = stays; tells_ticks = false }

-- what a search came to that has ended
pub record IsEnded (m : Merging) (test : KernelState → Bool) (k : KernelState) (limit most : ℕ) (found : List Found) (edges : List Edge) (course : Course) : Type 0 where
  pub reached : All (IsReached k) (states_of found)
  pub nearest : AreNearest m k (states_of found)
  pub goal : course.tells_ticks ≡ false → IsFirst test (states_of found) course.goal
  pub within : course.is_over ≡ true → AreAllWithin m k limit (states_of found)
  pub all : course.is_over ≡ true → course.is_whole ≡ true → AreAll m k (states_of found)
  pub beyond : course.is_whole ≡ false → GoesBeyond k limit
  pub more : course.tells_ticks ≡ false → course.goal ≡ None → course.is_over ≡ false → most < length found
  pub same : m ≡ Same → course.tells_ticks ≡ false
  pub first : (d : KernelState) → state_at found 0 d ≡ k
  pub linked : AreLinked found
  pub own : AreOfOwnTurns found
  pub few : (place : ℕ) (d : KernelState) → 0 < place → place < length found → (state_at found place d).turns ≤ limit
  pub are : m ≡ Same → AreEdges (states_of found) edges
  pub ahead : m ≡ Same → AreAhead edges
  pub tried : m ≡ Same → course.is_over ≡ true → (place : ℕ) (d : KernelState) → place < length found → (state_at found place d).turns < limit
      → AreTried k.cpus (states_of found) edges place
