-- What a search found, and what was seen of it.
use Rattle.std.specs.Prelude.{◌≡◌, ℕ, ◌+◌, ◌<◌, ◌≤◌, Bool, true, false, List, length, slice_index_or, All, Contains, Option, Some, None}
use Rattle.std.specs.List.{AllByRecursion}
use Rattle.nova_model.specs.Choice.{is_quiet}
use Rattle.nova_model.specs.State.{KernelState}
use Rattle.nova_search.specs.Searches.{AreAll, AreAllWithin, AreLinked, AreNearest, AreOfOwnTurns, GoesBeyond, IsFirst, IsReached, state_at, states_of}
use Rattle.nova_search.specs.declared.exploring.Explored.{Explored}
use Rattle.nova_search.specs.declared.found.Found.{Found}
use Rattle.nova_search.specs.declared.merging.Merging.{Merging}
use Rattle.nova_search.specs.declared.merging.Merging.TheVariants.{Alike}
use Rattle.nova_asking.specs.Answers.{AreDistinct, IsEnd, outcomes}
use Rattle.nova_asking.specs.Outcomes.{outcome}
use Rattle.nova_asking.specs.Questions.{has_context, named}
use Rattle.nova_asking.specs.declared.answer.Answer.{Answer}
use Rattle.nova_asking.specs.declared.answer.Answer.TheVariants.{Found as FoundOrder, Never}
use Rattle.nova_asking.specs.declared.ends.End.{End}
use Rattle.nova_asking.specs.declared.extent.Extent.{Extent}
use Rattle.nova_asking.specs.declared.question.Question.{Question}

-- the state that was found first
abbrev pub BeginsIn : KernelState → List Found → Type 0
BeginsIn k found = (d : KernelState) → state_at found 0 d ≡ k

-- no state but the first has taken more turns than the limit allows
abbrev pub AreFew : ℕ → List Found → Type 0
AreFew limit found = (place : ℕ) (d : KernelState) → 0 < place → place < length found → (state_at found place d).turns ≤ limit

-- what a search from a state found, nearest first
pub record AreFrom (k : KernelState) (limit : ℕ) (found : List Found) : Type 0 where
  pub first : BeginsIn k found
  pub nearest : AreNearest Alike k (states_of found)
  pub few : AreFew limit found

-- a search from a state, for those that pass a test, found this
pub record IsSearch (m : Merging) (test : KernelState → Bool) (k : KernelState) (limit most : ℕ) (e : Explored) : Type 0 where
  pub reached : All (IsReached k) (states_of e.found.items)
  pub nearest : AreNearest m k (states_of e.found.items)
  pub goal : IsFirst test (states_of e.found.items) e.goal
  pub within : e.is_over ≡ true → AreAllWithin m k limit (states_of e.found.items)
  pub all : e.is_over ≡ true → e.is_whole ≡ true → AreAll m k (states_of e.found.items)
  pub more : e.goal ≡ None → e.is_over ≡ false → most < length e.found.items
  pub beyond : e.is_whole ≡ false → GoesBeyond k limit
  pub first : BeginsIn k e.found.items
  pub linked : AreLinked e.found.items
  pub own : AreOfOwnTurns e.found.items
  pub few : AreFew limit e.found.items

-- an execution context is in one of the states
pub record IsPresent (ec : ℕ) (states : List KernelState) : Type 0 where
  pub state : KernelState
  pub there : Contains states state
  pub has : has_context ec state ≡ true

-- the execution context that a question names is in none of the states; or it names none, or that is in one
abbrev pub IsMissing : Question → List KernelState → Option ℕ → Type 0
IsMissing q states (Some ec) = (named q ≡ Some ec) × ((s : KernelState) → Contains states s → has_context ec s ≡ false)
IsMissing q states None = (ec : ℕ) → named q ≡ Some ec → IsPresent ec states

-- an answer that nothing was found, of a search of this extent
abbrev pub IsUnfound : Question → List Found → Extent → Answer → Type 0
IsUnfound q found extent (FoundOrder order states) = ⊥
IsUnfound q found extent (Never e states absent) = (e ≡ extent) × (states ≡ length found) × IsMissing q (states_of found) absent

abbrev pub unless_at : Option ℕ → ℕ → Option ℕ
unless_at (Some place) ec = None
unless_at None ec = Some ec

-- the place of an outcome, or none where it isn't there
abbrev pub IsPlaceOf : List End → List ℕ → Option ℕ → Type 0
IsPlaceOf ends text (Some place) = (place < length ends) × ((d : List ℕ) → slice_index_or (outcomes ends) place d ≡ text)
IsPlaceOf ends text None = Contains (outcomes ends) text → ⊥

-- the outcome of each of the states before a place in which the run has ended is among these
abbrev pub HaveSoFar : List KernelState → ℕ → List (List ℕ) → Type 0
HaveSoFar states place texts = (d : KernelState) (i : ℕ) → i < place → is_quiet (slice_index_or states i d) ≡ true → Contains texts (outcome (slice_index_or states i d))

-- the outcome of each of the states in which the run has ended is among these
pub record HaveOutcomes (states : List KernelState) (outcomes : List (List ℕ)) : Type 0 where
  pub each : (s : KernelState) → Contains states s → is_quiet s ≡ true → Contains outcomes (outcome s)

-- ends that were told before are still, each once, and perhaps one more is
pub record KeepEnds (old new : List End) : Type 0 where
  pub once : AreDistinct (outcomes old) → AreDistinct (outcomes new)
  pub outcomes : (text : List ℕ) → Contains (outcomes old) text → Contains (outcomes new) text

-- of an end one state more was found
abbrev pub one_more : End → End
one_more e = record e { states = e.states + 1 }

-- orders of ends lead there from a state
abbrev pub LeadThere : KernelState → ℕ → List End → List End → Type 0
LeadThere k limit old new = AllByRecursion (IsEnd k limit) old → AllByRecursion (IsEnd k limit) new
