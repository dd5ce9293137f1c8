-- Which states a kernel comes to, in whatever order its processors take their turns, and what a search of them says.
use Rattle.std.specs.Prelude.{◌≡◌, ◌⊎◌, ℕ, ◌+◌, ◌^◌, ◌<◌, ◌≤◌, Bool, true, false, List, [], ◌∷◌, ◌++◌, drop, length, map, slice_index_or, Option, Some, None, All, Contains}
use Rattle.std.specs.List.{AllByRecursion}
use Rattle.nova_model.specs.Choice.{is_quiet}
use Rattle.nova_model.specs.State.{KernelState}
use Rattle.nova_model.specs.Runs.{IsFreeOfIdle, after, run}
use Rattle.nova_compare.specs.Steps.{IsSuccessor}
use Rattle.nova_search.specs.Merged.{HasOne, IsApt, IsOne}
use Rattle.nova_search.specs.declared.found.Found.{Found}
use Rattle.nova_search.specs.declared.merging.Merging.{Merging}

-- each processor of an order is below `n`
abbrev pub AreProcessors : ℕ → List ℕ → Type 0
AreProcessors n order = AllByRecursion (λ (cpu : ℕ). cpu < n) order

-- an order that leads from one state to another, in which no turn is idle: each of them counts
pub record IsWay (k s : KernelState) (order : List ℕ) : Type 0 where
  pub processors : AreProcessors k.cpus order
  pub no_idle : IsFreeOfIdle k order
  pub state : s ≡ run k order
  pub turns : s.turns ≡ k.turns + length order

-- a state that a kernel comes to
pub record IsReached (k s : KernelState) : Type 0 where
  pub order : List ℕ
  pub way : IsWay k s order
  pub cpus : s.cpus ≡ k.cpus

-- runs go on beyond a limit: an order without idle turns takes more turns than it allows; or as many, and some processor has a turn to take after them
pub record GoesBeyond (k : KernelState) (limit : ℕ) : Type 0 where
  pub order : List ℕ
  pub way : IsWay k (run k order) order
  pub turns : (limit < k.turns + length order) ⊎ ((limit ≡ k.turns + length order) × (is_quiet (run k order) ≡ false))

-- the answer of following an order: a kernel in the state after it, or none where one of its turns is idle, or of a processor that isn't there
abbrev pub IsEnd : KernelState → List ℕ → Option KernelState → Type 0
IsEnd k order (Some e) = IsWay k e order
IsEnd k order None = Unit {0}

-- an order was followed to a state
pub record IsAlong (k s : KernelState) (order : List ℕ) : Type 0 where
  pub way : IsWay k s order
  pub cpus : s.cpus ≡ k.cpus

-- each order after which no more than `limit` turns were taken leads to a state that is one with one of the states
pub record AreAllWithin (m : Merging) (k : KernelState) (limit : ℕ) (states : List KernelState) : Type 0 where
  pub each : (order : List ℕ) → AreProcessors k.cpus order → k.turns + length order ≤ limit → HasOne m states (run k order)

-- each order leads to one that is
pub record AreAll (m : Merging) (k : KernelState) (states : List KernelState) : Type 0 where
  pub each : (order : List ℕ) → AreProcessors k.cpus order → HasOne m states (run k order)

-- a state that is one with `s` stands before a place
pub record IsBefore (m : Merging) (states : List KernelState) (place : ℕ) (s : KernelState) : Type 0 where
  pub its_place : ℕ
  pub before : its_place < place
  pub is : (d : KernelState) → IsOne m (slice_index_or states its_place d) s

-- nearest first: each order of fewer turns than a state has taken leads to a state that is one with a state before it
pub record AreNearest (m : Merging) (k : KernelState) (states : List KernelState) : Type 0 where
  pub each : (place : ℕ) (d : KernelState) → place < length states → (order : List ℕ) → AreProcessors k.cpus order
      → k.turns + length order < (slice_index_or states place d).turns → IsBefore m states place (run k order)

-- the state at a place passes a test, and none before it does
pub record IsFirstAt (test : KernelState → Bool) (states : List KernelState) (place : ℕ) : Type 0 where
  pub there : place < length states
  pub passes : (d : KernelState) → test (slice_index_or states place d) ≡ true
  pub none : (i : ℕ) (d : KernelState) → i < place → test (slice_index_or states i d) ≡ false

-- the first place whose state passes a test, or none where no state does
abbrev pub IsFirst : (KernelState → Bool) → List KernelState → Option ℕ → Type 0
IsFirst test states (Some place) = IsFirstAt test states place
IsFirst test states None = (s : KernelState) → Contains states s → test s ≡ false

abbrev pub state_of : Found → KernelState
state_of f = f.vertex.value

abbrev pub states_of : List Found → List KernelState
states_of found = map state_of found

abbrev pub state_at : List Found → ℕ → KernelState → KernelState
state_at found place d = slice_index_or (states_of found) place d

-- a state was found after a turn of a processor in a state that was found before it, in which fewer than 2^31 were taken
pub record IsLink (found : List Found) (i : ℕ) (f : Found) : Type 0 where
  pub before : f.from < i
  pub processor : (d : KernelState) → f.cpu < (state_at found f.from d).cpus
  pub next : (d : KernelState) → IsSuccessor (state_at found f.from d) f.cpu (state_of f)
  pub few : (state_of f).turns ≤ 2 ^ 31

-- each state but the first was found so
pub record AreLinked (found : List Found) : Type 0 where
  pub each : (i : ℕ) (d : Found) → 0 < i → i < length found → IsLink found i (slice_index_or found i d)

-- no two states but the first were found after the same turn: of one processor in one state
pub record AreOfOwnTurns (found : List Found) : Type 0 where
  pub each : (i j : ℕ) (d : Found) → 0 < i → i < j → j < length found
      → (slice_index_or found i d).from ≡ (slice_index_or found j d).from → (slice_index_or found i d).cpu ≡ (slice_index_or found j d).cpu → ⊥

-- ON THE WAY

-- and each was found after a turn in a state at an earlier place than this, or after one of a lower processor in the state at it
pub record AreOfTurnsBefore (found : List Found) (place its_cpu : ℕ) : Type 0 where
  pub own : AreOfOwnTurns found
  pub before : (i : ℕ) (d : Found) → 0 < i → i < length found
      → ((slice_index_or found i d).from < place) ⊎ (((slice_index_or found i d).from ≡ place) × ((slice_index_or found i d).cpu < its_cpu))

-- one of the states is one with `s`, and has taken at most so many turns
pub record HasNear (m : Merging) (states : List KernelState) (turns : ℕ) (s : KernelState) : Type 0 where
  pub has : HasOne m states s
  pub few : has.one.turns ≤ turns

-- of each state that is one with `s` the state after a turn of each processor below `n` is one with a state of at most one turn more than `s`
pub record IsExpanded (m : Merging) (n : ℕ) (states : List KernelState) (s : KernelState) : Type 0 where
  pub each : (t : KernelState) → IsApt t → IsOne m s t → (cpu : ℕ) → cpu < n → HasNear m states (s.turns + 1) (after t cpu)

-- a state was found after a turn of this processor in the state at a place
pub record IsFoundAfter (f : Found) (place its_cpu : ℕ) (s : KernelState) : Type 0 where
  pub from : f.from ≡ place
  pub cpu : f.cpu ≡ its_cpu
  pub state : state_of f ≡ s

-- nothing more was found, or this state
abbrev pub IsMore : List Found → ℕ → ℕ → KernelState → List Found → Type 0
IsMore old place cpu s new = (new ≡ old) ⊎ ((f : Found) × IsFoundAfter f place cpu s × (new ≡ old ++ f ∷ []))

-- the states from a place on are open: none of their turns was tried
abbrev pub AreOpen : List KernelState → ℕ → List KernelState → Type 0
AreOpen states first frontier = frontier ≡ drop first states

-- what was found since stands behind what was found before, and has taken so many turns
pub record Grows (old new : List KernelState) (turns : ℕ) : Type 0 where
  pub more : List KernelState
  pub whole : new ≡ old ++ more
  pub taken : AllByRecursion (λ (s : KernelState). s.turns ≡ turns) more

-- where all states found before are reached from a state, all that are found now are
pub record Keeps (old new : List KernelState) : Type 0 where
  pub reached : (k : KernelState) → All (IsReached k) old → All (IsReached k) new

-- a turn of a processor was tried in a state: from each that is one with it, a state that is one with one that was found comes after it
pub record IsVisited (m : Merging) (old new : List KernelState) (s : KernelState) (cpu : ℕ) : Type 0 where
  pub grows : Grows old new (s.turns + 1)
  pub keeps : Keeps old new
  pub there : (t : KernelState) → IsApt t → IsOne m s t → HasOne m new (after t cpu)

-- turns of all processors below `n` were tried in a state
pub record AreVisited (m : Merging) (old new : List KernelState) (s : KernelState) (n : ℕ) : Type 0 where
  pub grows : Grows old new (s.turns + 1)
  pub keeps : Keeps old new
  pub there : (cpu : ℕ) → cpu < n → (t : KernelState) → IsApt t → IsOne m s t → HasOne m new (after t cpu)

-- States stand by turns. None has taken more than the limit allows, but for the first, nor more than one turn more than the state at a place.
pub record AreByTurns (limit : ℕ) (states : List KernelState) (place : ℕ) : Type 0 where
  pub rising : (i j : ℕ) (d : KernelState) → i ≤ j → j < length states → (slice_index_or states i d).turns ≤ (slice_index_or states j d).turns
  pub near : place < length states → (i : ℕ) (d : KernelState) → i < length states → (slice_index_or states i d).turns ≤ (slice_index_or states place d).turns + 1
  pub few : (i : ℕ) (d : KernelState) → 0 < i → i < length states → (slice_index_or states i d).turns ≤ limit

-- Of the states that were found those before `place` are expanded, but for those that have taken `limit` turns; and where the search is whole, these are too.
pub record IsUnderWay (m : Merging) (k : KernelState) (limit : ℕ) (states : List KernelState) (place : ℕ) (is_whole : Bool) : Type 0 where
  pub opening : Contains states k
  pub reached : All (IsReached k) states
  pub expanded : (i : ℕ) (d : KernelState) → i < place → (slice_index_or states i d).turns < limit → IsExpanded m k.cpus states (slice_index_or states i d)
  pub whole : is_whole ≡ true → (i : ℕ) (d : KernelState) → i < place → IsExpanded m k.cpus states (slice_index_or states i d)
