-- For each state that was found the least turns of a state that passes a test, and that edges lead to; and where one seems to hang by these.
use Rattle.std.specs.Prelude.{◌≡◌, ℕ, ◌+◌, ◌<◌, ◌≤◌, ◌&&◌, Bool, true, false, not, List, length, min, nat_le, slice_index_or, slice_set, Option, Some, None, if◌then◌else◌}
use Rattle.nova_model.specs.State.{KernelState}
use Rattle.nova_search.specs.Edges.{AreAhead, AreEdges, AreTried}
use Rattle.nova_search.specs.Searches.{IsWay, state_at, states_of}
use Rattle.nova_search.specs.declared.edges.Edge.{Edge}
use Rattle.nova_search.specs.declared.exploring.Explored.{Explored}
use Rattle.nova_asking.specs.Questions.{is_sought}
use Rattle.nova_asking.specs.declared.aim.Aim.{Aim}

-- turns are there, and at most so many
abbrev pub is_within : Option ℕ → ℕ → Bool
is_within (Some n) most = nat_le n most
is_within None most = false

-- the lesser of two
abbrev pub nearer : Option ℕ → Option ℕ → Option ℕ
nearer None b = b
nearer (Some n) None = Some n
nearer (Some n) (Some m) = Some (min n m)

abbrev pub turns_if : (KernelState → Bool) → KernelState → Option ℕ
turns_if test s = if test s then Some s.turns else None

abbrev pub least_at : List (Option ℕ) → ℕ → Option ℕ
least_at least place = slice_index_or least place None

-- those of the place to which an edge leads are passed on to that from which it leads
abbrev pub passed_on : List (Option ℕ) → Edge → List (Option ℕ)
passed_on least e = slice_set least e.from (nearer (least_at least e.from) (least_at least e.to))

-- an order without idle turns leads from a state to one with so many turns that passes a test
pub record ComesAt (test : KernelState → Bool) (s : KernelState) (turns : ℕ) : Type 0 where
  pub end : KernelState
  pub order : List ℕ
  pub way : IsWay s end order
  pub passes : test end ≡ true
  pub number : end.turns ≡ turns

-- what is noted of a place comes; a state that passes the test has it; and edges from one on lead to none that has less
pub record AreLeast (test : KernelState → Bool) (states : List KernelState) (edges : List Edge) (first : ℕ) (least : List (Option ℕ)) : Type 0 where
  pub long : length least ≡ length states
  pub come : (i turns : ℕ) (d : KernelState) → i < length states → least_at least i ≡ Some turns → ComesAt test (slice_index_or states i d) turns
  pub here : (i : ℕ) (d : KernelState) → i < length states → test (slice_index_or states i d) ≡ true → is_within (least_at least i) (slice_index_or states i d).turns ≡ true
  pub closed : (i most : ℕ) (d : Edge) → first ≤ i → i < length edges → is_within (least_at least (slice_index_or edges i d).to) most ≡ true
      → is_within (least_at least (slice_index_or edges i d).from) most ≡ true

-- the turns of a search from a state are its edges
pub record AreDrawn (k : KernelState) (limit : ℕ) (e : Explored) : Type 0 where
  pub edges : AreEdges (states_of e.found.items) e.edges.items
  pub ahead : AreAhead e.edges.items
  pub tried : e.is_over ≡ true → (place : ℕ) (d : KernelState) → place < length e.found.items → (state_at e.found.items place d).turns < limit
      → AreTried k.cpus (states_of e.found.items) e.edges.items place

-- a state seems to hang: what is aimed at is not noted of it within so many turns
abbrev pub seems : ℕ → Aim → KernelState → Option ℕ → Bool
seems turns a s least = is_sought a s && not (is_within least (s.turns + turns))

-- the first place of one that does
pub record IsPlaceAt (turns : ℕ) (a : Aim) (states : List KernelState) (least : List (Option ℕ)) (place : ℕ) : Type 0 where
  pub there : place < length states
  pub is : (d : KernelState) → seems turns a (slice_index_or states place d) (least_at least place) ≡ true
  pub none : (i : ℕ) (d : KernelState) → i < place → seems turns a (slice_index_or states i d) (least_at least i) ≡ false

abbrev pub IsPlace : ℕ → Aim → List KernelState → List (Option ℕ) → Option ℕ → Type 0
IsPlace turns a states least (Some place) = IsPlaceAt turns a states least place
IsPlace turns a states least None = (i : ℕ) (d : KernelState) → i < length states → seems turns a (slice_index_or states i d) (least_at least i) ≡ false

-- by some such notes of a search
pub record IsSeen (turns : ℕ) (a : Aim) (test : KernelState → Bool) (e : Explored) (o : Option ℕ) : Type 0 where
  pub least : List (Option ℕ)
  pub are : AreLeast test (states_of e.found.items) e.edges.items 0 least
  pub place : IsPlace turns a (states_of e.found.items) least o
