-- What an answer says of the orders of turns from a state.
use Rattle.std.specs.Prelude.{◌≡◌, ℕ, ◌+◌, ◌-◌, ◌<◌, ◌≤◌, ◌&&◌, Bool, true, false, List, [], ◌∷◌, length, map, All as AllOf, Contains, Option, Some, None}
use Rattle.std.specs.List.{AllByRecursion, count_by}
use Rattle.std.specs.Str.{bytes_eq}
use Rattle.nova_model.specs.Choice.{is_quiet}
use Rattle.nova_model.specs.Runs.{run}
use Rattle.nova_model.specs.State.{KernelState}
use Rattle.nova_order.specs.Blocks.{IsOrder, turns}
use Rattle.nova_order.specs.declared.block.Block.{Block}
use Rattle.nova_search.specs.Merged.{HasOne}
use Rattle.nova_search.specs.Searches.{AreLinked, AreNearest, AreOfOwnTurns, AreProcessors, GoesBeyond, IsReached, IsWay, states_of}
use Rattle.nova_search.specs.declared.found.Found.{Found as FoundState}
use Rattle.nova_search.specs.declared.merging.Merging.TheVariants.{Alike}
use Rattle.nova_asking.specs.Outcomes.{outcome}
use Rattle.nova_asking.specs.Questions.{IsOfState, ahead, has_context, is_so, named}
use Rattle.nova_asking.specs.declared.answer.Answer.{Answer}
use Rattle.nova_asking.specs.declared.answer.Answer.TheVariants.{Found, Never}
use Rattle.nova_asking.specs.declared.ends.End.{End}
use Rattle.nova_asking.specs.declared.extent.Extent.{Extent}
use Rattle.nova_asking.specs.declared.extent.Extent.TheVariants.{All, Within, Cut}
use Rattle.nova_asking.specs.declared.question.Question.{Question}
use Rattle.nova_asking.specs.declared.question.Question.TheVariants.{Hangs}

-- how far a search went: it gave each order, or each one within the limit, or neither
abbrev pub extent_of : Bool → Bool → Extent
extent_of true true = All
extent_of true false = Within
extent_of false is_whole = Cut

-- the orders that a search of this extent went along
abbrev pub IsCovered : Extent → KernelState → ℕ → List ℕ → Type 0
IsCovered All k limit order = AreProcessors k.cpus order
IsCovered Within k limit order = AreProcessors k.cpus order × (k.turns + length order ≤ limit)
IsCovered Cut k limit order = ⊥

-- an order has no more turns than the limit leaves
abbrev pub IsShort : KernelState → ℕ → List ℕ → Type 0
IsShort k limit order = length order ≤ limit - k.turns

-- no order that was gone along leads to a state that is so
pub record IsNever (q : Question) (k : KernelState) (limit : ℕ) (extent : Extent) : Type 0 where
  pub each : (order : List ℕ) → IsCovered extent k limit order → is_so q (run k order) ≡ false

-- no order of fewer turns leads to a state of which the same holds
pub record IsShortest (holds : KernelState → Type 0) (k : KernelState) (order : List ℕ) : Type 0 where
  pub each : (other : List ℕ) → AreProcessors k.cpus other → holds (run k other) → length order ≤ length other

-- a shortest order within the limit, without idle turns, leads to a state that is so
pub record IsWitness (q : Question) (k : KernelState) (limit : ℕ) (order : List ℕ) : Type 0 where
  pub way : IsWay k (run k order) order
  pub short : IsShort k limit order
  pub is : is_so q (run k order) ≡ true
  pub shortest : IsShortest (λ (s : KernelState). is_so q s ≡ true) k order

-- an order within the limit leads to a state
pub record IsReachedWithin (k : KernelState) (limit : ℕ) (s : KernelState) : Type 0 where
  pub reached : IsReached k s
  pub short : IsShort k limit reached.order

-- the states that a search found: an order within the limit leads to each; each but the first was found after a turn of its own, in one before it; and each order of fewer turns than one of
-- them has taken leads to a state that is alike to one before it
pub record AreSeen (k : KernelState) (limit : ℕ) (found : List FoundState) : Type 0 where
  pub reached : AllOf (IsReachedWithin k limit) (states_of found)
  pub linked : AreLinked found
  pub own : AreOfOwnTurns found
  pub nearest : AreNearest Alike k (states_of found)

-- so many states were found, with that after an order
pub record AreFound (k : KernelState) (limit : ℕ) (order : List ℕ) (count : ℕ) : Type 0 where
  pub found : List FoundState
  pub seen : AreSeen k limit found
  pub there : Contains (states_of found) (run k order)
  pub number : length found ≡ count

-- so many were, within a limit, with one that is alike to that after each order within another that was gone along; they are more than may be expanded where the search is cut, and runs go
-- on beyond the other limit where it is within that
pub record IsCount (k : KernelState) (reach limit most : ℕ) (extent : Extent) (count : ℕ) : Type 0 where
  pub found : List FoundState
  pub seen : AreSeen k reach found
  pub there : (order : List ℕ) → IsCovered extent k limit order → HasOne Alike (states_of found) (run k order)
  pub number : length found ≡ count
  pub more : extent ≡ Cut → most < count
  pub beyond : extent ≡ Within → GoesBeyond k limit

-- no order that was gone along leads to a state with this execution context; or one within the limit does, without idle turns
pub record IsNeverThere (ec : ℕ) (k : KernelState) (limit : ℕ) (extent : Extent) : Type 0 where
  pub each : (order : List ℕ) → IsCovered extent k limit order → has_context ec (run k order) ≡ false

pub record IsSometimeThere (ec : ℕ) (k : KernelState) (limit : ℕ) : Type 0 where
  pub order : List ℕ
  pub way : IsWay k (run k order) order
  pub short : IsShort k limit order
  pub has : has_context ec (run k order) ≡ true

-- the execution context that a question names is never there; or it names none, or that is there sometime
abbrev pub IsAbsent : Question → KernelState → ℕ → Extent → Option ℕ → Type 0
IsAbsent q k limit extent (Some ec) = (named q ≡ Some ec) × IsNeverThere ec k (limit + ahead q) extent
IsAbsent q k limit extent None = (ec : ℕ) → named q ≡ Some ec → IsSometimeThere ec k (limit + ahead q)

-- the blocks of an order that leads to a state that is so
pub record IsFoundBy (q : Question) (k : KernelState) (limit : ℕ) (blocks : List Block) (states : ℕ) : Type 0 where
  pub order : IsOrder blocks
  pub leads : IsWitness q k limit (turns blocks)
  pub found : AreFound k (limit + ahead q) (turns blocks) states

-- none of the states that were found is so, of a question on states
abbrev pub AreNot : Question → List FoundState → Type 0
AreNot q found = IsOfState q → (s : KernelState) → Contains (states_of found) s → is_so q s ≡ false

-- for what hangs equal states alone count as one: that after each order that was gone along is itself among those that were found
abbrev pub AreEqual : Question → Extent → KernelState → ℕ → List FoundState → Type 0
AreEqual (Hangs turns a) extent k limit found = (order : List ℕ) → IsCovered extent k limit order → Contains (states_of found) (run k order)
AreEqual other extent k limit found = Unit {0}

-- none that was gone along does
pub record IsNeverBy (q : Question) (k : KernelState) (limit most : ℕ) (extent : Extent) (states : ℕ) (ec : Option ℕ) : Type 0 where
  pub never : IsNever q k limit extent
  pub count : IsCount k (limit + ahead q) limit most extent states
  pub none : AreNot q count.found
  pub equal : AreEqual q extent k limit count.found
  pub absent : IsAbsent q k limit extent ec

abbrev pub IsAnswer : Question → KernelState → ℕ → ℕ → Answer → Type 0
IsAnswer q k limit most (Found order states) = IsFoundBy q k limit order.blocks states
IsAnswer q k limit most (Never extent states absent) = IsNeverBy q k limit most extent states absent

-- the run has ended, with this outcome
pub record EndsSo (s : KernelState) (text : List ℕ) : Type 0 where
  pub quiet : is_quiet s ≡ true
  pub outcome : text ≡ outcome s

-- a shortest order within the limit, without idle turns, ends the run with this outcome
pub record IsEndBy (k : KernelState) (limit : ℕ) (order text : List ℕ) : Type 0 where
  pub way : IsWay k (run k order) order
  pub short : IsShort k limit order
  pub ends : EndsSo (run k order) text
  pub shortest : IsShortest (λ (s : KernelState). EndsSo s text) k order

-- the blocks of an end are such an order
pub record IsEnd (k : KernelState) (limit : ℕ) (end : End) : Type 0 where
  pub order : IsOrder end.order.blocks
  pub ends : IsEndBy k limit (turns end.order.blocks) end.outcome.items

abbrev pub outcomes : List End → List (List ℕ)
outcomes ends = map (λ (e : End). e.outcome.items) ends

-- each order that was gone along, and ends the run, does so with one of the outcomes
pub record AreEnds (k : KernelState) (limit : ℕ) (extent : Extent) (outcomes : List (List ℕ)) : Type 0 where
  pub each : (order : List ℕ) → IsCovered extent k limit order → is_quiet (run k order) ≡ true → Contains outcomes (outcome (run k order))

-- none of the outcomes stands there twice
abbrev pub AreDistinct : List (List ℕ) → Type 0
AreDistinct [] = Unit {0}
AreDistinct (text ∷ texts) = (Contains texts text → ⊥) × AreDistinct texts

-- whether the run has ended, with this outcome
abbrev pub has_ended_so : List ℕ → KernelState → Bool
has_ended_so text s = is_quiet s && bytes_eq (outcome s) text

-- each end has the number of those of the states in which the run has ended so
abbrev pub AreCounted : List KernelState → List End → Type 0
AreCounted states ends = AllByRecursion (λ (e : End). e.states ≡ count_by (has_ended_so e.outcome.items) states) ends

-- so many states were found, and so many of them are of each end; the outcome of each in which the run has ended is among them
pub record AreCounts (k : KernelState) (limit most : ℕ) (extent : Extent) (count : ℕ) (ends : List End) : Type 0 where
  pub all : IsCount k limit limit most extent count
  pub each : AreCounted (states_of all.found) ends
  pub listed : (s : KernelState) → Contains (states_of all.found) s → is_quiet s ≡ true → Contains (outcomes ends) (outcome s)
