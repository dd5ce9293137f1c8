-- What a text tells of the orders of turns from a state.
use Rattle.std.specs.Prelude.{◌≡◌, ℕ, ◌+◌, ◌^◌, Bool, true, List, nat_lt, Option}
use Rattle.std.specs.List.{AllByRecursion}
use Rattle.nova_model.specs.State.{KernelState}
use Rattle.nova_order.specs.Blocks.{IsOrder, turns}
use Rattle.nova_order.specs.declared.block.Block.{Block}
use Rattle.nova_scenario.specs.declared.scenario.Scenario.{Scenario}
use Rattle.nova_asking.specs.Answers.{AreCounts, AreDistinct, AreEnds, AreEqual, AreFound, AreNot, IsAbsent, IsCount, IsEnd, IsNever, IsWitness, outcomes}
use Rattle.nova_asking.specs.Questions.{ahead}
use Rattle.nova_asking.specs.declared.answer.Answer.{Answer}
use Rattle.nova_asking.specs.declared.answer.Answer.TheVariants as answer
use Rattle.nova_asking.specs.declared.ends.End.{End}
use Rattle.nova_asking.specs.declared.extent.Extent.{Extent}
use Rattle.nova_asking.specs.declared.extent.Extent.TheVariants as extent
use Rattle.nova_asking.specs.declared.question.Question.{Question}
use Rattle.nova_asking.specs.declared.question.Question.TheVariants as question
use Rattle.nova_explore.specs.Texts.{ends_text, found_text, never_text}
use Rattle.nova_explore.specs.declared.verdict.Verdict.{Verdict}
use Rattle.nova_explore.specs.declared.verdict.Verdict.TheVariants.{All, Found, Within, Cut}

-- no order that a search of this extent went along leads to what was asked for; where it is about an execution context that none of them leads to, this is told, too
pub record IsToldNever (q : Question) (k : KernelState) (cpus limit most : ℕ) (extent : Extent) (text : List ℕ) : Type 0 where
  pub never : IsNever q k limit extent
  pub states : ℕ
  pub count : IsCount k (limit + ahead q) limit most extent states
  pub none : AreNot q count.found
  pub equal : AreEqual q extent k limit count.found
  pub named : Option ℕ
  pub absent : IsAbsent q k limit extent named
  pub tells : text ≡ never_text cpus limit extent states named

-- a shortest order within the limit does, without an idle turn, and its text is told
pub record IsToldFound (q : Question) (k : KernelState) (cpus limit : ℕ) (text : List ℕ) : Type 0 where
  pub blocks : List Block
  pub order : IsOrder blocks
  pub leads : IsWitness q k limit (turns blocks)
  pub states : ℕ
  pub count : AreFound k (limit + ahead q) (turns blocks) states
  pub tells : text ≡ found_text cpus states blocks

-- what is told of a question on states
abbrev pub IsAnswered : Question → KernelState → ℕ → ℕ → ℕ → Verdict → List ℕ → Type 0
IsAnswered q k cpus limit most All text = IsToldNever q k cpus limit most extent.All text
IsAnswered q k cpus limit most Within text = IsToldNever q k cpus limit most extent.Within text
IsAnswered q k cpus limit most Cut text = IsToldNever q k cpus limit most extent.Cut text
IsAnswered q k cpus limit most Found text = IsToldFound q k cpus limit text

-- different outcomes are told, each with a shortest order within the limit that ends in it; each order that a search of this extent went along, and that ends the run, does so with one of them
pub record AreToldEnds (k : KernelState) (cpus limit most : ℕ) (extent : Extent) (text : List ℕ) : Type 0 where
  pub ends : List End
  pub each : AllByRecursion (IsEnd k limit) ends
  pub once : AreDistinct (outcomes ends)
  pub all : AreEnds k limit extent (outcomes ends)
  pub states : ℕ
  pub counts : AreCounts k limit most extent states ends
  pub tells : text ≡ ends_text cpus limit extent states ends

-- what is told of the ends of runs
abbrev pub AreEndsTold : KernelState → ℕ → ℕ → ℕ → Verdict → List ℕ → Type 0
AreEndsTold k cpus limit most All text = AreToldEnds k cpus limit most extent.All text
AreEndsTold k cpus limit most Within text = AreToldEnds k cpus limit most extent.Within text
AreEndsTold k cpus limit most Cut text = AreToldEnds k cpus limit most extent.Cut text
AreEndsTold k cpus limit most Found text = ⊥

-- by the question
abbrev pub IsTold : Question → KernelState → ℕ → ℕ → ℕ → Verdict → List ℕ → Type 0
IsTold question.Ends k cpus limit most verdict text = AreEndsTold k cpus limit most verdict text
IsTold q k cpus limit most verdict text = IsAnswered q k cpus limit most verdict text

-- whether a scenario has the console, or the frame of RAM, that is asked about
abbrev pub has_place : Scenario → Question → Bool
has_place from (question.Console console bytes) = nat_lt console from.consoles
has_place from (question.Word frame offset value) = nat_lt frame (2 ^ from.ram)
has_place from (question.Stores frame first last) = nat_lt frame (2 ^ from.ram)
has_place from q = true

-- ON THE WAY

-- the verdict of a search of this extent that found nothing, or all that it was to find
abbrev pub of_extent : Extent → Verdict
of_extent extent.All = All
of_extent extent.Within = Within
of_extent extent.Cut = Cut

abbrev pub verdict_of : Answer → Verdict
verdict_of (answer.Found order states) = Found
verdict_of (answer.Never extent states absent) = of_extent extent
