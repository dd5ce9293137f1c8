-- A scenario's run up to a turn, and what is told of the states on it.
use Rattle.std.specs.Prelude.{◌≡◌, ◌⊎◌, ℕ, Bool, false, true, ◌<◌, ◌≤◌, List, [], ◌++◌, length, take, Option, Some, None, Result, Ok, Err, string_bytes}
use Rattle.std.specs.List.{AllByRecursion}
use Rattle.nova_model.specs.State.{KernelState}
use Rattle.nova_model.specs.Runs.{IsFreeOfIdle, rounds, run}
use Rattle.nova_order.specs.Blocks.{BlockList, IsOrder, turns}
use Rattle.nova_order.specs.declared.block.Block.{Block}
use Rattle.nova_finished.specs.Finished.{IsIdleLine}
use Rattle.nova_finished.specs.declared.finished.Finished.{Finished}
use Rattle.nova_naming.specs.Statements.{Stated}
use Rattle.nova_judging.specs.Labelled.{first_stranger}
use Rattle.nova_judging.specs.declared.answer.Answer.{Answer}
use Rattle.nova_judging.specs.declared.answer.Told.{Told}
use Rattle.nova_judging.specs.declared.strangers.Expected.{Expected}
use Rattle.nova_watching.specs.Watched.{AreIsolatedBefore, IsBrokenOn, IsTold, is_breaking}
use Rattle.nova_flowing.specs.declared.lapse.Lapse.{Lapse}
use Rattle.nova_policy.specs.Flows.{AreFlows, AreFlowsIf}
use Rattle.nova_policy.specs.declared.exit.Exit.{Exit}
use Rattle.nova_policy.specs.declared.exit.Exit.TheVariants.{Idle, Misnamed, Memory}
use Rattle.nova_policy.specs.declared.request.Span.{Span}

-- the first turns of a run, at most `until`: round robin, or those of an order
abbrev pub first_turns : KernelState → Option BlockList → ℕ → List ℕ
first_turns k None until = rounds k until
first_turns k (Some order) until = take until (turns order.blocks)

-- turns were taken, of processors that are there, none of which was idle
pub record HasTaken (k : KernelState) (list : List ℕ) (f : Finished) : Type 0 where
  pub no_idle : IsFreeOfIdle k list
  pub state : f.kernel.state ≡ run k list
  pub order : turns f.order.blocks ≡ list
  pub there : AllByRecursion (λ cpu. cpu < k.cpus) list
  pub few : length list ≤ 10000000

abbrev pub HasRun : KernelState → Option BlockList → ℕ → Finished → Type 0
HasRun k order until f = HasTaken k (first_turns k order until) f

-- turns are not taken: the first idle one is of a block
abbrev pub IsNotRun : KernelState → List Block → Exit → Type 0
IsNotRun k blocks (Idle line) = IsIdleLine k blocks line
IsNotRun k blocks Memory = Unit {0}
IsNotRun k blocks _ = ⊥

-- the first idle turn of an order's first turns is of the block of this line
pub record IsIdleBefore (k : KernelState) (order : BlockList) (until line : ℕ) : Type 0 where
  pub first : List Block
  pub sound : IsOrder first
  pub of : turns first ≡ take until (turns order.blocks)
  pub idle : IsIdleLine k first line

abbrev pub IsIdleIn : KernelState → Option BlockList → ℕ → ℕ → Type 0
IsIdleIn k None until line = ⊥
IsIdleIn k (Some order) until line = IsIdleBefore k order until line

abbrev pub IsStopped : KernelState → Option BlockList → ℕ → Exit → Type 0
IsStopped k order until (Idle line) = IsIdleIn k order until line
IsStopped k order until Memory = Unit {0}
IsStopped k order until _ = ⊥

-- WHAT IS TOLD

-- each number that a policy names is of a domain, or of a semaphore where it is to be of one
abbrev pub HasNoStranger : Option (List Stated) → KernelState → Type 0
HasNoStranger None k = Unit {0}
HasNoStranger (Some policy) k = first_stranger policy k ≡ None

-- or this is the first that is of none, and its line
abbrev pub IsStrange : Option (List Stated) → KernelState → ℕ → Expected → ℕ → Type 0
IsStrange None k line expected number = ⊥
IsStrange (Some policy) k line expected number = first_stranger policy k ≡ Some (record { line = line; expected = expected; number = number })

abbrev pub IsMisnamed : Option (List Stated) → KernelState → Exit → Type 0
IsMisnamed policy k (Misnamed line expected number) = IsStrange policy k line expected number
IsMisnamed policy k _ = ⊥

abbrev pub IsNamedBy : Option (List Stated) → KernelState → Result (Unit {0}) Exit → Type 0
IsNamedBy policy k (Ok done) = HasNoStranger policy k
IsNamedBy policy k (Err exit) = IsMisnamed policy k exit

-- the first state before one of these turns in which the sides aren't isolated, of those after at least `from` turns; or none
abbrev pub IsToldBefore : KernelState → List ℕ → Option (List Stated) → ℕ → Option Told → Type 0
IsToldBefore k list policy from None = AreIsolatedBefore policy from k 0 list
IsToldBefore k list policy from (Some t) = IsBrokenOn policy from k 0 list t

-- What is told of a run from a state, of turns none of which is idle: each number that the policy names is of a domain, or of a semaphore, at its end. The answer is of the state after these of its turns: of those after so
-- many turns at least the first in which the sides aren't isolated, or the last of all.
pub record IsToldOn (k : KernelState) (list : List ℕ) (policy : Option (List Stated)) (from : ℕ) (answer : Answer) (text : List ℕ) : Type 0 where
  pub no_idle : IsFreeOfIdle k list
  pub named : HasNoStranger policy (run k list)
  pub taken : List ℕ
  pub left : List ℕ
  pub whole : taken ++ left ≡ list
  pub isolated : AreIsolatedBefore policy from k 0 taken
  pub told : IsTold policy (run k taken) answer text
  pub first : (left ≡ []) ⊎ ((from ≤ length taken) × (is_breaking answer ≡ true))

-- or there is no answer
pub record IsMisnamedOn (k : KernelState) (list : List ℕ) (policy : Option (List Stated)) (line : ℕ) (expected : Expected) (number : ℕ) : Type 0 where
  pub no_idle : IsFreeOfIdle k list
  pub strange : IsStrange policy (run k list) line expected number

abbrev pub IsUntoldOn : KernelState → List ℕ → Option (List Stated) → Exit → Type 0
IsUntoldOn k list policy (Misnamed line expected number) = IsMisnamedOn k list policy line expected number
IsUntoldOn k list policy Memory = Unit {0}
IsUntoldOn k list policy _ = ⊥

abbrev pub IsDecidedOn : KernelState → List ℕ → Option (List Stated) → ℕ → Result Told Exit → Type 0
IsDecidedOn k list policy from (Ok t) = IsToldOn k list policy from t.answer (string_bytes t.text)
IsDecidedOn k list policy from (Err exit) = IsUntoldOn k list policy exit

-- after which turns it is told: all; or where flows are asked for, those before the turns in which sides are watched
abbrev pub told_turns : Bool → ℕ → List ℕ → List ℕ
told_turns false from list = list
told_turns true from list = take from list

-- and after it the lines of flows, where they are asked for
pub record IsToldWith (k : KernelState) (list : List ℕ) (policy : Option (List Stated)) (from : ℕ) (flow : Bool) (answer : Answer) (text : List ℕ) : Type 0 where
  pub first : List ℕ
  pub lines : List ℕ
  pub whole : text ≡ first ++ lines
  pub told : IsToldOn k (told_turns flow from list) policy from answer first
  pub flows : AreFlowsIf flow policy k from list lines

abbrev pub IsAnsweredOn : KernelState → List ℕ → Option (List Stated) → ℕ → Bool → Result Told Exit → Type 0
IsAnsweredOn k list policy from flow (Ok t) = IsToldWith k list policy from flow t.answer (string_bytes t.text)
IsAnsweredOn k list policy from flow (Err exit) = IsUntoldOn k (told_turns flow from list) policy exit

-- of a run that ends where flows are told, with these lapses after it
pub record IsFlowing (k : KernelState) (list : List ℕ) (policy : Option (List Stated)) (from : ℕ) (lapses : List Lapse) (t : Told) : Type 0 where
  pub first : List ℕ
  pub lines : List ℕ
  pub whole : string_bytes t.text ≡ first ++ lines
  pub told : IsToldOn k list policy from t.answer first
  pub flows : AreFlows policy (run k list) lapses lines

abbrev pub IsToldFlowing : KernelState → List ℕ → Option (List Stated) → ℕ → List Lapse → Result Told Exit → Type 0
IsToldFlowing k list policy from lapses (Ok t) = IsFlowing k list policy from lapses t
IsToldFlowing k list policy from lapses (Err exit) = IsUntoldOn k list policy exit

-- the same of a span of a run, by an order or round robin
abbrev pub IsToldIn : KernelState → Option BlockList → Option (List Stated) → Span → Bool → Answer → List ℕ → Type 0
IsToldIn k order policy span flow answer text = IsToldWith k (first_turns k order span.until) policy span.from flow answer text

abbrev pub IsUndecided : KernelState → Option BlockList → Option (List Stated) → Span → Bool → Exit → Type 0
IsUndecided k order policy span flow (Misnamed line expected number) = IsMisnamedOn k (told_turns flow span.from (first_turns k order span.until)) policy line expected number
IsUndecided k order policy span flow (Idle line) = IsIdleIn k order span.until line
IsUndecided k order policy span flow Memory = Unit {0}
IsUndecided k order policy span flow _ = ⊥

abbrev pub IsDecided : KernelState → Option BlockList → Option (List Stated) → Span → Bool → Result Told Exit → Type 0
IsDecided k order policy span flow (Ok t) = IsToldIn k order policy span flow t.answer (string_bytes t.text)
IsDecided k order policy span flow (Err exit) = IsUndecided k order policy span flow exit
