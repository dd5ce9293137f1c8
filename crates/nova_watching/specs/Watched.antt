-- What is told of states on a run, up to the first in which sides aren't isolated.
use Rattle.std.specs.Prelude.{◌≡◌, ℕ, ◌+◌, ◌≤◌, Bool, true, false, List, [], ◌∷◌, ◌++◌, length, Option, Some, None, string_bytes}
use Rattle.nova_model.specs.Runs.{after, run}
use Rattle.nova_model.specs.State.{KernelState}
use Rattle.nova_model.specs.declared.event.Turn.{Turn}
use Rattle.nova_model.specs.declared.event.Turn.TheVariants.{Idle, Stepped}
use Rattle.nova_ties.specs.Ties.{label_in}
use Rattle.law_sides.specs.Isolated.{AreIsolated}
use Rattle.nova_naming.specs.Statements.{Stated}
use Rattle.nova_judging.specs.Answers.{AreFinest, IsFinestAnswer, IsNamedAnswer, ties_beside}
use Rattle.nova_judging.specs.Labelled.{flows_between, labels_of, shared_by}
use Rattle.nova_judging.specs.declared.answer.Answer.{Answer}
use Rattle.nova_judging.specs.declared.answer.Answer.TheVariants.{Breach, Stuck}
use Rattle.nova_judging.specs.declared.answer.Told.{Told}
use Rattle.nova_report.specs.Report.{is_silent}

-- the policy that trusts the root's domain alone, and names no side
abbrev pub trusted_root : List Stated
trusted_root = record { line = 1; side = None; domains = 0 ∷ []; semaphores = []; flow = None } ∷ []

-- the text of an answer: of the sides of a policy, as it names them; or of the finest beside a trusted root
abbrev pub IsTold : Option (List Stated) → KernelState → Answer → List ℕ → Type 0
IsTold None k answer text = IsFinestAnswer trusted_root k answer text
IsTold (Some policy) k answer text = IsNamedAnswer policy k answer text

-- it says that they aren't isolated
abbrev pub is_breaking : Answer → Bool
is_breaking Breach = true
is_breaking Stuck = true
is_breaking other = false

-- the sides of a policy are isolated, as it names them; or, without one, some are beside a trusted root
pub record HasFinest (policy : List Stated) (k : KernelState) : Type 0 where
  pub new : List ℕ
  pub finest : AreFinest (ties_beside [] policy k) (labels_of policy k) new

abbrev pub AreIsolatedBy : Option (List Stated) → KernelState → Type 0
AreIsolatedBy None k = HasFinest trusted_root k
AreIsolatedBy (Some policy) k = AreIsolated (shared_by policy) (flows_between policy) k (label_in (labels_of policy k))

-- ON A RUN

-- in the state before each of these turns they are isolated, where at least `from` turns were taken
abbrev pub AreIsolatedBefore : Option (List Stated) → ℕ → KernelState → ℕ → List ℕ → Type 0
AreIsolatedBefore policy from k n [] = Unit {0}
AreIsolatedBefore policy from k n (cpu ∷ cpus) = (from ≤ n → AreIsolatedBy policy k) × AreIsolatedBefore policy from (after k cpu) (n + 1) cpus

-- the first state, after at least `from` turns, in which they aren't, and what is told of it
pub record IsBrokenOn (policy : Option (List Stated)) (from : ℕ) (k : KernelState) (n : ℕ) (list : List ℕ) (t : Told) : Type 0 where
  pub taken : List ℕ
  pub left : List ℕ
  pub whole : taken ++ left ≡ list
  pub isolated : AreIsolatedBefore policy from k n taken
  pub late : from ≤ n + length taken
  pub told : IsTold policy (run k taken) t.answer (string_bytes t.text)
  pub breaking : is_breaking t.answer ≡ true

-- turns were taken, and the sides were isolated before each; or in one of these states they weren't
abbrev pub IsWatched : Option (List Stated) → ℕ → KernelState → ℕ → List ℕ → KernelState → Option Told → Type 0
IsWatched policy from k n list now None = (now ≡ run k list) × AreIsolatedBefore policy from k n list
IsWatched policy from k n list now (Some t) = IsBrokenOn policy from k n list t

-- the same of one state
abbrev pub IsToldFrom : Option (List Stated) → ℕ → KernelState → ℕ → Option Told → Type 0
IsToldFrom policy from k n None = from ≤ n → AreIsolatedBy policy k
IsToldFrom policy from k n (Some t) = (from ≤ n) × (IsTold policy k t.answer (string_bytes t.text) × (is_breaking t.answer ≡ true))

-- THE SAME TIES

abbrev pub is_plain : Turn → Bool
is_plain (Stepped e) = is_silent e.kind
is_plain Idle = false

-- it is known that the sides are isolated in a state, or it isn't
abbrev pub IsKnown : Bool → Option (List Stated) → KernelState → Type 0
IsKnown true policy k = AreIsolatedBy policy k
IsKnown false policy k = Unit {0}
