-- Lines that tell of each side whether the premises of noninterference on divided processors hold in a state, and until when it is at work.
use Rattle.std.specs.Prelude.{◌≡◌, ◌⊎◌, ℕ, ◌++◌, Bool, true, false, List, [], drop, length, take, Option, Some, None, string_bytes}
use Rattle.nova_model.specs.Runs.{IsFreeOfIdle, run}
use Rattle.nova_model.specs.State.{KernelState}
use Rattle.nova_ties.specs.Ties.{IsStuck, label_in}
use Rattle.nova_ties.specs.declared.tie.Tie.{Tie}
use Rattle.nova_flowing.specs.Lines.{flow_lines}
use Rattle.nova_flowing.specs.Working.{IsWorkEnd, work_by}
use Rattle.nova_flowing.specs.declared.lapse.Lapse.{Lapse}
use Rattle.nova_naming.specs.Statements.{Stated}
use Rattle.nova_judging.specs.Answers.{AreFinest, ties_beside}
use Rattle.nova_judging.specs.Labelled.{labels_of}
use Rattle.nova_judging.specs.declared.answer.Told.{Told}
use Rattle.nova_watching.specs.Watched.{trusted_root}

-- of the finest sides to which those of a policy can be joined; or none, where they can't be
pub record AreFlowsOfFinest (policy : List Stated) (k : KernelState) (lapses : List Lapse) (text : List ℕ) : Type 0 where
  pub new : List ℕ
  pub finest : AreFinest (ties_beside [] policy k) (labels_of policy k) new
  pub lines : text ≡ flow_lines policy k lapses new

pub record AreFlowsOfNone (policy : List Stated) (k : KernelState) (text : List ℕ) : Type 0 where
  pub tie : Tie
  pub stuck : IsStuck (ties_beside [] policy k) (label_in (labels_of policy k)) tie
  pub none : text ≡ []

abbrev pub AreFinestFlows : List Stated → KernelState → List Lapse → List ℕ → Type 0
AreFinestFlows policy k lapses text = AreFlowsOfFinest policy k lapses text ⊎ AreFlowsOfNone policy k text

-- of the sides of a policy, as it names them; or of the finest beside a trusted root
abbrev pub AreFlows : Option (List Stated) → KernelState → List Lapse → List ℕ → Type 0
AreFlows None k lapses text = AreFinestFlows trusted_root k lapses text
AreFlows (Some policy) k lapses text = text ≡ flow_lines policy k lapses (labels_of policy k)

-- The lines of the state after the first of these turns, at most so many. Until when a side is at work is told of the turns after these, by the law's own definition: of each set of domains the first of
-- the lapses that is of it is the first turn in which it isn't. It may revoke exactly where nothing that others hold in that state was made of what it holds; else the first such derivation is told.
pub record AreFlowsOn (policy : Option (List Stated)) (k : KernelState) (from : ℕ) (list text : List ℕ) : Type 0 where
  pub no_idle : IsFreeOfIdle k list
  pub lapses : List Lapse
  pub works : (S : ℕ → Bool) → IsWorkEnd S (run k (take from list)) (length (take from list)) (drop from list) (work_by (run k (take from list)).delegations.list S lapses)
  pub lines : AreFlows policy (run k (take from list)) lapses text

-- where they are asked for
abbrev pub AreFlowsIf : Bool → Option (List Stated) → KernelState → ℕ → List ℕ → List ℕ → Type 0
AreFlowsIf false policy k from list text = text ≡ []
AreFlowsIf true policy k from list text = AreFlowsOn policy k from list text

-- what was told, with lines after it
pub record HasLines (first : Told) (lines : List ℕ) (t : Told) : Type 0 where
  pub answer : t.answer ≡ first.answer
  pub text : string_bytes t.text ≡ string_bytes first.text ++ lines
