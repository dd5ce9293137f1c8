-- What is answered of a policy in a state.
use Rattle.std.specs.Prelude.{◌≡◌, ℕ, ◌==◌, ◌≤◌, ◌^◌, ◌⊎◌, Bool, if◌then◌else◌, List, [], length, ◌++◌, codes, decimal, Option, Some, None}
use Rattle.nova_model.specs.State.{KernelState}
use Rattle.nova_report.specs.Words.{line_feed}
use Rattle.nova_ties.specs.Ties.{AreLeast, AreRespected, IsCoarser, IsStuck, label_in}
use Rattle.nova_ties.specs.declared.tie.Tie.{Tie}
use Rattle.law_sides.specs.Tied.{flowing, reading, ties}
use Rattle.nova_naming.specs.Labels.{flows_of, semaphores_of}
use Rattle.nova_naming.specs.Statements.{Stated}
use Rattle.nova_sides.specs.Among.{flows_in, is_flow}
use Rattle.nova_sides.specs.Verdicts.{IsJudged}
use Rattle.nova_sides.specs.declared.judging.Verdict.{Verdict}
use Rattle.nova_sides.specs.declared.judging.Verdict.TheVariants as verdict
use Rattle.nova_judging.specs.Labelled.{are_two, flows_between, labels_of, shared_by}
use Rattle.nova_judging.specs.Lines.{judged_lines, stuck_lines, tie_lines}
use Rattle.nova_judging.specs.Memory.{flowing_lines, reading_lines}
use Rattle.nova_judging.specs.Processors.{processor_lines}
use Rattle.nova_judging.specs.Sharing.{shared_lines}
use Rattle.nova_judging.specs.Sides.{side_lines}
use Rattle.nova_judging.specs.declared.answer.Answer.{Answer}
use Rattle.nova_judging.specs.declared.answer.Answer.TheVariants.{Apart, Served, Single, Breach, Stuck}
use Rattle.nova_judging.specs.declared.answer.Facts.{Facts}

-- the answer of a verdict, where there are two sides or not
abbrev pub answer_if : Bool → Answer → Answer
answer_if two answer = if two then answer else Single

abbrev pub answer_of : Bool → Verdict → Answer
answer_of two (verdict.Breach t) = Breach
answer_of two verdict.Apart = answer_if two Apart
answer_of two (verdict.Served why) = answer_if two Served

-- THE FINEST SIDES

-- the ties of a policy's sides, beside the semaphores that they share, and the memory that flows between them by these flows
abbrev pub ties_beside : List (ℕ × ℕ) → List Stated → KernelState → List Tie
ties_beside flows policy k = ties (shared_by policy) (flows_in flows (labels_of policy k)) k

-- labels were joined to the finest that respect these ties, and trust no more; each side has the least of its own
pub record AreFinest (tied : List Tie) (old new : List ℕ) : Type 0 where
  pub respected : AreRespected (label_in new) tied
  pub trusted : (n : ℕ) → (label_in new n == 0) ≡ (label_in old n == 0)
  pub joined : IsCoarser (label_in new) (label_in old)
  pub finest : (label : ℕ → ℕ) → AreRespected label tied → IsCoarser label (label_in old) → IsCoarser label (label_in new)
  pub least : AreLeast (label_in new) (label_in old)

-- or no labels can be, for a tie that leads to what is trusted
abbrev pub AreSettled : List Tie → List ℕ → List ℕ → Option Tie → Type 0
AreSettled tied old new None = AreFinest tied old new
AreSettled tied old new (Some t) = IsStuck tied (label_in old) t

-- TEXTS

abbrev pub turn_line : KernelState → List ℕ
turn_line k = codes "turn " ++ (decimal k.turns ++ line_feed)

-- the finest sides to which those of some labels are joined, or the tie for which there are none
abbrev pub finest_lines : List Stated → KernelState → List ℕ → List ℕ → Option Tie → List ℕ
finest_lines policy k old new None = side_lines policy new k.objects
finest_lines policy k old new (Some t) = stuck_lines policy old k.delegations.list t

-- the memory that two sides reach and neither may write
abbrev pub read_lines : List Stated → KernelState → List ℕ → List ℕ
read_lines policy k labels = reading_lines policy labels k.delegations.list (reading (label_in labels) k)

-- what sides share, what flows between them and what they read
abbrev pub between_lines : List Stated → KernelState → List ℕ → List ℕ
between_lines policy k labels = shared_lines policy k labels ++ (flowing_lines policy labels k.delegations.list (flowing (flows_in (flows_of policy) labels) k)
    ++ read_lines policy k labels)

-- what is told of the sides as a policy names them: the verdict, the finest sides to which they can be joined, what they share, what flows between them and what they read, processors, and the ties
abbrev pub named_text : List Stated → KernelState → List ℕ → List ℕ → Option Tie → Verdict → List ℕ
named_text policy k labels new stuck v = turn_line k ++ (judged_lines policy labels k k.delegations.list v
    ++ (finest_lines policy k labels new stuck ++ (between_lines policy k labels
    ++ (processor_lines policy k labels ++ tie_lines policy labels (ties_beside (flows_of policy) policy k)))))

-- what is told of the finest sides: between these nothing flows
abbrev pub finest_text : List Stated → KernelState → List ℕ → List ℕ → Verdict → List ℕ
finest_text policy k labels new v = turn_line k ++ (judged_lines policy new k k.delegations.list v
    ++ (side_lines policy new k.objects ++ (read_lines policy k new ++ (processor_lines policy k new ++ tie_lines policy labels (ties_beside [] policy k)))))

abbrev pub stuck_text : List Stated → KernelState → List ℕ → Tie → List ℕ
stuck_text policy k labels t = turn_line k ++ (stuck_lines policy labels k.delegations.list t ++ tie_lines policy labels (ties_beside [] policy k))

-- ANSWERS

-- the sides of a policy, as it names them, in a state
pub record IsNamedAnswer (policy : List Stated) (k : KernelState) (answer : Answer) (text : List ℕ) : Type 0 where
  pub verdict : Verdict
  pub judged : IsJudged (shared_by policy) (flows_between policy) k (label_in (labels_of policy k)) verdict
  pub is : answer ≡ answer_of (are_two (labels_of policy k)) verdict
  pub new : List ℕ
  pub stuck : Option Tie
  pub settled : AreSettled (ties_beside (flows_of policy) policy k) (labels_of policy k) new stuck
  pub told : text ≡ named_text policy k (labels_of policy k) new stuck verdict

-- the finest sides to which those of a policy can be joined, where nothing flows
pub record AreFound (policy : List Stated) (k : KernelState) (answer : Answer) (text : List ℕ) : Type 0 where
  pub new : List ℕ
  pub finest : AreFinest (ties_beside [] policy k) (labels_of policy k) new
  pub verdict : Verdict
  pub judged : IsJudged (shared_by policy) (is_flow []) k (label_in new) verdict
  pub is : answer ≡ answer_of (are_two new) verdict
  pub told : text ≡ finest_text policy k (labels_of policy k) new verdict

-- or none to which they can
pub record AreNone (policy : List Stated) (k : KernelState) (text : List ℕ) : Type 0 where
  pub tie : Tie
  pub stuck : IsStuck (ties_beside [] policy k) (label_in (labels_of policy k)) tie
  pub told : text ≡ stuck_text policy k (labels_of policy k) tie

abbrev pub IsFinestAnswer : List Stated → KernelState → Answer → List ℕ → Type 0
IsFinestAnswer policy k answer text = AreFound policy k answer text ⊎ ((answer ≡ Stuck) × AreNone policy k text)

-- what is asked of a state, where memory flows so
pub record IsGathered (flowing : List (ℕ × ℕ)) (policy : List Stated) (k : KernelState) (f : Facts) : Type 0 where
  pub ties : f.ties.items ≡ ties_beside flowing policy k
  pub list : f.list.items ≡ k.delegations.list
  pub labels : f.labels.items ≡ labels_of policy k
  pub shared : f.shared.items ≡ semaphores_of policy
  pub flows : f.flows.items ≡ flowing
  pub few : length f.labels.items ≤ 2 ^ 31
