-- What is told of sides that are isolated.
use Rattle.std.proofs.Common.{◌≡◌, ℕ, Bool, true, false, List, Option, Some, None, inl, inr, ap, sym, ◌∙◌}
use Rattle.nova_model.specs.State.{KernelState}
use Rattle.nova_ties.specs.Ties.{label_in}
use Rattle.law_sides.specs.Isolated.{AreIsolated}
use Rattle.nova_naming.specs.Statements.{Stated}
use Rattle.nova_sides.specs.Verdicts.{IsJudged}
use Rattle.nova_sides.specs.declared.judging.Verdict.{Verdict}
use Rattle.nova_sides.specs.declared.judging.Verdict.TheVariants as verdict
use Rattle.nova_judging.specs.Answers.{answer_of}
use Rattle.nova_judging.specs.Labelled.{are_two, flows_between, labels_of, shared_by}
use Rattle.nova_judging.specs.declared.answer.Answer.{Answer}
use Rattle.nova_watching.specs.Watched.{AreIsolatedBy, IsTold, is_breaking}

by_verdict : (shared : ℕ → Bool) (flows : ℕ → ℕ → Bool) (k : KernelState) (label : ℕ → ℕ) (two : Bool) (v : Verdict) → IsJudged shared flows k label v → is_breaking (answer_of two v) ≡ false → AreIsolated shared flows k label
by_verdict shared flows k label two verdict.Apart is whole = is.0
by_verdict shared flows k label two (verdict.Served why) is whole = is.0
by_verdict shared flows k label two (verdict.Breach t) is whole = absurd (cc)

pub unbroken : (policy : Option (List Stated)) (k : KernelState) (answer : Answer) (text : List ℕ) → IsTold policy k answer text → is_breaking answer ≡ false → AreIsolatedBy policy k
unbroken None k answer text (inl found) whole = record { new = found.new; finest = found.finest }
unbroken None k answer text (inr none) whole = absurd (let broken : is_breaking answer ≡ true = ap is_breaking none.0 in let both : true ≡ false = sym broken ∙ whole in cc)
unbroken (Some policy) k answer text told whole =
    by_verdict (shared_by policy) (flows_between policy) k (label_in (labels_of policy k)) (are_two (labels_of policy k)) told.verdict told.judged (sym (ap is_breaking told.is) ∙ whole)
