-- What a text tells, by what was answered.
use Rattle.std.proofs.Common.{◌≡◌, ℕ, List, subst, sym}
use Rattle.std.specs.List.{AllByRecursion}
use Rattle.nova_model.specs.State.{KernelState}
use Rattle.nova_asking.specs.Answers.{AreCounts, AreDistinct, AreEnds, IsAnswer, IsEnd, outcomes}
use Rattle.nova_asking.specs.declared.answer.Answer.{Answer}
use Rattle.nova_asking.specs.declared.answer.Answer.TheVariants as answer
use Rattle.nova_asking.specs.declared.ends.End.{End}
use Rattle.nova_asking.specs.declared.extent.Extent.{Extent}
use Rattle.nova_asking.specs.declared.extent.Extent.TheVariants.{All, Within, Cut}
use Rattle.nova_asking.specs.declared.question.Question.{Question}
use Rattle.nova_explore.specs.Tellings.{AreEndsTold, IsAnswered, of_extent, verdict_of}
use Rattle.nova_explore.specs.Texts.{answer_text, ends_text}
use Rattle.nova_explore.specs.declared.verdict.Verdict.{Verdict}

module _ (q : Question) (k : KernelState) (cpus limit most : ℕ) (text : List ℕ) where
  told : (a : Answer) → IsAnswer q k limit most a → text ≡ answer_text cpus limit a → IsAnswered q k cpus limit most (verdict_of a) text
  told (answer.Found order states) by is = record { blocks = order.blocks; order = by.order; leads = by.leads; states = states; count = by.found; tells = is }
  told (answer.Never All states absent) by is = record { never = by.never; states = states; count = by.count; none = by.none; equal = by.equal; named = absent; absent = by.absent; tells = is }
  told (answer.Never Within states absent) by is = record { never = by.never; states = states; count = by.count; none = by.none; equal = by.equal; named = absent; absent = by.absent; tells = is }
  told (answer.Never Cut states absent) by is = record { never = by.never; states = states; count = by.count; none = by.none; equal = by.equal; named = absent; absent = by.absent; tells = is }

  pub answered : (n m : ℕ) (a : Answer) (v : Verdict) → n ≡ limit → m ≡ most → IsAnswer q k n m a → text ≡ answer_text cpus limit a → v ≡ verdict_of a →
      IsAnswered q k cpus limit most v text
  answered n m a v turns expanded by is verdict =
      subst (λ (w : Verdict). IsAnswered q k cpus limit most w text) (sym verdict)
      (told a (subst (λ (l : ℕ). IsAnswer q k limit l a) expanded (subst (λ (l : ℕ). IsAnswer q k l m a) turns by)) is)

module _ (k : KernelState) (cpus limit most states : ℕ) (ends : List End) (text : List ℕ) (each : AllByRecursion (IsEnd k limit) ends) (once : AreDistinct (outcomes ends)) where
  told_ends : (extent : Extent) → AreEnds k limit extent (outcomes ends) → AreCounts k limit most extent states ends → text ≡ ends_text cpus limit extent states ends
      → AreEndsTold k cpus limit most (of_extent extent) text
  told_ends All all counts is = record { ends = ends; each = each; once = once; all = all; states = states; counts = counts; tells = is }
  told_ends Within all counts is = record { ends = ends; each = each; once = once; all = all; states = states; counts = counts; tells = is }
  told_ends Cut all counts is = record { ends = ends; each = each; once = once; all = all; states = states; counts = counts; tells = is }

  pub ended : (n m : ℕ) (extent : Extent) (v : Verdict) → n ≡ limit → m ≡ most → AreEnds k n extent (outcomes ends) → AreCounts k n m extent states ends
      → text ≡ ends_text cpus limit extent states ends → v ≡ of_extent extent → AreEndsTold k cpus limit most v text
  ended n m extent v turns expanded all counts is verdict =
      subst (λ (w : Verdict). AreEndsTold k cpus limit most w text) (sym verdict)
      (told_ends extent (subst (λ (l : ℕ). AreEnds k l extent (outcomes ends)) turns all) (subst (λ (l : ℕ). AreCounts k limit l extent states ends) expanded (subst (λ (l : ℕ). AreCounts k l m extent states ends) turns counts)) is)
