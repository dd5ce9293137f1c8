-- Which turns tell ticks, in alike states.
use Rattle.std.proofs.Common.{◌≡◌, ℕ, refl, sym, ap, ◌∙◌, subst}
use Rattle.std.specs.Prelude.{false, Option, Some, None, IfSome}
use Rattle.nova_model.specs.Choice.{Candidate, next_to_act}
use Rattle.nova_model.specs.Deeds.{deed}
use Rattle.nova_model.specs.State.{KernelState}
use Rattle.nova_model.specs.Times.{Times}
use Rattle.nova_model.specs.declared.deed.Deed.{Deed}
use Rattle.law_alike.specs.Alike.{IsAlike, TellsNoTicks, tells_ticks}
use Rattle.law_alike.proofs.Doing.{AreDeedsAlike, Later, Same, deeds_alike}
use Rattle.law_swaps.proofs.Likeness.{HasPair, pair_of}

told_alike : (t u : Times) (d e : Deed) → AreDeedsAlike t u d e → tells_ticks d ≡ tells_ticks e
told_alike t u d e (Same plain is) = ap tells_ticks is
told_alike t u d e (Later sm a b first second far) = ap tells_ticks first ∙ sym (ap tells_ticks second)

pub told_same : (k l : KernelState) (cpu : ℕ) → IsAlike k l → TellsNoTicks k cpu → TellsNoTicks l cpu
told_same k l cpu alike quiet = by_next (next_to_act l cpu) refl
  where
    none_told : (c : Candidate) → next_to_act k cpu ≡ Some c → tells_ticks (deed k c.actor) ≡ false
    none_told c next = subst (λ (o : Option Candidate). IfSome o (λ (x : Candidate). tells_ticks (deed k x.actor) ≡ false)) next quiet

    by_pair : (d : Candidate) → HasPair k l cpu d → tells_ticks (deed l d.actor) ≡ false
    by_pair d pair =
        let quiet_there = none_told pair.candidate pair.next in
        subst (λ (ec : ℕ). tells_ticks (deed l ec) ≡ false) pair.actor
        (sym (told_alike k.times l.times (deed k pair.candidate.actor) (deed l pair.candidate.actor) (deeds_alike k l pair.candidate.actor alike quiet_there)) ∙ quiet_there)

    by_next : (o : Option Candidate) → next_to_act l cpu ≡ o → IfSome o (λ (x : Candidate). tells_ticks (deed l x.actor) ≡ false)
    by_next None is = tt
    by_next (Some d) is = by_pair d (pair_of k l cpu d alike is)
