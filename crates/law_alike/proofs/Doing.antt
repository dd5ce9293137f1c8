-- What contexts decide in alike states is alike, and so is what it does to all but what is counted.
use Rattle.std.proofs.Common.{◌≡◌, ℕ, ◌+◌, refl, sym, ap, ap₂, ◌∙◌, subst, arith}
use Rattle.std.specs.Prelude.{Bool, true, false, Some, None, Result, Ok, if◌then◌else◌}
use Rattle.nova_calls.specs.Hypercalls.{call_of}
use Rattle.nova_calls.specs.declared.call.Call.{Call}
use Rattle.nova_calls.specs.declared.call.Call.TheVariants as asks
use Rattle.nova_calls.specs.declared.call.SmAction.TheVariants as act
use Rattle.nova_range.specs.declared.status.Status.{Status}
use Rattle.nova_model.specs.Deeds.{deed, sign_of}
use Rattle.nova_model.specs.Hypercalls.{deadline_after}
use Rattle.nova_model.specs.State.{KernelState, context, processor_of}
use Rattle.nova_model.specs.Times.{Times, clock}
use Rattle.nova_model.specs.declared.context.Mark.TheVariants as mark
use Rattle.nova_model.specs.declared.deed.Deed.{Deed}
use Rattle.nova_model.specs.declared.deed.Deed.TheVariants.{Blocks, Finishes, Replies, Tells, Ups}
use Rattle.nova_model.specs.declared.times.Deadline.{Deadline}
use Rattle.law_forest.specs.Effects.{Effect, applied, deadline_by, effect, made_by}
use Rattle.law_alike.specs.Alike.{IsAlike, IsDeadlineAlike, tells_ticks, uncounted}
use Rattle.law_alike.proofs.Deciding.{blank, counting, counting_is, deed_same}
use Rattle.law_alike.proofs.Late.{IsLateBy, late, late_deed}
use Rattle.law_alike.proofs.Moments.{IsSetAlike}

-- the same deed, which waits to no deadline; or both wait to one that is as far from its clock
pub data AreDeedsAlike (t u : Times) (d e : Deed) : Type 0 where
  Same : late d ≡ false → d ≡ e → AreDeedsAlike t u d e
  Later : (sm : ℕ) (a b : Deadline) → d ≡ Blocks sm (Some a) → e ≡ Blocks sm (Some b) → IsDeadlineAlike t u (Some a) (Some b) → AreDeedsAlike t u d e

pub late_blank : (d : Deed) → late (blank d) ≡ late d
late_blank (Blocks sm None) = refl
late_blank (Blocks sm (Some d)) = refl
late_blank other = refl

pub told_blank : (d : Deed) → tells_ticks (blank d) ≡ tells_ticks d
told_blank (Blocks sm None) = refl
told_blank (Blocks sm (Some d)) = refl
told_blank other = refl

pub blank_plain : (d : Deed) → late d ≡ false → tells_ticks d ≡ false → blank d ≡ d
blank_plain (Tells call value) plain quiet = ap (λ (t : Bool). Tells call (if t then 0 else value)) quiet
blank_plain (Blocks sm None) plain quiet = refl
blank_plain (Blocks sm (Some d)) plain quiet = absurd (cc)
blank_plain other plain quiet = refl

abbrev pub ticks_of : Result Call Status → ℕ
ticks_of (Ok (asks.SmCtrl selector (act.DownWithin ticks))) = ticks
ticks_of other = 0

abbrev pub semaphore_of : Deed → ℕ
semaphore_of (Blocks sm until) = sm
semaphore_of other = 0

pub semaphore_blank : (d : Deed) → semaphore_of (blank d) ≡ semaphore_of d
semaphore_blank (Blocks sm None) = refl
semaphore_blank (Blocks sm (Some d)) = refl
semaphore_blank other = refl

same_context : (k l : KernelState) (ec : ℕ) → IsAlike k l → context k ec ≡ context l ec
same_context k l ec alike = ap (λ (u : KernelState). context u ec) alike.rest

same_processor : (k l : KernelState) (ec : ℕ) → IsAlike k l → processor_of k ec ≡ processor_of l ec
same_processor k l ec alike = ap (λ (u : KernelState). processor_of u ec) alike.rest

until_alike : (k l : KernelState) (ec sm ticks : ℕ) → IsAlike k l → IsDeadlineAlike k.times l.times (Some (deadline_after k ec sm ticks)) (Some (deadline_after l ec sm ticks))
until_alike k l ec sm ticks alike = (
  same_processor k l ec alike,
  refl,
  subst (λ (c : ℕ). clock k.times (processor_of k ec) + 1 + ticks + clock l.times (processor_of k ec) ≡ clock l.times c + 1 + ticks + clock k.times (processor_of k ec)) (same_processor k l ec alike) (omega arith),
)

pub deeds_alike : (k l : KernelState) (ec : ℕ) → IsAlike k l → tells_ticks (deed k ec) ≡ false → AreDeedsAlike k.times l.times (deed k ec) (deed l ec)
deeds_alike k l ec alike quiet = by_late (late (deed k ec)) refl
  where
    blanks : blank (deed k ec) ≡ blank (deed l ec)
    blanks = deed_same k l ec ∙ ap (λ (s : KernelState). blank (deed s ec)) (counting_is k l alike.rest)

    same_late : late (deed l ec) ≡ late (deed k ec)
    same_late = sym (late_blank (deed l ec)) ∙ ap late (sym blanks) ∙ late_blank (deed k ec)

    same_told : tells_ticks (deed l ec) ≡ tells_ticks (deed k ec)
    same_told = sym (told_blank (deed l ec)) ∙ ap tells_ticks (sym blanks) ∙ told_blank (deed k ec)

    both_late : IsLateBy k ec (call_of (context k ec).regs) (deed k ec) → IsLateBy l ec (call_of (context l ec).regs) (deed l ec) → AreDeedsAlike k.times l.times (deed k ec) (deed l ec)
    both_late a b =
        let ticks : b.ticks ≡ a.ticks = sym (ap ticks_of b.call) ∙ ap (λ (u : KernelState). ticks_of (call_of (context u ec).regs)) (sym alike.rest) ∙ ap ticks_of a.call in
        let sm : b.sm ≡ a.sm = sym (ap semaphore_of b.is) ∙ sym (semaphore_blank (deed l ec)) ∙ ap semaphore_of (sym blanks) ∙ semaphore_blank (deed k ec) ∙ ap semaphore_of a.is in
        Later a.sm (deadline_after k ec a.sm a.ticks) (deadline_after l ec a.sm a.ticks) a.is
        (b.is ∙ ap₂ (λ (s t : ℕ). Blocks s (Some (deadline_after l ec s t))) sm ticks)
        (until_alike k l ec a.sm a.ticks alike)

    by_late : (t : Bool) → late (deed k ec) ≡ t → AreDeedsAlike k.times l.times (deed k ec) (deed l ec)
    by_late false is = Same is (sym (blank_plain (deed k ec) is quiet) ∙ blanks ∙ blank_plain (deed l ec) (same_late ∙ is) (same_told ∙ quiet))
    by_late true is = both_late (late_deed k ec is) (late_deed l ec (same_late ∙ is))

-- what alike deeds have the same
pub signs_alike : (t u : Times) (d e : Deed) → AreDeedsAlike t u d e → sign_of d ≡ sign_of e
signs_alike t u d e (Same plain is) = ap sign_of is
signs_alike t u d e (Later sm a b first second far) = ap sign_of first ∙ sym (ap sign_of second)

pub made_alike : (t u : Times) (d e : Deed) → AreDeedsAlike t u d e → made_by d ≡ made_by e
made_alike t u d e (Same plain is) = ap made_by is
made_alike t u d e (Later sm a b first second far) = ap made_by first ∙ sym (ap made_by second)

-- and the deadline that they set
set_by : (t u : Times) (ec : ℕ) (d : Deed) → late d ≡ false → IsSetAlike t u (deadline_by ec d) (deadline_by ec d)
set_by t u ec (Ups sm None) plain = tt
set_by t u ec (Ups sm (Some woken)) plain = (refl, tt)
set_by t u ec (Blocks sm None) plain = tt
set_by t u ec (Blocks sm (Some until)) plain = absurd (cc)
set_by t u ec other plain = tt

pub sets_alike : (t u : Times) (ec : ℕ) (d e : Deed) → AreDeedsAlike t u d e → IsSetAlike t u (deadline_by ec d) (deadline_by ec e)
sets_alike t u ec d e (Same plain is) = subst (λ (f : Deed). IsSetAlike t u (deadline_by ec d) (deadline_by ec f)) is (set_by t u ec d plain)
sets_alike t u ec d e (Later sm a b first second far) =
    subst (λ (f : Deed). IsSetAlike t u (deadline_by ec f) (deadline_by ec e)) (sym first)
    (subst (λ (f : Deed). IsSetAlike t u (deadline_by ec (Blocks sm (Some a))) (deadline_by ec f)) (sym second) (refl, far))

-- THE REST

effect_same : (k l : KernelState) (ec : ℕ) (d : Deed) → effect k ec d ≡ effect (counting k l) ec d
effect_same k l ec (Finishes item end None after) = refl
effect_same k l ec (Finishes item end (Some words) after) = refl
effect_same k l ec (Replies caller mark.Call true) = refl
effect_same k l ec (Replies caller mark.Call false) = refl
effect_same k l ec (Replies caller mark.Exit true) = refl
effect_same k l ec (Replies caller mark.Exit false) = refl
effect_same k l ec other = refl

-- the rest after an effect, by the rest before it
pub applied_alike : (k l : KernelState) (e : Effect) → uncounted k ≡ uncounted l → uncounted (applied k e) ≡ uncounted (applied l e)
applied_alike k l e same = ap (λ (u : KernelState). uncounted (applied u e)) same

abbrev rest_by : KernelState → ℕ → Deed → KernelState
rest_by l ec d = uncounted (applied l (effect l ec d))

rests_same : (t u : Times) (l : KernelState) (ec : ℕ) (d e : Deed) → AreDeedsAlike t u d e → rest_by l ec d ≡ rest_by l ec e
rests_same t u l ec d e (Same plain is) = ap (rest_by l ec) is
rests_same t u l ec d e (Later sm a b first second far) = ap (rest_by l ec) first ∙ sym (ap (rest_by l ec) second)

pub rests_alike : (k l : KernelState) (ec : ℕ) → IsAlike k l → AreDeedsAlike k.times l.times (deed k ec) (deed l ec) → uncounted (applied k (effect k ec (deed k ec))) ≡ uncounted (applied l (effect l ec (deed l ec)))
rests_alike k l ec alike deeds =
    applied_alike k l (effect k ec (deed k ec)) alike.rest
    ∙ ap (λ (e : Effect). uncounted (applied l e)) (effect_same k l ec (deed k ec))
    ∙ ap (λ (s : KernelState). uncounted (applied l (effect s ec (deed k ec)))) (counting_is k l alike.rest)
    ∙ rests_same k.times l.times l ec (deed k ec) (deed l ec) deeds
