-- What is told of a message is one thing.
use Rattle.std.proofs.Common.{◌≡◌, ℕ, zero, suc, ◌+◌, ◌<◌, ◌≤◌, List, get_or, ap, sym, ◌∙◌, subst, inl, inr, arith}
use Rattle.std.specs.Prelude.{Some}
use Rattle.std.proofs.lemmas.Bool.{cases_Bool, cases_lt}
use Rattle.std.proofs.lemmas.List.{ext_get_or}
use Rattle.nova_guest.specs.declared.input.Input.TheVariants.{Reply}
use Rattle.law_isolation.specs.Sound.{IsSound, IsVirtual}
use Rattle.nova_model.specs.Guests.{input}
use Rattle.nova_model.specs.State.{KernelState, message}
use Rattle.law_origins.specs.Giving.{Acts}
use Rattle.nova_range.specs.Mtds.{names}
use Rattle.nova_range.specs.declared.mtd.Mtd.{Mtd}
use Rattle.nova_range.specs.declared.mtd.TheConstants.Mtd.{PC, LOW, HIGH}
use Rattle.law_views.specs.Said.{Answers, IsToldReply, TellsOf}
use Rattle.law_views.proofs.Done.{replied_told}

same_groups : (m : List ℕ) (a b : Mtd) (words others : List ℕ) → TellsOf m a words → TellsOf m b others → a ≡ b
same_groups m a b words others s t = ap (λ (n : ℕ). record { 0 = n }) (s.groups ∙ sym t.groups)

-- each word
low_same : (m : List ℕ) (mtd : Mtd) (words others : List ℕ) → TellsOf m mtd words → TellsOf m mtd others → (x : ℕ) → 1 ≤ x → x < 16 →
    get_or words (x + 1) 0 ≡ get_or others (x + 1) 0
low_same m mtd words others s t x from below = elim (cases_Bool (names mtd LOW)) [
  | inl named ↦ s.low named x from below ∙ sym (t.low named x from below)
  | inr silent ↦ s.rest.low silent x from below ∙ sym (t.rest.low silent x from below)
]

high_same : (m : List ℕ) (mtd : Mtd) (words others : List ℕ) → TellsOf m mtd words → TellsOf m mtd others → (x : ℕ) → 16 ≤ x → x < 32 →
    get_or words (x + 1) 0 ≡ get_or others (x + 1) 0
high_same m mtd words others s t x from below = elim (cases_Bool (names mtd HIGH)) [
  | inl named ↦ s.high named x from below ∙ sym (t.high named x from below)
  | inr silent ↦ s.rest.high silent x from below ∙ sym (t.rest.high silent x from below)
]

register_same : (m : List ℕ) (mtd : Mtd) (words others : List ℕ) → TellsOf m mtd words → TellsOf m mtd others → (x : ℕ) → 1 ≤ x → x < 32 →
    get_or words (x + 1) 0 ≡ get_or others (x + 1) 0
register_same m mtd words others s t x from below = elim (cases_lt x 16) [
  | inl low ↦ low_same m mtd words others s t x from low
  | inr high ↦ high_same m mtd words others s t x high below
]

word_same : (m : List ℕ) (mtd : Mtd) (words others : List ℕ) → TellsOf m mtd words → TellsOf m mtd others → (i : ℕ) → i < 33 →
    get_or words i 0 ≡ get_or others i 0
word_same m mtd words others s t zero within = elim (cases_Bool (names mtd PC)) [
  | inl named ↦ s.pc named ∙ sym (t.pc named)
  | inr silent ↦ s.rest.pc silent ∙ sym (t.rest.pc silent)
]
word_same m mtd words others s t (suc zero) within = s.rest.unused ∙ sym t.rest.unused
word_same m mtd words others s t (suc (suc n)) within =
    let e : (n + 1) + 1 ≡ suc (suc n) = omega arith in
    subst (λ (i : ℕ). get_or words i 0 ≡ get_or others i 0) e (register_same m mtd words others s t (n + 1) (omega arith) (omega (arith, within)))

same_words : (m : List ℕ) (mtd : Mtd) (words others : List ℕ) → TellsOf m mtd words → TellsOf m mtd others → words ≡ others
same_words m mtd words others s t =
    ext_get_or 0 words others (s.rest.count ∙ sym t.rest.count) (λ i within. word_same m mtd words others s t i (let size = s.rest.count in omega (arith, within, size)))

pub answered_told : (k : KernelState) (cpu ec g : ℕ) (mtd : Mtd) (words : List ℕ) → IsSound k → IsVirtual k g → Acts k cpu ec → Answers k ec g mtd words →
    input k cpu g ≡ Some (Reply mtd words)
answered_told k cpu ec g mtd words sound virtual acts is =
    let told : IsToldReply (input k cpu g) (message k ec) = replied_told k cpu ec g sound virtual acts is.completes in
    let groups : told.mtd ≡ mtd = same_groups (message k ec) told.mtd mtd told.words words told.tells is.tells in
    let tells : TellsOf (message k ec) mtd told.words = subst (λ (n : Mtd). TellsOf (message k ec) n told.words) groups told.tells in
    told.reply ∙ (ap (λ (n : Mtd). Some (Reply n told.words)) groups
    ∙ ap (λ (ws : List ℕ). Some (Reply mtd ws)) (same_words (message k ec) mtd told.words words tells is.tells))
