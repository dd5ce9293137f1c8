-- The words of a context whose exit is sent stay.
use Rattle.law_turns.proofs.TablesFit.{chosen_acts}
use Rattle.law_forest.specs.Turns.{is_passing}
use Rattle.std.proofs.Common.{refl, ◌≡◌, ℕ, List, ap, ◌∙◌, sym, subst}
use Rattle.std.specs.Prelude.{◌≢◌, true, Some, Bool, false}
use Rattle.nova_range.specs.declared.mtd.Mtd.{Mtd}
use Rattle.nova_model.specs.Deeds.{deed}
use Rattle.nova_model.specs.Edges.{acts, state_in}
use Rattle.nova_model.specs.Runs.{after}
use Rattle.nova_model.specs.State.{KernelState}
use Rattle.nova_model.specs.Turn.{answer_of, turn}
use Rattle.nova_model.specs.declared.context.State.TheVariants.{Parked}
use Rattle.nova_model.specs.declared.deed.Deed.TheVariants.{Sends}
use Rattle.nova_model.specs.declared.event.Event.{Event}
use Rattle.nova_model.specs.declared.event.Turn.TheVariants.{Stepped}
use Rattle.law_forest.proofs.Turning.{of_event}
use Rattle.law_turns.specs.Words.{words_at, whose_words}
use Rattle.law_turns.proofs.Awaiting.{not_parked}
use Rattle.law_turns.proofs.GivingPremises.{Wants, deed_wants}
use Rattle.law_turns.proofs.MessageWriters.{others_keep, passing_keeps}

-- the chosen context acts, and so the event names a context that acts
named_acts : (k : KernelState) (cpu : ℕ) (e : Event) → is_passing e.kind ≡ false → answer_of (turn k cpu) ≡ Stepped e → acts k.contexts e.ec ≡ true
named_acts k cpu e other steps =
    of_event (λ (f : Event). acts k.contexts f.ec ≡ true) k cpu e other steps
    (λ c chosen state. chosen_acts k cpu c chosen)

pub raised_keep : (k : KernelState) (cpu : ℕ) (e : Event) (handler ip identifier : ℕ) (mtd : Mtd) (reason q0 q1 : ℕ) (words : List ℕ) → answer_of (turn k cpu) ≡ Stepped e →
    deed k e.ec ≡ Sends handler ip identifier mtd reason q0 q1 → words_at k e.ec ≡ Some words → words_at (after k cpu) e.ec ≡ Some words
raised_keep k cpu e handler ip identifier mtd reason q0 q1 words steps sends there = by_kind (is_passing e.kind) refl
  where
    acts_keep : is_passing e.kind ≡ false → words_at (after k cpu) e.ec ≡ Some words
    acts_keep other =
        let idle : state_in k.contexts handler ≡ Some Parked = (subst (Wants k e.ec) sends (deed_wants k e.ec)).1 in
        let able = named_acts k cpu e other steps in
        let apart : handler ≢ e.ec = λ same. absurd (not_parked k.contexts e.ec able (subst (λ (n : ℕ). state_in k.contexts n ≡ Some Parked) same idle)) in
        let writer : whose_words e.ec (deed k e.ec) ≡ Some handler = ap (whose_words e.ec) sends in
        let differs : whose_words e.ec (deed k e.ec) ≢ Some e.ec = λ writes. absurd (apart (let both : Some handler ≡ Some e.ec = sym writer ∙ writes in cc)) in
        others_keep k cpu e e.ec words steps differs there

    by_kind : (t : Bool) → is_passing e.kind ≡ t → words_at (after k cpu) e.ec ≡ Some words
    by_kind true passing = passing_keeps k cpu e e.ec words steps passing there
    by_kind false other = acts_keep other
