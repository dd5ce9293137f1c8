-- The turns in which a revoke begins and ends, and how many its caller takes from the one to the other.
use Rattle.law_forest.specs.Turns.{is_passing}
use Rattle.std.proofs.Common.{◌≡◌, ℕ, ◌+◌, ◌≤◌, List, [], ◌∷◌, ◌++◌, ap, sym, ◌∙◌, subst, refl, arith}
use Rattle.std.specs.Prelude.{◌==◌, Bool, true, false, if◌then◌else◌, Contains, length, Option, Some, None}
use Rattle.std.proofs.lemmas.Bool.{eq-eqb}
use Rattle.std.proofs.lemmas.Option.{same_Some}
use Rattle.nova_calls.specs.declared.numbers.TheConstants.{REVOKE}
use Rattle.nova_range.specs.Statuses.{status_code}
use Rattle.nova_range.specs.declared.range.Range.{Range}
use Rattle.nova_range.specs.declared.status.Status.TheVariants.{Success}
use Rattle.nova_model.specs.Boot.{Scenario, boot}
use Rattle.nova_model.specs.Choice.{Candidate, next_to_act}
use Rattle.nova_model.specs.Deeds.{deed}
use Rattle.nova_model.specs.Delegations.{Delegations}
use Rattle.nova_model.specs.Revokes.{Revocation, scope}
use Rattle.nova_model.specs.Runs.{after, run}
use Rattle.nova_model.specs.State.{KernelState, pd_of}
use Rattle.nova_model.specs.declared.deed.Deed.{Deed}
use Rattle.nova_model.specs.declared.deed.Deed.TheVariants.{Removes, Returns, Revokes}
use Rattle.nova_model.specs.Turn.{answer_of, turn}
use Rattle.nova_model.specs.declared.delegation.Derivation.{Derivation}
use Rattle.nova_model.specs.declared.event.Event.{Event}
use Rattle.nova_model.specs.declared.event.EventKind.TheVariants.{Answer}
use Rattle.nova_model.specs.declared.event.Turn.TheVariants.{Stepped}
use Rattle.law_turns.specs.Revoking.{revoke_after}
use Rattle.law_turns.proofs.Revoking.{begins_asked, returns_done}
use Rattle.law_origins.specs.Giving.{Acts}
use Rattle.law_revocation.specs.Along.{HasEvent, Runs, acts_in, acts_once}
use Rattle.law_revocation.specs.Sound.{IsKeptForest}
use Rattle.law_revocation.specs.Whole.{RevokeBegins, RevokeEnds, HasEnded, HasReturned, IsRevokeAnswered, BeginsAsAsked, left}
use Rattle.law_revocation.proofs.Answering.{answer_returns}
use Rattle.law_revocation.proofs.Kept.{reached_sound, turn_sound}
use Rattle.law_revocation.proofs.Shrinking.{shrunk}
use Rattle.law_revocation.proofs.Turns.{GoesOn, HasPart, Another, IsOver, Itself, Takes, event_acts, goes_on, its_revoke, part_of, stays_apart, turn_event, turn_same}

-- IT BEGINS

pub begun : (k : KernelState) (cpu ec : ℕ) (r : Revocation) → IsKeptForest k → RevokeBegins k cpu ec r → BeginsAsAsked k cpu ec r
begun k cpu ec r sound (before, now) = by_part (part_of k cpu ec)
  where
    of_revoke : (range : Range) (own : Bool) → Acts k cpu ec → deed k ec ≡ Revokes range own →
        BeginsAsAsked k cpu ec (record { pd = pd_of k ec; range = range; own = own })
    of_revoke range own acts does = record {
      acts = acts;
      asks = (begins_asked k ec range own does).call;
      domain = refl;
      delegations = (turn_same k cpu ec (Revokes range own) acts does).delegations;
      event = turn_event k cpu ec (Revokes range own) acts does;
    }

    by_deed : (d : Deed) → Acts k cpu ec → deed k ec ≡ d → revoke_after k ec d ec ≡ Some r → BeginsAsAsked k cpu ec r
    by_deed (Revokes range own) acts does is =
        let its : Revocation = record { pd = pd_of k ec; range = range; own = own } in
        let taken : revoke_after k ec (Revokes range own) ec ≡ Some its = rw (eq-eqb ec ec refl) refl in
        subst (BeginsAsAsked k cpu ec) (same_Some its r (sym taken ∙ is)) (of_revoke range own acts does)
    by_deed Returns acts does is =
        let none : revoke_after k ec Returns ec ≡ None = rw (eq-eqb ec ec refl) refl in
        absurd (cc)
    by_deed other acts does is = absurd (before is)

    by_part : HasPart k cpu ec → BeginsAsAsked k cpu ec r
    by_part (Itself acts one) = by_deed (deed k ec) acts refl (sym (its_revoke k cpu ec (deed k ec) sound.kept acts refl) ∙ now)
    by_part (Another another none) = absurd (before (sym (stays_apart k cpu ec sound.kept another) ∙ now))

-- IT ENDS

pub returned : (k : KernelState) (cpu ec : ℕ) (r : Revocation) → IsKeptForest k → RevokeEnds k cpu ec r → HasReturned k cpu ec r
returned k cpu ec r sound (now, over) = by_part (part_of k cpu ec)
  where
    by_own : GoesOn k cpu ec r → HasReturned k cpu ec r
    by_own (Takes t) = absurd (over t.runs)
    by_own (IsOver h) = h

    by_part : HasPart k cpu ec → HasReturned k cpu ec r
    by_part (Itself acts one) = by_own (goes_on k cpu ec r sound now acts)
    by_part (Another another none) = absurd (over (stays_apart k cpu ec sound.kept another ∙ now))

-- a turn has one event
one_event : (k : KernelState) (cpu : ℕ) (a b : Event) → answer_of (turn k cpu) ≡ Stepped a → answer_of (turn k cpu) ≡ Stepped b → a ≡ b
one_event k cpu a b first second = cc

pub none_some : (r : Revocation) → None ≡ Some r → ⊥
none_some r h = absurd (cc)

pub answered : (k : KernelState) (cpu ec : ℕ) (r : Revocation) → IsKeptForest k → IsRevokeAnswered k cpu ec r → HasReturned k cpu ec r
answered k cpu ec r sound h = by_own acts (goes_on k cpu ec r sound h.runs acts)
  where
    acts : Acts k cpu ec
    acts = event_acts k cpu ec h.event.event (ap is_passing h.event.kind) h.event.answers h.event.ec

    by_own : Acts k cpu ec → GoesOn k cpu ec r → HasReturned k cpu ec r
    by_own acts (Takes t) =
        let gone = turn_event k cpu ec (Removes t.leaf) acts t.does in
        let same = one_event k cpu gone.event h.event.event gone.answers h.event.answers in
        let one = gone.kind in
        let other = h.event.kind in
        absurd (cc)
    by_own acts (IsOver is) = is

-- and there is no other such event
pub told : (k : KernelState) (cpu ec : ℕ) → IsKeptForest k → HasEvent k cpu ec Answer REVOKE (status_code Success) → HasEnded k cpu ec
told k cpu ec sound h =
    let acts = event_acts k cpu ec h.event (ap is_passing h.kind) h.answers h.ec in
    let its = turn_event k cpu ec (deed k ec) acts refl in
    let same : its.event ≡ h.event = one_event k cpu its.event h.event its.answers h.answers in
    let does : deed k ec ≡ Returns = answer_returns k ec (sym its.kind ∙ (ap (λ (e : Event). e.kind) same ∙ h.kind))
    (sym its.a ∙ (ap (λ (e : Event). e.a) same ∙ h.a)) (sym its.b ∙ (ap (λ (e : Event). e.b) same ∙ h.b)) in
    let it = returns_done k ec does in
    let is = answered k cpu ec it.revoke sound (record { runs = it.runs; event = h }) in
    let over = is.over in
    record { revoke = it.revoke; ends = (it.runs, λ still. absurd (none_some it.revoke (sym over ∙ still))); returned = is }

pub reached_told : (s : Scenario) (before : List ℕ) (cpu ec : ℕ) → HasEvent (run (boot s) before) cpu ec Answer REVOKE (status_code Success) →
    HasEnded (run (boot s) before) cpu ec
reached_told s before cpu ec h = told (run (boot s) before) cpu ec (reached_sound s before) h

-- FROM THE BEGINNING TO THE END

pub at_most_once : (ec : ℕ) (o : Option Candidate) → acts_once ec o ≤ 1
at_most_once ec None = omega arith
at_most_once ec (Some c) = by_test (c.actor == ec)
  where
    by_test : (t : Bool) → (if t then 1 else 0) ≤ 1
    by_test true = omega arith
    by_test false = omega arith

one_more : (k : KernelState) (ec : ℕ) (turns : List ℕ) (last : ℕ) → acts_in k ec (turns ++ last ∷ []) ≤ acts_in k ec turns + 1
one_more k ec [] last = let once = at_most_once ec (next_to_act k last) in omega arith
one_more k ec (cpu ∷ turns) last = let rest = one_more (after k cpu) ec turns last in omega (arith, rest)

pub whole : (k : KernelState) (first : ℕ) (turns : List ℕ) (last ec : ℕ) (r : Revocation) → IsKeptForest k → RevokeBegins k first ec r → Runs (after k first) ec r turns →
    RevokeEnds (run (after k first) turns) last ec r → acts_in k ec (first ∷ turns ++ last ∷ []) ≤ length (left r k) + 2
whole k first turns last ec r sound begins runs ends =
    let same = (begun k first ec r sound begins).delegations in
    let size : length (left r (after k first)) ≡ length (left r k) = ap (λ (f : Delegations). length (scope r f.list)) same in
    let fewer = (shrunk (after k first) turns ec r (turn_sound k first sound) runs).fewer in
    let once = at_most_once ec (next_to_act k first) in
    let more = one_more (after k first) ec turns last in
    omega (arith, size, fewer, once, more)

-- what is left then was there at the call
pub among_called : (k : KernelState) (first : ℕ) (turns : List ℕ) (ec : ℕ) (r : Revocation) → IsKeptForest k → RevokeBegins k first ec r → Runs (after k first) ec r turns →
    (d : Derivation) → Contains (left r (run (after k first) turns)) d → Contains (left r k) d
among_called k first turns ec r sound begins runs d there =
    let same = (begun k first ec r sound begins).delegations in
    subst (λ (f : Delegations). Contains (scope r f.list) d) same ((shrunk (after k first) turns ec r (turn_sound k first sound) runs).among d there)
