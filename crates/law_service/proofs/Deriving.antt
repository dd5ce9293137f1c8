-- Admitted turns make nothing of what a side holds for others; nor does the side's own turn.
use Rattle.std.proofs.Common.{◌≡◌, ℕ, List, refl, sym, ap, ◌∙◌, subst}
use Rattle.std.specs.Prelude.{Bool, option_map, Option, Some, None}
use Rattle.std.proofs.lemmas.Option.{same_Some}
use Rattle.nova_model.specs.Boot.{Scenario, boot}
use Rattle.nova_model.specs.Choice.{Candidate, next_to_act}
use Rattle.nova_model.specs.Deeds.{deed}
use Rattle.nova_model.specs.Delegations.{Delegations}
use Rattle.nova_model.specs.declared.delegation.Derivation.{Derivation}
use Rattle.nova_model.specs.Runs.{after, run}
use Rattle.nova_model.specs.State.{KernelState}
use Rattle.law_forest.specs.Effects.{branch_by, branched}
use Rattle.law_forest.proofs.Changes.{reached_change}
use Rattle.law_forest.proofs.Turning.{chosen_turn}
use Rattle.law_isolation.proofs.Runs.{reached_sound}
use Rattle.law_origins.specs.Giving.{Acts}
use Rattle.law_integrity.specs.Confined.{Of}
use Rattle.law_integrity.specs.Rights.{GivesFirst, GivesTo, RepliesWith, TakesOfCaller}
use Rattle.law_integrity.proofs.Confining.{acts_one}
use Rattle.law_flow.specs.Flow.{AreGivingWithin, AreRevokingWithin, DerivesWithin, HasSameClock, IsAtWork, own_turn, AreCreatingAlone}
use Rattle.law_flow.proofs.Creating.{AreMaking}
use Rattle.law_flow.proofs.Pairs.{first_own, own_derives}
use Rattle.law_flow.proofs.Taking.{derives_kept, derives_same, last_one}
use Rattle.law_flow.proofs.Turns.{AreTwins, own_is, own_of, own_turned}
use Rattle.law_flow.proofs.Ungiven.{ungiven_derives}
use Rattle.law_service.specs.Service.{Answer, Begin, ByComputing, ByGift, ByNobody, ByStranger, Entry, Gift, IsAdmitted, IsStranger, Item, Part, Recall, Return, Up}
use Rattle.law_service.proofs.Computing.{quiet_leaves}
use Rattle.law_service.proofs.Joining.{GivesSome, IsBranchOf, branch_after, branch_is, gives_some, joins_for}

-- A TURN THAT LEAVES DERIVATIONS

pub acted_leaves : (k : KernelState) (cpu ec : ℕ) → Acts k cpu ec → branch_by k ec (deed k ec) ≡ None → (after k cpu).delegations ≡ k.delegations
acted_leaves k cpu ec acts_ none = by_next (next_to_act k cpu) refl acts_
  where
    by_next : (o : Option Candidate) → next_to_act k cpu ≡ o → option_map (λ (c : Candidate). c.actor) o ≡ Some ec → (after k cpu).delegations ≡ k.delegations
    by_next None chosen h = absurd (cc)
    by_next (Some c) chosen h =
        let same : c.actor ≡ ec = same_Some c.actor ec h in
        ap (λ (l : KernelState). l.delegations) (chosen_turn k cpu c chosen) ∙ ap (λ (n : ℕ). branched k.delegations (branch_by k n (deed k n))) same ∙ ap (branched k.delegations) none

-- ADMITTED TURNS

-- what a stranger gives isn't the side's
stranger_gives : (k : KernelState) (S P : ℕ → Type 0) (cpu ec giver receiver : ℕ) → IsStranger k S P cpu ec → GivesTo k ec giver receiver → S giver → ⊥
stranger_gives k S P cpu ec giver receiver stranger (TakesOfCaller caller mark state serves g r) its = (stranger.serves caller mark serves).1 (subst S (sym g) its)
stranger_gives k S P cpu ec giver receiver stranger (RepliesWith caller mark state serves g r) its = stranger.domain (subst S (sym g) its)
stranger_gives k S P cpu ec giver receiver stranger (GivesFirst state g) its = stranger.domain (subst S (sym g) its)

-- a range that is given is the side's
gift_derives : (s : Scenario) (before : List ℕ) (S P : ℕ → Bool) (cpu : ℕ) → DerivesWithin (run (boot s) before) (Of S) → (e : Entry) → GivesSome (run (boot s) before) S P cpu e → DerivesWithin (after (run (boot s) before) cpu) (Of S)
gift_derives s before S P cpu within e g = by_gift g.gift g.is (branch_is S (run (boot s) before) g.candidate.actor (deed (run (boot s) before) g.candidate.actor) g.gift g.gives)
  where
    k : KernelState
    k = run (boot s) before

    stays : branch_by (run (boot s) before) g.candidate.actor (deed (run (boot s) before) g.candidate.actor) ≡ None → DerivesWithin (after (run (boot s) before) cpu) (Of S)
    stays none = derives_same k (after k cpu) (Of S) (branch_after k cpu g.candidate None g.chosen none) within

    by_gift : (h : Gift) → e.gift ≡ Some h → IsBranchOf (run (boot s) before) S h (branch_by (run (boot s) before) g.candidate.actor (deed (run (boot s) before) g.candidate.actor)) → DerivesWithin (after (run (boot s) before) cpu) (Of S)
    by_gift (Answer handler caller words) part b = stays b
    by_gift (Return handler caller words) part b = stays b
    by_gift (Begin handler caller words) part b = stays b
    by_gift (Item item told replied) part b = stays b
    by_gift (Up sm woken) part b = stays b
    by_gift (Recall whose) part b = stays b
    by_gift (Part domain held bytes) part b =
        let x = joins_for k S P cpu domain held bytes e g part in
        derives_kept k (after k cpu) (Of S) (reached_sound s before).forest (reached_change s before cpu) within
        (λ y a one above mine.
        let same : x.child ≡ y = last_one k.delegations.list x.child y (ap (λ (f : Delegations). f.list) (sym x.is ∙ one)) in
        sym (ap (λ (d : Derivation). S d.pd) same) ∙ ap S x.pd ∙ x.of)

pub admitted_derives : (s : Scenario) (before : List ℕ) (S P : ℕ → Bool) (cpu : ℕ) → DerivesWithin (run (boot s) before) (Of S) → IsAdmitted (run (boot s) before) S P cpu → DerivesWithin (after (run (boot s) before) cpu) (Of S)
admitted_derives s before S P cpu within (ByStranger ec acts_ stranger) =
    let k = run (boot s) before in
    ungiven_derives s before S cpu
    (λ e giver receiver acts gives mine. stranger_gives k (Of S) (Of P) cpu ec giver receiver stranger (subst (λ (n : ℕ). GivesTo k n giver receiver) (acts_one k cpu e ec acts acts_) gives) mine) within
admitted_derives s before S P cpu within (ByGift e is some) = gift_derives s before S P cpu within e (gives_some (run (boot s) before) S P cpu e is some)
admitted_derives s before S P cpu within (ByComputing ec acts_ quiet walled) =
    let k = run (boot s) before in derives_same k (after k cpu) (Of S) (acted_leaves k cpu ec acts_ (quiet_leaves k ec (deed k ec) quiet)) within
admitted_derives s before S P cpu within (ByNobody nobody timeless) =
    let k = run (boot s) before in
    ungiven_derives s before S cpu
    (λ e giver receiver acts gives mine. let both : None ≡ Some e = sym (ap (option_map (λ (c : Candidate). c.actor)) nobody) ∙ acts in cc) within

-- THE SIDE'S OWN

pub own_derives_too : (k : KernelState) (S P : ℕ → Bool) (cpu ec sc : ℕ) → AreTwins k k S P → own_turn S k cpu ≡ Some (ec, sc) → IsAtWork (HasSameClock k k ec) (AreGivingWithin k k (Of S) ec) (AreRevokingWithin k k (Of S)) (AreCreatingAlone k k (Of S) (Of P)) k ec →
    DerivesWithin k (Of S) → DerivesWithin (after k cpu) (Of S)
own_derives_too k S P cpu ec sc t own works within =
    own_derives (HasSameClock k k ec) (AreMaking k k (Of S) (Of P)) k (after k cpu) (Of S) (Of P) t.first.forest ec (deed k ec)
    (first_own (HasSameClock k k ec) (AreMaking k k (Of S) (Of P)) k k (Of S) (Of P) (deed k ec) (deed k ec) (own_of k k S P cpu ec sc t own works))
    (ap (λ (l : KernelState). l.delegations) (own_turned S k cpu ec sc (own_is S k cpu ec sc own))) within
