-- A turn leaves a context that gives at its item or brings it to the next, or it gives no more after the last one.
use Rattle.law_forest.proofs.Doing.{set_at}
use Rattle.law_turns.specs.Links.{state_at as state_found}
use Rattle.law_turns.proofs.Passing.{passing_ending, IsEnding, passing_stays}
use Rattle.std.proofs.Common.{◌≡◌, ◌<◌, ℕ, ◌+◌, List, [], ◌∷◌, ◌++◌, length, refl, ap, ◌∙◌, sym, subst, inl, inr}
use Rattle.std.specs.Prelude.{◌≢◌, true, false, is_some, slice_set, Option, Some, None, IsSome, option_map}
use Rattle.nova_range.specs.declared.status.Status.TheVariants.{Success}
use Rattle.nova_model.specs.Boot.{Scenario, boot}
use Rattle.nova_model.specs.Creation.{context_of}
use Rattle.nova_model.specs.Deeds.{answered, deed, parked, transfer_after}
use Rattle.nova_model.specs.Edges.{acts, is_giving}
use Rattle.nova_model.specs.Runs.{after, run}
use Rattle.nova_model.specs.State.{KernelState, Contexts, context, context_at, context_in, ec_in, ec_of, transfer, transfer_in, with_ec}
use Rattle.nova_model.specs.declared.context.EcState.{EcState}
use Rattle.nova_model.specs.declared.context.State.{State}
use Rattle.nova_model.specs.declared.context.State.TheVariants.{Ready, Granting, Replying, Blocked}
use Rattle.nova_model.specs.declared.deed.Deed.{Deed}
use Rattle.nova_model.specs.declared.deed.Deed.TheVariants.{Rests, Gives, Skips, Finishes}
use Rattle.nova_model.specs.declared.event.Event.{Event}
use Rattle.nova_model.specs.declared.new_object.NewObject.{NewObject}
use Rattle.nova_model.specs.declared.transfer.Delivery.{Delivery}
use Rattle.nova_model.specs.declared.transfer.ItemEnd.{ItemEnd}
use Rattle.nova_model.specs.declared.transfer.ItemWords.{ItemWords}
use Rattle.nova_model.specs.declared.transfer.Sequel.{Sequel}
use Rattle.nova_model.specs.declared.transfer.Sequel.TheVariants as sequel
use Rattle.nova_model.specs.declared.transfer.Transfer.{Transfer}
use Rattle.law_forest.specs.Effects.{all_edited, applied, edits_by, effect, joined, made_by, Passing, passing_ends}
use Rattle.law_forest.specs.Turns.{Acts, IsTurning, Turning, acting, turned, Passes, passing}
use Rattle.law_forest.proofs.Turning.{outcome}
use Rattle.law_turns.specs.Giving.{GoesOn, Stays, Next, Ends}
use Rattle.law_turns.proofs.Awaiting.{acts_there, same_or_not}
use Rattle.law_turns.proofs.Counting.{at_itself, others_stay}
use Rattle.law_turns.proofs.TablesFit.{TablesFit, boot_run_fits, chosen_acts, gives_there}
use Rattle.law_turns.proofs.Giving.{at, quiet_set, resumed_quiet}
use Rattle.law_turns.proofs.Messages.{IsFinish, Shows, deed_shows}
use Rattle.law_turns.proofs.GivingPremises.{Wants, deed_wants, wants_quiet}
use Rattle.law_turns.proofs.Ordered.{Stands, boot_run_stands, stands_at}
use Rattle.law_turns.proofs.Progress.{last_is}
use Rattle.law_turns.proofs.Referring.{Asks, deed_asks}
use Rattle.law_turns.proofs.Serving.{IsActor, actor_of, is_blocked}
use Rattle.law_turns.proofs.Setting.{entry_itself, entry_kept}
use Rattle.law_turns.proofs.States.{Moves, is_waiting, others_move}

-- STATES OF OTHERS

abbrev state_at : Contexts → ℕ → State
state_at cs e = (ec_of cs e).state

set_own : (cs : Contexts) (a : ℕ) (x : EcState) → IsSome (ec_in cs a) → state_at (with_ec cs a x) a ≡ x.state
set_own cs a x there = ap (λ (o : Option EcState). (context_in o).state) (entry_itself cs a x there)

more_at_end : (cs : Contexts) (o : Option EcState) (e : ℕ) → is_giving (state_at cs e) ≡ true → state_at (cs ++ o ∷ []) e ≡ state_at cs e
more_at_end cs o e gives = by_entry (ec_in cs e) refl gives
  where
    by_entry : (p : Option EcState) → ec_in cs e ≡ p → is_giving (context_in p).state ≡ true → state_at (cs ++ o ∷ []) e ≡ state_at cs e
    by_entry None is some = absurd (cc)
    by_entry (Some x) is some =
        ap (λ (p : Option EcState). (context_in p).state) (entry_kept cs o e x is) ∙ sym (ap (λ (p : Option EcState). (context_in p).state) is)

joined_end : (cs : Contexts) (n e : ℕ) (made : Option NewObject) → is_giving (state_at cs e) ≡ true → state_at (joined cs (option_map (context_of n) made)) e ≡ state_at cs e
joined_end cs n e None gives = refl
joined_end cs n e (Some made) gives = more_at_end cs (context_of n made) e gives

gives_works : (s : State) → is_giving s ≡ true → is_waiting s ≡ false
gives_works (Granting items) gives = refl
gives_works Replying gives = refl
gives_works other gives = absurd cc

-- another that gives stays in its state
gives_on : (s t : State) → Moves s t → is_giving s ≡ true → t ≡ s
gives_on s t (inl same) gives = same
gives_on s t (inr goes) gives = absurd (let works = gives_works s gives in let waits = goes.0 in cc)

other_state : (k : KernelState) (a e : ℕ) (d : Deed) → IsActor k.contexts a → Asks k a d → e ≢ a → TablesFit k → is_giving (state_at k.contexts e) ≡ true →
    state_at (applied k (effect k a d)).contexts e ≡ state_at k.contexts e
other_state k a e d actor asks other fits gives =
    let same = gives_on (state_at k.contexts e) _ (others_move k a d actor asks fits e other) gives in
    joined_end (all_edited k.contexts (edits_by k a d)) (length k.objects) e (made_by d) (ap is_giving same ∙ gives) ∙ same

-- ITS OWN

part_stays : (ts : List (Option Transfer)) (a : ℕ) (t : Transfer) → t.item ≡ (at ts a).item → (at (slice_set ts a (Some t)) a).item ≡ (at ts a).item
part_stays ts a t same = set_at (λ o. (transfer_in o).item ≡ (at ts a).item) ts a a t refl (λ is. same)

-- what it gives was the last item
was_last : (k : KernelState) (a item : ℕ) (words : Option ItemWords) (after : Sequel) (f : IsFinish k a item words after) → (sequel.Item ≡ after → ⊥) →
    is_giving (context k a).state ≡ true → Stands k → (transfer k a).item + 1 ≡ f.present_item.items
was_last k a item words after f ends gives h =
    let i = stands_at k a gives h in
    let both : Some i.item ≡ Some f.present_item = sym i.present ∙ f.present in
    let same : i.item ≡ f.present_item = cc in
    last_is (transfer k a).item f.present_item (subst (λ (v : Delivery). (transfer k a).item < v.items) same i.among) (λ e. ends (e ∙ sym f.follows))

next_item : (k : KernelState) (a item : ℕ) → item ≡ (transfer k a).item → is_some (context_at k a) ≡ true → TablesFit k →
    (at (slice_set k.transfers a (Some (transfer_after item sequel.Item))) a).item ≡ (transfer k a).item + 1
next_item k a item number there fits =
    ap (λ (t : Transfer). t.item) (at_itself k.transfers a (transfer_after item sequel.Item) (gives_there k a there fits)) ∙ ap (λ (n : ℕ). n + 1) number

quiet_now : (cs : Contexts) (a : ℕ) (x : EcState) → IsSome (ec_in cs a) → is_giving x.state ≡ false → is_giving (state_at (with_ec cs a x) a) ≡ false
quiet_now cs a x there quiet = ap is_giving (set_own cs a x there) ∙ quiet

finished_own : (k : KernelState) (a item : ℕ) (end : ItemEnd) (words : Option ItemWords) (after : Sequel) → IsFinish k a item words after →
    is_giving (context k a).state ≡ true → IsSome (context_at k a) → TablesFit k → Stands k → GoesOn k (applied k (effect k a (Finishes item end words after))) a
finished_own k a item end words sequel.Item f gives there fits h = Next (set_own k.contexts a (context k a) there) (next_item k a item f.number there fits)
finished_own k a item end words sequel.Opened f gives there fits h =
    Ends (quiet_now k.contexts a (answered (context k a) Success None) there refl) f.present_item f.present (was_last k a item words sequel.Opened f (λ e. absurd (cc)) gives h)
finished_own k a item end words sequel.Taken f gives there fits h =
    Ends (quiet_now k.contexts a (record (context k a) { state = Ready }) there refl) f.present_item f.present (was_last k a item words sequel.Taken f (λ e. absurd (cc)) gives h)
finished_own k a item end words (sequel.Replied caller mark) f gives there fits h =
    let one = with_ec k.contexts a (parked (context k a)) in
    Ends (quiet_set one caller a _ (resumed_quiet (ec_of one caller) mark _) (quiet_now k.contexts a (parked (context k a)) there refl)) f.present_item f.present
    (was_last k a item words (sequel.Replied caller mark) f (λ e. absurd (cc)) gives h)

own_goes : (k : KernelState) (a : ℕ) (d : Deed) → Wants k a d → Shows k a d → is_giving (context k a).state ≡ true → IsSome (context_at k a) → TablesFit k → Stands k →
    GoesOn k (applied k (effect k a d)) a
own_goes k a Rests wants shows gives there fits h = Stays refl refl
own_goes k a (Gives child cursor) wants shows gives there fits h = Stays refl (part_stays k.transfers a _ refl)
own_goes k a (Skips reason place cursor) wants shows gives there fits h = Stays refl (part_stays k.transfers a _ refl)
own_goes k a (Finishes item end words after) wants shows gives there fits h = finished_own k a item end words after shows gives there fits h
own_goes k a other wants shows gives there fits h = absurd (let quiet = wants_quiet k a other refl wants in cc)

-- TURNS

-- a state with the same contexts and transfers
same_goes : (k s new : KernelState) (e : ℕ) → new.contexts ≡ s.contexts → new.transfers ≡ s.transfers → GoesOn k s e → GoesOn k new e
same_goes k s new e contexts transfers (Stays state item) =
    Stays (ap (λ (cs : Contexts). state_at cs e) contexts ∙ state) (ap (λ (ts : List (Option Transfer)). (at ts e).item) transfers ∙ item)
same_goes k s new e contexts transfers (Next state item) =
    Next (ap (λ (cs : Contexts). state_at cs e) contexts ∙ state) (ap (λ (ts : List (Option Transfer)). (at ts e).item) transfers ∙ item)
same_goes k s new e contexts transfers (Ends quiet v present last) = Ends (ap (λ (cs : Contexts). is_giving (state_at cs e)) contexts ∙ quiet) v present last

deed_goes : (k : KernelState) (a e : ℕ) → acts k.contexts a ≡ true → is_giving (context k e).state ≡ true → TablesFit k → Stands k → GoesOn k (applied k (effect k a (deed k a))) e
deed_goes k a e able gives fits h = same_or_not e a _ itself another
  where
    itself : e ≡ a → GoesOn k (applied k (effect k a (deed k a))) e
    itself same =
        let own_gives = subst (λ (n : ℕ). is_giving (context k n).state ≡ true) same gives in
        subst (GoesOn k (applied k (effect k a (deed k a)))) (sym same)
        (own_goes k a (deed k a) (deed_wants k a) (deed_shows k a) own_gives (acts_there k.contexts a able) fits h)

    another : e ≢ a → GoesOn k (applied k (effect k a (deed k a))) e
    another other =
        Stays (other_state k a e (deed k a) (actor_of k.contexts a able) (deed_asks k a) other fits gives) (ap (λ (t : Transfer). t.item) (others_stay k a e (deed k a) other))

giving_free : (o : Option EcState) → is_giving (context_in o).state ≡ true → is_blocked (state_found o) ≡ false
giving_free None gives = refl
giving_free (Some x) gives = by_state x.state gives
  where
    by_state : (s : State) → is_giving s ≡ true → is_blocked (Some s) ≡ false
    by_state (Blocked sm) h = absurd cc
    by_state other h = refl

passing_goes : (k : KernelState) (cpu : ℕ) (p : Passing) (e : ℕ) → IsEnding k.contexts (passing_ends k p) → is_giving (context k e).state ≡ true → GoesOn k (turned k cpu (passing k p)) e
passing_goes k cpu p e ending gives =
    Stays (ap (λ (o : Option EcState). (context_in o).state) (passing_stays k.contexts (passing_ends k p) ending e (giving_free (context_at k e) gives))) refl

turned_goes : (k : KernelState) (cpu e : ℕ) (t : Turning) (f : Event) → IsTurning k cpu t f → is_giving (context k e).state ≡ true → TablesFit k → Stands k → GoesOn k (turned k cpu t) e
turned_goes k cpu e t f (Acts c chosen is event) gives fits h =
    subst (λ (u : Turning). GoesOn k (turned k cpu u) e) (sym is)
    (same_goes k (applied k (effect k c.actor (deed k c.actor))) (turned k cpu (acting k c)) e refl refl (deed_goes k c.actor e (chosen_acts k cpu c chosen) gives fits h))
turned_goes k cpu e t f (Passes p comes is event) gives fits h =
    subst (λ (u : Turning). GoesOn k (turned k cpu u) e) (sym is) (passing_goes k cpu p e (passing_ending k cpu p comes fits.blocked fits.late) gives)

turn_goes : (k : KernelState) (cpu e : ℕ) → is_giving (context k e).state ≡ true → TablesFit k → Stands k → GoesOn k (after k cpu) e
turn_goes k cpu e gives fits h = outcome (λ s o. GoesOn k s e) k cpu (λ none. Stays refl refl) (λ t f is. turned_goes k cpu e t f is gives fits h)

pub items_go_on : (s : Scenario) (turns : List ℕ) (cpu ec : ℕ) → is_giving (context (run (boot s) turns) ec).state ≡ true →
    GoesOn (run (boot s) turns) (after (run (boot s) turns) cpu) ec
items_go_on s turns cpu ec gives = turn_goes (run (boot s) turns) cpu ec gives (boot_run_fits s turns) (boot_run_stands s turns)
