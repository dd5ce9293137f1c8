-- Items in order along runs.
use Rattle.nova_model.specs.declared.new_object.NewObject.TheVariants as new
use Rattle.law_forest.proofs.Boots.{sources_keep}
use Rattle.law_forest.specs.Effects.{Passing, applied, passing_effect, passing_ends}
use Rattle.law_turns.proofs.Passing.{passing_ending, IsEnding, passing_contexts}
use Rattle.std.proofs.Common.{◌≡◌, ℕ, zero, suc, List, [], ◌∷◌, refl, ap, ◌∙◌, sym, subst, arith}
use Rattle.std.specs.Prelude.{◌≢◌, true, false, Option, Some, None, IsSome, length}
use Rattle.nova_model.specs.Edges.{is_giving}
use Rattle.nova_model.specs.Boot.{Scenario, Image, boot, bare, with_image, with_images}
use Rattle.nova_model.specs.Deeds.{deed}
use Rattle.nova_model.specs.Deliveries.{delivery, delivery_between, first_delivery, told_by}
use Rattle.nova_model.specs.Runs.{after, run}
use Rattle.nova_model.specs.State.{KernelState, context, context_in, ec_in, message, transfer}
use Rattle.nova_model.specs.declared.context.EcState.{EcState}
use Rattle.nova_model.specs.declared.context.Mark.{Mark}
use Rattle.nova_model.specs.declared.context.State.{State}
use Rattle.nova_model.specs.declared.context.State.TheVariants.{Granting, Replying}
use Rattle.nova_model.specs.declared.deed.Deed.{Deed}
use Rattle.nova_model.specs.declared.deed.Deed.TheVariants.{Gives, Skips, Finishes}
use Rattle.nova_model.specs.declared.event.Event.{Event}
use Rattle.nova_model.specs.declared.transfer.Sequel.TheVariants as sequel
use Rattle.nova_model.specs.declared.transfer.Transfer.{Transfer}
use Rattle.law_forest.specs.Turns.{Acts, IsTurning, Turning, acting, turned, Passes}
use Rattle.law_forest.proofs.Turning.{along, outcome}
use Rattle.law_turns.specs.Giving.{IsAtItem, source, source_in}
use Rattle.law_turns.proofs.Awaiting.{same_or_not}
use Rattle.law_turns.proofs.Counting.{leaves, now_at, others_stay}
use Rattle.law_turns.proofs.TablesFit.{TablesFit, boot_fits, boot_run_fits, chosen_acts}
use Rattle.law_turns.proofs.Giving.{IsFor, IsForEntry, Sound, boot_for, entry_rests, serves_in, turned_gives}
use Rattle.law_turns.proofs.Items.{Bound, Bounded, BoundedEntry, AreBounded, rests_bounded}
use Rattle.law_turns.proofs.Messages.{deed_shows, few_items}
use Rattle.law_turns.proofs.GivingPremises.{Wants, deed_wants, is_of_item}
use Rattle.law_turns.proofs.Progress.{applied_bound, applied_keeps, joined_bound}
use Rattle.law_turns.proofs.Referring.{deed_asks}

-- TURNS

-- what always holds
pub record Stands (k : KernelState) : Type 0 where
  pub fits : TablesFit k
  pub sound : Sound k
  pub bound : Bound k

-- a context whose wait ends gives nothing
passing_bound : (k : KernelState) (p : Passing) → IsEnding k.contexts (passing_ends k p) → Bound k → Bound (applied k (passing_effect k p))
passing_bound k p ending h =
    passing_contexts (λ cs. AreBounded k.messages cs k.transfers) k.contexts (passing_ends k p) ending h
    (λ w sm status waits. rests_bounded k.messages k.contexts k.transfers w _ refl h)

turned_stands : (k : KernelState) (cpu : ℕ) (t : Turning) (e : Event) → IsTurning k cpu t e → Stands k → Stands (turned k cpu t)
turned_stands k cpu t e (Acts c chosen is event) h =
    let gives = turned_gives k cpu t e (Acts c chosen is event) (h.fits, h.sound) in record {
      fits = gives.0;
      sound = gives.1;
      bound = subst (λ (u : Turning). Bound (turned k cpu u)) (sym is)
          (applied_bound k c.actor (deed k c.actor) (chosen_acts k cpu c chosen) (deed_asks k c.actor) (deed_wants k c.actor) (deed_shows k c.actor) h.fits h.sound h.bound);
    }
turned_stands k cpu t e (Passes p comes is event) h =
    let gives = turned_gives k cpu t e (Passes p comes is event) (h.fits, h.sound) in record {
      fits = gives.0;
      sound = gives.1;
      bound = subst (λ (u : Turning). Bound (turned k cpu u)) (sym is) (passing_bound k p (passing_ending k cpu p comes h.fits.blocked h.fits.late) h.bound);
    }

images_bound : (k : KernelState) (images : List Image) → Bound k → Bound (with_images k images)
images_bound k [] h = h
images_bound k (image ∷ images) h = images_bound (with_image k image) images h

bare_bound : (s : Scenario) → Bound (bare s.cpus s.ram s.consoles s.root)
bare_bound s zero = tt
bare_bound s (suc zero) = tt
bare_bound s (suc (suc zero)) = tt
bare_bound s (suc (suc (suc e))) = tt

boot_bound : (s : Scenario) → Bound (boot s)
boot_bound s =
    sources_keep Bound (λ k source bound. joined_bound k.messages k.contexts k.transfers (length k.objects) (Some (new.Sm 0)) bound) (with_images (bare s.cpus s.ram s.consoles s.root) s.images) s.sources
    (images_bound (bare s.cpus s.ram s.consoles s.root) s.images (bare_bound s))

boot_stands : (s : Scenario) → Stands (boot s)
boot_stands s = record { fits = boot_fits s; sound = boot_for s; bound = boot_bound s }

pub boot_run_stands : (s : Scenario) (turns : List ℕ) → Stands (run (boot s) turns)
boot_run_stands s turns = along Stands (record { begins = boot_stands; turns = turned_stands }) s turns

-- THE PRESENT ITEM

pub stands_at : (k : KernelState) (ec : ℕ) → is_giving (context k ec).state ≡ true → Stands k → IsAtItem k ec
stands_at k ec gives h = by_entry (ec_in k.contexts ec) refl (h.sound ec) (h.bound ec)
  where
    by_taker : (c : Option (ℕ × Mark)) → (context k ec).state ≡ Granting None → (context k ec).caller ≡ c → IsSome c → Bounded k.messages ec (Granting None) c (transfer k ec) → IsAtItem k ec
    by_taker None is has some bound = absurd (cc)
    by_taker (Some (caller, mark)) is has some bound = record {
      item = delivery_between k caller ec (transfer k ec).item (Some ec) sequel.Taken;
      present = ap (delivery k ec) is ∙ rw has refl;
      among = bound;
      most = few_items (message k caller);
    }

    by_replier : (c : Option (ℕ × Mark)) → (context k ec).state ≡ Replying → (context k ec).caller ≡ c → IsSome c → Bounded k.messages ec Replying c (transfer k ec) → IsAtItem k ec
    by_replier None is has some bound = absurd (cc)
    by_replier (Some (caller, mark)) is has some bound = record {
      item = delivery_between k ec caller (transfer k ec).item (told_by caller mark) (sequel.Replied caller mark);
      present = ap (delivery k ec) is ∙ rw has refl;
      among = bound;
      most = few_items (message k ec);
    }

    by_state : (s : State) (x : EcState) → (context k ec).state ≡ s → (context k ec).caller ≡ x.caller → IsFor k.objects s x.regs x.caller (transfer k ec) →
        Bounded k.messages ec s x.caller (transfer k ec) → is_giving s ≡ true → IsAtItem k ec
    by_state (Granting (Some new)) x is has for bound some =
        record { item = first_delivery k ec new; present = ap (delivery k ec) is; among = omega (arith, bound); most = omega arith }
    by_state (Granting None) x is has for bound some = by_taker x.caller is has for bound
    by_state Replying x is has for bound some = by_replier x.caller is has for bound
    by_state other x is has for bound some = absurd (cc)

    by_entry : (o : Option EcState) → ec_in k.contexts ec ≡ o → IsForEntry k.objects o (transfer k ec) → BoundedEntry k.messages ec o (transfer k ec) → IsAtItem k ec
    by_entry None is for bound = let none = sym (ap (λ (y : Option EcState). is_giving (context_in y).state) is) ∙ gives in absurd (cc)
    by_entry (Some x) is for bound =
        let state = ap (λ (y : Option EcState). (context_in y).state) is in
        by_state x.state x state (ap (λ (y : Option EcState). (context_in y).caller) is) for bound (sym (ap is_giving state) ∙ gives)

pub items_present : (s : Scenario) (turns : List ℕ) (ec : ℕ) → is_giving (context (run (boot s) turns) ec).state ≡ true → IsAtItem (run (boot s) turns) ec
items_present s turns ec gives = stands_at (run (boot s) turns) ec gives (boot_run_stands s turns)

-- WORDS STAY

turned_words : (k : KernelState) (cpu ec thread : ℕ) (t : Turning) (e : Event) → IsTurning k cpu t e → source k ec ≡ Some thread → TablesFit k →
    message (turned k cpu t) thread ≡ message k thread
turned_words k cpu ec thread t e (Acts c chosen is event) of fits =
    ap (λ (u : Turning). message (turned k cpu u) thread) is ∙ by_entry (ec_in k.contexts ec) refl
  where
    by_entry : (o : Option EcState) → ec_in k.contexts ec ≡ o → message (turned k cpu (acting k c)) thread ≡ message k thread
    by_entry None is =
        let none = sym (ap (λ (y : Option EcState). source_in ec (context_in y).state (context_in y).caller) is) ∙ of in absurd (cc)
    by_entry (Some x) is =
        applied_keeps k c.actor (deed k c.actor) (deed_wants k c.actor) (deed_shows k c.actor) (chosen_acts k cpu c chosen) (serves_in k fits) ec thread x is
        (sym (ap (λ (y : Option EcState). source_in ec (context_in y).state (context_in y).caller) is) ∙ of)
turned_words k cpu ec thread t e (Passes p comes is event) of fits = ap (λ (u : Turning). message (turned k cpu u) thread) is

words_of_turn : (k : KernelState) (cpu ec thread : ℕ) → source k ec ≡ Some thread → TablesFit k → message (after k cpu) thread ≡ message k thread
words_of_turn k cpu ec thread of fits =
    outcome (λ s o. message s thread ≡ message k thread) k cpu (λ none. refl) (λ t e is. turned_words k cpu ec thread t e is of fits)

pub items_stay : (s : Scenario) (turns : List ℕ) (cpu ec thread : ℕ) → source (run (boot s) turns) ec ≡ Some thread →
    message (after (run (boot s) turns) cpu) thread ≡ message (run (boot s) turns) thread
items_stay s turns cpu ec thread of = words_of_turn (run (boot s) turns) cpu ec thread of (boot_run_fits s turns)

-- FROM ITEM 0 ON

quiet_deed : (k : KernelState) (ec : ℕ) (d : Deed) → is_giving (context k ec).state ≡ false → Wants k ec d → is_of_item d ≡ false
quiet_deed k ec (Gives child cursor) quiet wants = absurd (cc)
quiet_deed k ec (Skips reason place cursor) quiet wants = absurd (cc)
quiet_deed k ec (Finishes item end words after) quiet wants = let gives = wants.0 in absurd (cc)
quiet_deed k ec other quiet wants = refl

begun_at : (k : KernelState) (a ec : ℕ) → is_giving (context k ec).state ≡ false → Sound k → (now_at k a (deed k a) ec).item ≡ 0
begun_at k a ec quiet sound = same_or_not ec a ((now_at k a (deed k a) ec).item ≡ 0) itself another
  where
    none : transfer k ec ≡ record { item = 0; cursor = 0; children = 0 }
    none = entry_rests k.objects (ec_in k.contexts ec) (transfer k ec) quiet (sound ec)

    itself : ec ≡ a → (now_at k a (deed k a) ec).item ≡ 0
    itself same =
        let deed_quiet = quiet_deed k a (deed k a) (subst (λ (n : ℕ). is_giving (context k n).state ≡ false) same quiet) (deed_wants k a) in
        ap (λ (t : Transfer). t.item) (leaves k a ec (deed k a) deed_quiet ∙ none)

    another : ec ≢ a → (now_at k a (deed k a) ec).item ≡ 0
    another other = ap (λ (t : Transfer). t.item) (others_stay k a ec (deed k a) other ∙ none)

turned_begins : (k : KernelState) (cpu ec : ℕ) (t : Turning) (e : Event) → IsTurning k cpu t e → is_giving (context k ec).state ≡ false → Sound k →
    (transfer (turned k cpu t) ec).item ≡ 0
turned_begins k cpu ec t e (Acts c chosen is event) quiet sound = ap (λ (u : Turning). (transfer (turned k cpu u) ec).item) is ∙ begun_at k c.actor ec quiet sound
turned_begins k cpu ec t e (Passes p comes is event) quiet sound =
    ap (λ (u : Turning). (transfer (turned k cpu u) ec).item) is ∙ ap (λ (y : Transfer). y.item) (entry_rests k.objects (ec_in k.contexts ec) (transfer k ec) quiet (sound ec))

begins_turn : (k : KernelState) (cpu ec : ℕ) → is_giving (context k ec).state ≡ false → Sound k → (transfer (after k cpu) ec).item ≡ 0
begins_turn k cpu ec quiet sound =
    outcome (λ s o. (transfer s ec).item ≡ 0) k cpu
    (λ none. ap (λ (t : Transfer). t.item) (entry_rests k.objects (ec_in k.contexts ec) (transfer k ec) quiet (sound ec))) (λ t e is. turned_begins k cpu ec t e is quiet sound)

pub items_begin : (s : Scenario) (turns : List ℕ) (cpu ec : ℕ) → is_giving (context (run (boot s) turns) ec).state ≡ false →
    (transfer (after (run (boot s) turns) cpu) ec).item ≡ 0
items_begin s turns cpu ec quiet = begins_turn (run (boot s) turns) cpu ec quiet (boot_run_stands s turns).sound
