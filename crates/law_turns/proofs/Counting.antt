-- The children that a present item made are counted: what each deed makes of the count, and the fold over turns.
use Rattle.nova_model.specs.declared.new_object.NewObject.TheVariants as new
use Rattle.law_forest.proofs.Boots.{sources_keep}
use Rattle.std.proofs.Common.{◌≡◌, ℕ, zero, suc, List, [], ◌∷◌, ◌++◌, refl, ap, ◌∙◌, sym, subst, arith}
use Rattle.std.specs.Prelude.{◌≢◌, ◌==◌, Bool, true, false, is_some, if◌then◌else◌, slice_get, slice_set, Option, Some, None, IfSome, option_map}
use Rattle.nova_model.specs.Boot.{Scenario, Image, boot, bare, with_image, with_images}
use Rattle.nova_model.specs.Choice.{in_front}
use Rattle.nova_model.specs.Creation.{object_of, transfer_of}
use Rattle.nova_model.specs.Deeds.{deed, gave, item_sign, reason_number, sign_of, skipped, transfer_after}
use Rattle.nova_model.specs.Runs.{after, run, trace}
use Rattle.nova_model.specs.State.{KernelState, context_at, ec_in, no_transfer, transfer, transfer_in}
use Rattle.nova_model.specs.declared.deed.Deed.{Deed}
use Rattle.nova_model.specs.declared.deed.Deed.TheVariants.{Gives, Skips, Finishes, Replies}
use Rattle.nova_model.specs.declared.event.Event.{Event}
use Rattle.nova_model.specs.declared.event.EventKind.TheVariants.{Skip}
use Rattle.nova_model.specs.declared.new_object.NewObject.{NewObject}
use Rattle.nova_model.specs.declared.transfer.ItemEnd.{ItemEnd}
use Rattle.nova_model.specs.declared.transfer.ItemEnd.TheVariants.{Given, Skipped, Translated}
use Rattle.nova_model.specs.declared.transfer.Reason.{Reason}
use Rattle.nova_model.specs.declared.transfer.Reason.TheVariants as reason
use Rattle.nova_model.specs.declared.transfer.Sequel.{Sequel}
use Rattle.nova_model.specs.declared.transfer.Sequel.TheVariants as sequel
use Rattle.nova_model.specs.declared.transfer.Skip.TheVariants as skip
use Rattle.nova_model.specs.declared.transfer.Transfer.{Transfer}
use Rattle.law_forest.specs.Effects.{applied, effect, joined, made_by, put, transfer_by, Falls, Passing, Ticks}
use Rattle.nova_model.specs.declared.times.Due.TheVariants as due
use Rattle.law_forest.specs.Turns.{Acts, IsTurning, Turning, turned, Passes, passing_event}
use Rattle.law_forest.proofs.Turning.{after_keeps, event_at, outcome}
use Rattle.law_forest.proofs.Doing.{set_at}
use Rattle.law_turns.specs.Giving.{counted_after, counted_by}
use Rattle.law_turns.proofs.TablesFit.{TablesFit, boot_fits, chosen_acts, entry_acts, gives_there}
use Rattle.law_turns.proofs.Giving.{Sound, at, boot_for, new_transfer, quiet_own, transfers_by, turned_gives}
use Rattle.law_turns.proofs.GivingPremises.{Wants, deed_wants, is_of_item}
use Rattle.law_turns.proofs.Setting.{more_at}

-- HOW FAR THEY ARE

at_more : (ts : List (Option Transfer)) (t : Option Transfer) (e : ℕ) → transfer_in t ≡ no_transfer → at (ts ++ t ∷ []) e ≡ at ts e
at_more ts t e none = more_at (λ y. transfer_in y ≡ at ts e) ts t e refl (λ old. none ∙ old)

at_joined : (ts : List (Option Transfer)) (made : Option NewObject) (e : ℕ) → at (joined ts (option_map (λ m. transfer_of (object_of m)) made)) e ≡ at ts e
at_joined ts None e = refl
at_joined ts (Some made) e = at_more ts (transfer_of (object_of made)) e (new_transfer (object_of made))

at_other : (ts : List (Option Transfer)) (ec e : ℕ) (t : Transfer) → e ≢ ec → at (slice_set ts ec (Some t)) e ≡ at ts e
at_other ts ec e t other = set_at (λ y. transfer_in y ≡ at ts e) ts ec e t refl (λ same. absurd (other same))

pub at_itself : (ts : List (Option Transfer)) (ec : ℕ) (t : Transfer) → option_map is_some (slice_get ts ec) ≡ Some true → at (slice_set ts ec (Some t)) ec ≡ t
at_itself [] ec t there = absurd (cc)
at_itself (x ∷ ts) zero t there = refl
at_itself (x ∷ ts) (suc ec) t there = at_itself ts ec t there

-- how far a context is after a deed
abbrev pub now_at : KernelState → ℕ → Deed → ℕ → Transfer
now_at k ec d e = at (applied k (effect k ec d)).transfers e

pub now_is : (k : KernelState) (ec : ℕ) (d : Deed) (e : ℕ) → now_at k ec d e ≡ at (transfers_by k ec d) e
now_is k ec d e = at_joined (transfers_by k ec d) (made_by d) e

-- A DEED LEAVES ALL OTHERS

pub apart_stays : (k : KernelState) (ec e : ℕ) (d : Deed) → is_of_item d ≡ false → at (transfers_by k ec d) e ≡ at k.transfers e
apart_stays k ec e (Gives child cursor) apart = absurd cc
apart_stays k ec e (Skips reason place cursor) apart = absurd cc
apart_stays k ec e (Finishes item end words after) apart = absurd cc
apart_stays k ec e other apart = refl

-- a deed that is neither a part nor an end leaves each
pub leaves : (k : KernelState) (ec e : ℕ) (d : Deed) → is_of_item d ≡ false → now_at k ec d e ≡ at k.transfers e
leaves k ec e d apart = now_is k ec d e ∙ apart_stays k ec e d apart

put_other : (ts : List (Option Transfer)) (ec e : ℕ) (o : Option (ℕ × Transfer)) → IfSome o (λ t. t.0 ≡ ec) → e ≢ ec → at (put ts o) e ≡ at ts e
put_other ts ec e None own other = refl
put_other ts ec e (Some (n, t)) own other = at_other ts n e t (λ same. other (same ∙ own))

own_transfer : (k : KernelState) (ec : ℕ) (d : Deed) → IfSome (transfer_by k ec d) (λ t. t.0 ≡ ec)
own_transfer k ec (Gives child cursor) = refl
own_transfer k ec (Skips reason place cursor) = refl
own_transfer k ec (Finishes item end words after) = refl
own_transfer k ec other = tt

pub others_stay : (k : KernelState) (ec e : ℕ) (d : Deed) → e ≢ ec → now_at k ec d e ≡ at k.transfers e
others_stay k ec e d other = now_is k ec d e ∙ put_other k.transfers ec e (transfer_by k ec d) (own_transfer k ec d) other

-- AND COUNTS ITS OWN

ends_none : (item : ℕ) (after : Sequel) → (transfer_after item after).children ≡ 0
ends_none item sequel.Item = refl
ends_none item sequel.Opened = refl
ends_none item sequel.Taken = refl
ends_none item (sequel.Replied caller mark) = refl

end_counts : (item count : ℕ) (end : ItemEnd) → counted_by (item_sign item end).0 (item_sign item end).1 count ≡ 0
end_counts item count (Given children) = refl
end_counts item count (Skipped skip.Empty) = refl
end_counts item count (Skipped skip.Window) = refl
end_counts item count (Translated word) = refl

skip_counts : (count : ℕ) (r : Reason) → counted_by Skip (reason_number r) count ≡ count
skip_counts count reason.Rights = refl
skip_counts count reason.Taken = refl
skip_counts count reason.Busy = refl

own_counts : (k : KernelState) (ec : ℕ) (d : Deed) → Wants k ec d → option_map is_some (slice_get k.transfers ec) ≡ Some true → Sound k →
    (at (transfers_by k ec d) ec).children ≡ counted_by (sign_of d).0 (sign_of d).1 (transfer k ec).children
own_counts k ec (Gives child cursor) wants there h = ap (λ (t : Transfer). t.children) (at_itself k.transfers ec (gave (transfer k ec) cursor) there)
own_counts k ec (Skips reason place cursor) wants there h =
    ap (λ (t : Transfer). t.children) (at_itself k.transfers ec (skipped (transfer k ec) cursor) there) ∙ sym (skip_counts (transfer k ec).children reason)
own_counts k ec (Finishes item end words after) wants there h =
    ap (λ (t : Transfer). t.children) (at_itself k.transfers ec (transfer_after item after) there)
    ∙ ends_none item after ∙ sym (end_counts item (transfer k ec).children end)
own_counts k ec (Replies caller mark true) wants there h = ap (λ (t : Transfer). t.children) (quiet_own k ec (Replies caller mark true) refl wants h)
own_counts k ec other wants there h = ap (λ (t : Transfer). t.children) (quiet_own k ec other refl wants h)

-- TURNS

deed_counts : (k : KernelState) (a e : ℕ) (d : Deed) → Wants k a d → is_some (context_at k a) ≡ true → TablesFit k → Sound k →
    (now_at k a d e).children ≡ (if a == e then counted_by (sign_of d).0 (sign_of d).1 (transfer k e).children else (transfer k e).children)
deed_counts k a e d wants there fits sound = by_test (a == e) refl
  where
    by_test : (t : Bool) → (a == e) ≡ t →
        (now_at k a d e).children ≡ (if t then counted_by (sign_of d).0 (sign_of d).1 (transfer k e).children else (transfer k e).children)
    by_test true is =
        let same : a ≡ e = grind (arith, is) in
        subst (λ (n : ℕ). (now_at k a d n).children ≡ counted_by (sign_of d).0 (sign_of d).1 (transfer k n).children) same
        (ap (λ (t : Transfer). t.children) (now_is k a d a) ∙ own_counts k a d wants (gives_there k a there fits) sound)
    by_test false is = ap (λ (t : Transfer). t.children) (others_stay k a e d (λ same. absurd (grind (arith, is, same))))

turned_counts : (k : KernelState) (cpu e : ℕ) (rest : List Event) (t : Turning) (f : Event) → IsTurning k cpu t f → TablesFit k → Sound k →
    counted_after e (transfer k e).children (f ∷ rest) ≡ counted_after e (transfer (turned k cpu t) e).children rest
turned_counts k cpu e rest t f (Acts c chosen is event) fits sound =
    let there = entry_acts k.contexts (ec_in k.contexts c.actor) (chosen_acts k cpu c chosen) in
    ap (λ (x : Event). counted_after e (transfer k e).children (x ∷ rest)) event
    ∙ ap (λ (n : ℕ). counted_after e n rest) (sym (deed_counts k c.actor e (deed k c.actor) (deed_wants k c.actor) there fits sound))
    ∙ ap (λ (u : Turning). counted_after e (transfer (turned k cpu u) e).children rest) (sym is)
turned_counts k cpu e rest t f (Passes p comes is event) fits sound =
    ap (λ (x : Event). counted_after e (transfer k e).children (x ∷ rest)) event
    ∙ ap (λ (n : ℕ). counted_after e n rest) (by_test ((passing_event k cpu p).ec == e))
    ∙ ap (λ (u : Turning). counted_after e (transfer (turned k cpu u) e).children rest) (sym is)
  where
    still : (q : Passing) → counted_by (passing_event k cpu q).kind (passing_event k cpu q).a (transfer k e).children ≡ (transfer k e).children
    still (Falls (due.Alarm alarm)) = refl
    still (Falls (due.Deadline ec)) = refl
    still Ticks = refl

    by_test : (test : Bool) → (if test then counted_by (passing_event k cpu p).kind (passing_event k cpu p).a (transfer k e).children else (transfer k e).children) ≡ (transfer k e).children
    by_test true = still p
    by_test false = refl

turn_counts : (k : KernelState) (cpu e : ℕ) (rest : List Event) → TablesFit k × Sound k →
    counted_after e (transfer k e).children (in_front (event_at k cpu) rest) ≡ counted_after e (transfer (after k cpu) e).children rest
turn_counts k cpu e rest h =
    outcome (λ s o. counted_after e (transfer k e).children (in_front o rest) ≡ counted_after e (transfer s e).children rest) k cpu
    (λ none. refl) (λ t f is. turned_counts k cpu e rest t f is h.0 h.1)

run_counts : (k : KernelState) (turns : List ℕ) (e : ℕ) → TablesFit k × Sound k → (transfer (run k turns) e).children ≡ counted_after e (transfer k e).children (trace k turns)
run_counts k [] e h = refl
run_counts k (cpu ∷ turns) e h =
    run_counts (after k cpu) turns e (after_keeps (λ s. TablesFit s × Sound s) turned_gives k cpu h) ∙ sym (turn_counts k cpu e (trace (after k cpu) turns) h)

-- none is under way at first
bare_none : (s : Scenario) (e : ℕ) → transfer (bare s.cpus s.ram s.consoles s.root) e ≡ no_transfer
bare_none s zero = refl
bare_none s (suc zero) = refl
bare_none s (suc (suc zero)) = refl
bare_none s (suc (suc (suc e))) = refl

images_none : (k : KernelState) (images : List Image) (e : ℕ) → transfer (with_images k images) e ≡ transfer k e
images_none k [] e = refl
images_none k (image ∷ images) e = images_none (with_image k image) images e

boot_none : (s : Scenario) (e : ℕ) → transfer (boot s) e ≡ no_transfer
boot_none s =
    sources_keep (λ (k : KernelState). (e : ℕ) → transfer k e ≡ no_transfer) (λ k source none e. at_joined k.transfers (Some (new.Sm 0)) e ∙ none e)
    (with_images (bare s.cpus s.ram s.consoles s.root) s.images) s.sources (λ e. images_none (bare s.cpus s.ram s.consoles s.root) s.images e ∙ bare_none s e)

pub counts_children : (s : Scenario) (turns : List ℕ) (ec : ℕ) → (transfer (run (boot s) turns) ec).children ≡ counted_after ec 0 (trace (boot s) turns)
counts_children s turns ec =
    run_counts (boot s) turns ec (boot_fits s, boot_for s)
    ∙ ap (λ (t : Transfer). counted_after ec t.children (trace (boot s) turns)) (boot_none s ec)
