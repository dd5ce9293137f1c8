-- After each part the cursor is where the part moves it.
use Rattle.std.proofs.Common.{◌≡◌, ℕ, ◌+◌, List, ap, ◌∙◌, sym, subst, refl, arith}
use Rattle.std.specs.Prelude.{◌<◌, true, is_some, slice_get, slice_set, option_map, Option, Some, None, IsSome}
use Rattle.nova_model.specs.Boot.{Scenario, boot}
use Rattle.nova_model.specs.Choice.{next_to_act}
use Rattle.nova_model.specs.Deeds.{deed, done, gave, sign_of, skipped}
use Rattle.nova_model.specs.Runs.{after, run}
use Rattle.nova_model.specs.State.{KernelState, ec_in, entry, transfer, transfer_at, transfer_in}
use Rattle.nova_model.specs.Turn.{answer_of, turn}
use Rattle.nova_model.specs.Choice.{Candidate}
use Rattle.nova_model.specs.declared.deed.Deed.{Deed}
use Rattle.nova_model.specs.declared.deed.Deed.TheVariants.{Gives, Skips, Finishes, Replies}
use Rattle.nova_model.specs.declared.delegation.Derivation.{Derivation}
use Rattle.nova_model.specs.declared.event.Event.{Event}
use Rattle.nova_model.specs.declared.event.EventKind.TheVariants.{Made, Skip}
use Rattle.nova_model.specs.declared.event.Turn.TheVariants.{Stepped}
use Rattle.nova_model.specs.declared.transfer.ItemEnd.TheVariants.{Given, Skipped}
use Rattle.nova_model.specs.declared.transfer.Reason.{Reason}
use Rattle.nova_model.specs.declared.transfer.Skip.TheVariants as skip
use Rattle.nova_model.specs.declared.transfer.Transfer.{Transfer}
use Rattle.law_forest.specs.Turns.{acting, turned}
use Rattle.law_forest.proofs.Doing.{done_is}
use Rattle.law_forest.proofs.Turning.{of_kind}
use Rattle.law_turns.specs.Giving.{HasMoved, MovesCursor}
use Rattle.law_turns.proofs.TablesFit.{boot_run_fits, entry_acts, gives_there, chosen_acts}
use Rattle.law_turns.proofs.Moving.{gives_move, skips_move}
use Rattle.law_turns.proofs.Setting.{entry_itself, entry_other}

-- DOING

part_moves : (k s : KernelState) (ec : ℕ) (t : Transfer) (more : ℕ) → s.transfers ≡ slice_set k.transfers ec (Some t) → t.item ≡ (transfer k ec).item →
    t.children ≡ (transfer k ec).children + more → IsSome (transfer_at k ec) → HasMoved k s ec t.cursor more
part_moves k s ec t more is item children there =
    let itself : transfer s ec ≡ t =
    ap (λ (ts : List (Option Transfer)). transfer_in (entry (slice_get ts ec))) is ∙ ap transfer_in (entry_itself k.transfers ec t there) in
    record {
      cursor = ap (λ (u : Transfer). u.cursor) itself;
      children = ap (λ (u : Transfer). u.children) itself ∙ children;
      item = ap (λ (u : Transfer). u.item) itself ∙ item;
      others = λ other differs. ap (λ (ts : List (Option Transfer)). entry (slice_get ts other)) is ∙ entry_other k.transfers ec other t differs;
    }

pub gives_set : (k : KernelState) (ec cursor : ℕ) (child : Derivation) → deed k ec ≡ Gives child cursor → IsSome (transfer_at k ec) →
    HasMoved k (done k ec (deed k ec)) ec cursor 1
gives_set k ec cursor child is there =
    subst (λ (d : Deed). HasMoved k (done k ec d) ec cursor 1) (sym is)
    (part_moves k (done k ec (Gives child cursor)) ec (gave (transfer k ec) cursor) 1 refl refl refl there)

pub skips_set : (k : KernelState) (ec place cursor : ℕ) (reason : Reason) → deed k ec ≡ Skips reason place cursor → IsSome (transfer_at k ec) →
    HasMoved k (done k ec (deed k ec)) ec cursor 0
skips_set k ec place cursor reason is there =
    subst (λ (d : Deed). HasMoved k (done k ec d) ec cursor 0) (sym is)
    (part_moves k (done k ec (Skips reason place cursor)) ec (skipped (transfer k ec) cursor) 0 refl refl (omega arith) there)

-- TURNS

record IsMade (d : Deed) : Type 0 where
  child : Derivation
  cursor : ℕ
  is : d ≡ Gives child cursor

made : (d : Deed) → (sign_of d).0 ≡ Made → IsMade d
made (Gives child cursor) tells = record { child = child; cursor = cursor; is = refl }
made (Finishes item (Given children) words after) tells = absurd cc
made (Replies caller mark true) tells = absurd cc
made other tells = absurd cc

record IsSkipped (d : Deed) : Type 0 where
  reason : Reason
  place : ℕ
  cursor : ℕ
  is : d ≡ Skips reason place cursor

-- a part, and no whole item
skips : (d : Deed) → (sign_of d).0 ≡ Skip → 2 < (sign_of d).1 → IsSkipped d
skips (Skips reason place cursor) tells part = record { reason = reason; place = place; cursor = cursor; is = refl }
skips (Finishes item (Skipped skip.Empty) words after) tells part = absurd (omega (arith, part))
skips (Finishes item (Skipped skip.Window) words after) tells part = absurd (omega (arith, part))
skips (Replies caller mark true) tells part = absurd cc
skips other tells part = absurd cc

-- the chosen context has an entry
has_entry : (s : Scenario) (turns : List ℕ) (cpu : ℕ) (c : Candidate) → next_to_act (run (boot s) turns) cpu ≡ Some c → IsSome (transfer_at (run (boot s) turns) c.actor)
has_entry s turns cpu c chosen =
    let k = run (boot s) turns in
    let acts = chosen_acts k cpu c chosen in
    by_entry (slice_get k.transfers c.actor) (gives_there k c.actor (entry_acts k.contexts (ec_in k.contexts c.actor) acts) (boot_run_fits s turns))
  where
    by_entry : (o : Option (Option Transfer)) → option_map is_some o ≡ Some true → IsSome (entry o)
    by_entry (Some (Some t)) h = refl
    by_entry (Some None) h = absurd cc
    by_entry None h = absurd cc

-- and no other than its deed moves one
moved_after : (k : KernelState) (cpu : ℕ) (c : Candidate) (place more : ℕ) → after k cpu ≡ turned k cpu (acting k c) →
    HasMoved k (done k c.actor (deed k c.actor)) c.actor place more → HasMoved k (after k cpu) c.actor place more
moved_after k cpu c place more state h =
    let stays = ap (λ (s : KernelState). s.transfers) state ∙ sym (ap (λ (s : KernelState). s.transfers) (done_is k c.actor (deed k c.actor))) in
    let own = ap (λ (ts : List (Option Transfer)). transfer_in (entry (slice_get ts c.actor))) stays in record {
      cursor = ap (λ (t : Transfer). t.cursor) own ∙ h.cursor;
      children = ap (λ (t : Transfer). t.children) own ∙ h.children;
      item = ap (λ (t : Transfer). t.item) own ∙ h.item;
      others = λ other differs. ap (λ (ts : List (Option Transfer)). entry (slice_get ts other)) stays ∙ h.others other differs;
    }

chosen_made : (s : Scenario) (turns : List ℕ) (cpu : ℕ) (c : Candidate) → next_to_act (run (boot s) turns) cpu ≡ Some c →
    after (run (boot s) turns) cpu ≡ turned (run (boot s) turns) cpu (acting (run (boot s) turns) c) → (sign_of (deed (run (boot s) turns) c.actor)).0 ≡ Made →
    MovesCursor (run (boot s) turns) (after (run (boot s) turns) cpu) c.actor 1
chosen_made s turns cpu c chosen state tells =
    let k = run (boot s) turns in
    let d = made (deed k c.actor) tells in record {
      place = d.cursor;
      on = gives_move k c.actor d.cursor d.child d.is;
      moved = moved_after k cpu c d.cursor 1 state (gives_set k c.actor d.cursor d.child d.is (has_entry s turns cpu c chosen));
    }

chosen_skips : (s : Scenario) (turns : List ℕ) (cpu : ℕ) (c : Candidate) → next_to_act (run (boot s) turns) cpu ≡ Some c →
    after (run (boot s) turns) cpu ≡ turned (run (boot s) turns) cpu (acting (run (boot s) turns) c) → (sign_of (deed (run (boot s) turns) c.actor)).0 ≡ Skip →
    2 < (sign_of (deed (run (boot s) turns) c.actor)).1 → MovesCursor (run (boot s) turns) (after (run (boot s) turns) cpu) c.actor 0
chosen_skips s turns cpu c chosen state tells part =
    let k = run (boot s) turns in
    let d = skips (deed k c.actor) tells part in record {
      place = d.cursor;
      on = skips_move k c.actor d.place d.cursor d.reason d.is;
      moved = moved_after k cpu c d.cursor 0 state (skips_set k c.actor d.place d.cursor d.reason d.is (has_entry s turns cpu c chosen));
    }

pub made_moves : (s : Scenario) (turns : List ℕ) (cpu : ℕ) (e : Event) → answer_of (turn (run (boot s) turns) cpu) ≡ Stepped e → e.kind ≡ Made →
    MovesCursor (run (boot s) turns) (after (run (boot s) turns) cpu) e.ec 1
made_moves s turns cpu e steps tells =
    let k = run (boot s) turns in
    of_kind Made refl (λ (f : Event). MovesCursor k (after k cpu) f.ec 1) k cpu e steps (λ c chosen state kind. chosen_made s turns cpu c chosen state kind) tells

pub skipped_moves : (s : Scenario) (turns : List ℕ) (cpu : ℕ) (e : Event) → answer_of (turn (run (boot s) turns) cpu) ≡ Stepped e → e.kind ≡ Skip → 2 < e.a →
    MovesCursor (run (boot s) turns) (after (run (boot s) turns) cpu) e.ec 0
skipped_moves s turns cpu e steps tells part =
    let k = run (boot s) turns in
    of_kind Skip refl (λ (f : Event). 2 < f.a → MovesCursor k (after k cpu) f.ec 0) k cpu e steps (λ c chosen state kind a. chosen_skips s turns cpu c chosen state kind a) tells part
