-- A context that has a deadline set it in its own turn; a context whose deadline comes had it; and a context that leaves a queue has none.
use Rattle.std.proofs.Common.{◌≡◌, ℕ, ◌+◌, ◌<◌, ◌≤◌, List, refl, sym, ap, ◌∙◌, subst, inl, inr}
use Rattle.std.specs.Prelude.{◌⊎◌, true, false, slice_get, slice_set, Option, Some, None}
use Rattle.nova_model.specs.Boot.{Scenario, boot}
use Rattle.nova_model.specs.Choice.{Candidate, next_to_act}
use Rattle.nova_model.specs.Deeds.{deed}
use Rattle.nova_model.specs.Edges.{state_in}
use Rattle.nova_model.specs.Runs.{after, run}
use Rattle.nova_model.specs.Semaphores.{waits}
use Rattle.nova_model.specs.State.{KernelState, deadline_of, entry, processor_of}
use Rattle.nova_model.specs.Times.{clock, deadline_sm}
use Rattle.nova_model.specs.Turn.{answer_of, turn}
use Rattle.nova_model.specs.declared.context.State.TheVariants.{Blocked}
use Rattle.nova_model.specs.declared.deed.Deed.TheVariants.{Blocks}
use Rattle.nova_model.specs.declared.event.Event.{Event}
use Rattle.nova_model.specs.declared.event.EventKind.TheVariants.{Late}
use Rattle.nova_model.specs.declared.event.Turn.TheVariants.{Stepped}
use Rattle.nova_model.specs.declared.times.Deadline.{Deadline}
use Rattle.nova_model.specs.declared.times.Due.TheVariants as due
use Rattle.law_forest.specs.Effects.{Falls, Passing, Ticks}
use Rattle.law_forest.specs.Turns.{IsPassing, is_passing, passing, passing_event, turned}
use Rattle.law_forest.proofs.Turning.{acting_kind, of_events}
use Rattle.law_turns.specs.Keeping.{IsKept}
use Rattle.law_turns.proofs.Deadlines.{cleared}
use Rattle.law_turns.proofs.Donation.{keeps, reached_kept}
use Rattle.law_turns.proofs.Dues.{due_is}
use Rattle.law_turns.proofs.Serving.{actor_of, is_blocked}
use Rattle.law_turns.proofs.TablesFit.{chosen_acts}
use Rattle.nova_gsi.specs.Deadlines.{HadDeadline, SetsOwn}
use Rattle.nova_gsi.proofs.Homes.{actor_home}
use Rattle.nova_gsi.proofs.Standing.{IsSet, was_or_set}

-- a context that acts isn't blocked
not_blocked : (k : KernelState) (cpu w sm : ℕ) (c : Candidate) → next_to_act k cpu ≡ Some c → w ≡ c.actor → state_in k.contexts w ≡ Some (Blocked sm) → ⊥
not_blocked k cpu w sm c acts same waits =
    let free = (actor_of k.contexts c.actor (chosen_acts k cpu c acts)).unblocked in
    let both : true ≡ false = ap is_blocked (sym waits) ∙ ap (λ (m : ℕ). is_blocked (state_in k.contexts m)) same ∙ free in absurd (cc)

own : (k : KernelState) (cpu ec : ℕ) (d : Deadline) → IsKept k → (set : IsSet k cpu ec d) → processor_of k set.chosen.actor ≡ cpu → SetsOwn k cpu ec d
own k cpu ec d kept set home =
    let sets = set.sets in
    let until = sets.until in
    record {
      chosen = set.chosen;
      acts = set.acts;
      itself = sym sets.itself;
      blocks = ap (deed k) sets.itself ∙ sets.blocks ∙ ap (λ (sm : ℕ). Blocks sm (Some d)) (sym until.waits_at);
      none = by_deadline (deadline_of k.times ec) refl;
      processor = until.processor ∙ home;
      later = subst (λ (c : ℕ). clock k.times c + 1 < d.at) home until.later;
    }
  where
    by_deadline : (o : Option Deadline) → deadline_of k.times ec ≡ o → o ≡ None
    by_deadline None is = refl
    by_deadline (Some x) is = absurd (not_blocked k cpu ec x.sm set.chosen set.acts set.sets.itself (kept.deadlines ec x is).blocked)

pub sets_own : (s : Scenario) (turns : List ℕ) (cpu ec : ℕ) (d : Deadline) → deadline_of (after (run (boot s) turns) cpu).times ec ≡ Some d →
    (deadline_of (run (boot s) turns).times ec ≡ Some d) ⊎ SetsOwn (run (boot s) turns) cpu ec d
sets_own s turns cpu ec d there = elim (was_or_set (run (boot s) turns) cpu ec d there) [
  | inl old ↦ inl old
  | inr new ↦ inr (own (run (boot s) turns) cpu ec d (reached_kept s turns) new (actor_home s turns cpu new.chosen new.acts))
]

-- A DEADLINE COMES

cleared_none : (ds : List (Option Deadline)) (ec : ℕ) → entry (slice_get (slice_set ds ec None) ec) ≡ None
cleared_none ds ec = by_entry (entry (slice_get (slice_set ds ec None) ec)) refl
  where
    by_entry : (o : Option Deadline) → entry (slice_get (slice_set ds ec None) ec) ≡ o → o ≡ None
    by_entry None is = refl
    by_entry (Some d) is = absurd ((cleared ds ec ec d is).0 refl)

late_had : (k : KernelState) (cpu ec : ℕ) → IsKept k → IsPassing k cpu (Falls (due.Deadline ec)) → after k cpu ≡ turned k cpu (passing k (Falls (due.Deadline ec))) →
    HadDeadline k cpu (passing_event k cpu (Falls (due.Deadline ec)))
late_had k cpu ec kept comes state =
    let h = due_is k.times cpu (due.Deadline ec) comes in
    let its = h.entry in record {
      deadline = its.deadline;
      had = its.there;
      waited = kept.deadlines ec its.deadline its.there;
      processor = its.its;
      semaphore = ap deadline_sm its.there;
      came = subst (λ (m : ℕ). m ≤ clock k.times cpu) (sym its.at) h.due;
      over = ap (λ (l : KernelState). deadline_of l.times ec) state ∙ cleared_none k.times.deadlines ec;
    }

pub had_deadline : (s : Scenario) (turns : List ℕ) (cpu : ℕ) (e : Event) → answer_of (turn (run (boot s) turns) cpu) ≡ Stepped e → e.kind ≡ Late →
    HadDeadline (run (boot s) turns) cpu e
had_deadline s turns cpu e answers late =
    of_events (λ (f : Event). f.kind ≡ Late → HadDeadline k cpu f) k cpu e answers by_passing
    (λ c acts state kind. let both : true ≡ false = ap is_passing (sym kind) ∙ acting_kind (deed k c.actor) in absurd (cc)) late
  where
    k : KernelState
    k = run (boot s) turns

    by_passing : (p : Passing) → IsPassing k cpu p → after k cpu ≡ turned k cpu (passing k p) → (passing_event k cpu p).kind ≡ Late → HadDeadline k cpu (passing_event k cpu p)
    by_passing (Falls (due.Alarm n)) comes state kind = absurd (cc)
    by_passing (Falls (due.Deadline ec)) comes state kind = late_had k cpu ec (reached_kept s turns) comes state
    by_passing Ticks comes state kind = absurd (cc)

-- ONE LEAVES A QUEUE

pub left_none : (s : Scenario) (turns : List ℕ) (cpu sm w : ℕ) → waits (run (boot s) turns).semaphores sm w ≡ true → waits (after (run (boot s) turns) cpu).semaphores sm w ≡ false →
    deadline_of (after (run (boot s) turns) cpu).times w ≡ None
left_none s turns cpu sm w before gone = by_deadline (deadline_of (after k cpu).times w) refl
  where
    k : KernelState
    k = run (boot s) turns

    kept : IsKept k
    kept = reached_kept s turns

    blocked : state_in k.contexts w ≡ Some (Blocked sm)
    blocked = kept.blocked.blocked sm w before

    still : (d : Deadline) → deadline_of (after k cpu).times w ≡ Some d → deadline_of k.times w ≡ Some d → ⊥
    still d there old =
        let states : Some (Blocked d.sm) ≡ Some (Blocked sm) = sym (kept.deadlines w d old).blocked ∙ blocked in
        let same : d.sm ≡ sm = cc in
        let now = keeps k cpu kept in
        let waiting : waits (after k cpu).semaphores d.sm w ≡ true = now.blocked.waiting d.sm w (now.deadlines w d there).blocked in
        let on : waits (after k cpu).semaphores sm w ≡ true = subst (λ (m : ℕ). waits (after k cpu).semaphores m w ≡ true) same waiting in
        let both : true ≡ false = sym on ∙ gone in absurd (cc)

    by_deadline : (o : Option Deadline) → deadline_of (after k cpu).times w ≡ o → o ≡ None
    by_deadline None is = refl
    by_deadline (Some d) is = elim (was_or_set k cpu w d is) [
      | inl old ↦ absurd (still d is old)
      | inr new ↦ absurd (not_blocked k cpu w sm new.chosen new.acts new.sets.itself blocked)
    ]
