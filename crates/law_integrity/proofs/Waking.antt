-- A semaphore that is raised wakes the first that waits there, by an up as by an alarm; and what a new scheduling context begins with.
use Rattle.std.proofs.Common.{◌≡◌, ℕ, zero, suc, List, [], ◌∷◌, ◌⊎◌, length, refl, sym, ap, ◌∙◌, subst, inl, inr}
use Rattle.std.specs.Prelude.{◌≢◌, ◌==◌, Bool, true, false, if◌then◌else◌, IfSome, IsSome, is_some, slice_get, slice_set, Option, Some, None, Ok, Err, Result, option_map}
use Rattle.std.proofs.lemmas.Option.{same_Some}
use Rattle.nova_objects.specs.declared.object.Object.{Object}
use Rattle.nova_range.specs.declared.status.Status.TheVariants.{Success}
use Rattle.nova_model.specs.Capabilities.{is_sc}
use Rattle.nova_model.specs.Creation.{budget_of, object_of}
use Rattle.nova_model.specs.Deeds.{answered, deed}
use Rattle.nova_model.specs.Semaphores.{Semaphores, changed, changed_by, greatest, raised, semaphore, semaphore_at, woken, woken_of}
use Rattle.nova_model.specs.State.{Contexts, KernelState, Semaphore, budget_at, context_in, ec_in, ec_of, entry}
use Rattle.nova_model.specs.Times.{alarm_sm}
use Rattle.nova_model.specs.Turn.{quantum_in, whom_of}
use Rattle.nova_model.specs.declared.budget.Budget.{Budget}
use Rattle.nova_model.specs.declared.context.EcState.{EcState}
use Rattle.nova_model.specs.declared.context.State.TheVariants.{Blocked}
use Rattle.nova_model.specs.declared.deed.Deed.{Deed}
use Rattle.nova_model.specs.declared.deed.Deed.TheVariants.{Ups}
use Rattle.nova_model.specs.declared.new_object.NewObject.{NewObject}
use Rattle.nova_model.specs.declared.new_object.NewObject.TheVariants as new
use Rattle.nova_model.specs.declared.semaphore.Overflow.{Overflow}
use Rattle.nova_model.specs.declared.times.Deadline.{Deadline}
use Rattle.nova_model.specs.declared.times.Due.TheVariants as due
use Rattle.law_forest.specs.Effects.{Answers, Falls, alarm_up, all_edited, clears_by, deadlines_with, edit_at, edited, effect, ends_by, joined, made_by, with_status}
use Rattle.law_forest.specs.Turns.{budgets_charged, budgets_paid, passing, turned}
use Rattle.law_forest.proofs.Allowed.{deed_allowed}
use Rattle.law_origins.proofs.Actors.{last_object}
use Rattle.law_turns.proofs.Blocking.{woken_blocked}
use Rattle.law_turns.proofs.Referring.{Asks, deed_asks}
use Rattle.law_turns.proofs.Serving.{IsActor, blocked_there, is_blocked}
use Rattle.law_turns.proofs.Setting.{entry_itself, entry_other}
use Rattle.law_turns.proofs.TablesFit.{TablesFit}
use Rattle.law_turns.specs.Links.{state_at}
use Rattle.law_turns.specs.Scheduling.{IsPaidBy}
use Rattle.law_turns.specs.Tables.{HasTables}
use Rattle.law_turns.proofs.Passing.{blocked_state as waits_there}
use Rattle.law_integrity.specs.Integrity.{IsAwake, IsFirstAwake, IsNewBudget, IsRaised}
use Rattle.law_integrity.proofs.Branches.{creator_of}
use Rattle.law_integrity.proofs.Entries.{join_each, same_length}

-- WHICH CONTEXT IS WOKEN

pub cleared_itself : (ds : List (Option Deadline)) (n : ℕ) → entry (slice_get (slice_set ds n None) n) ≡ None
cleared_itself [] n = refl
cleared_itself (d ∷ ds) zero = refl
cleared_itself (d ∷ ds) (suc n) = cleared_itself ds n

-- a semaphore that is there is changed
pub changed_at : (change : Semaphore → Semaphore) (all : Semaphores) (sm : ℕ) → IfSome (semaphore_at all sm) (λ s. semaphore_at (changed change all sm) sm ≡ Some (change s))
changed_at change all sm = by_entry (semaphore_at all sm) refl
  where
    by_entry : (o : Option Semaphore) → semaphore_at all sm ≡ o → IfSome o (λ s. semaphore_at (changed_by change all sm o) sm ≡ Some (change s))
    by_entry None is = tt
    by_entry (Some s) is = entry_itself all sm (change s) (ap (λ (o : Option Semaphore). is_some o) is)

-- the first of the queue, or none of an empty queue
first_awake : (k new : KernelState) (sm count : ℕ) (ecs : List ℕ) → ((w : ℕ) → whom_of (woken_of count ecs) ≡ Some w → IsAwake k new sm w) → IsFirstAwake k new sm ecs (whom_of (woken_of count ecs))
first_awake k new sm count [] awake = by_full (count == greatest)
  where
    by_full : (t : Bool) → whom_of (if t then Err (record {}) else Ok None) ≡ None
    by_full true = refl
    by_full false = refl
first_awake k new sm count (first ∷ rest) awake = (refl, awake first refl)

whom_ok : (r : Result (Option ℕ) Overflow) (w : ℕ) → whom_of r ≡ Some w → r ≡ Ok (Some w)
whom_ok (Ok o) w is = ap Ok is
whom_ok (Err full) w is = absurd (cc)

-- BY AN UP

-- the woken context isn't that which acts
not_actor : (k : KernelState) (ec sm w : ℕ) → IsActor k.contexts ec → state_at (ec_in k.contexts w) ≡ Some (Blocked sm) → w ≢ ec
not_actor k ec sm w actor blocked same =
    let both : true ≡ false = sym (ap is_blocked (ap (λ (n : ℕ). state_at (ec_in k.contexts n)) (sym same) ∙ blocked)) ∙ actor.unblocked in cc

two_answered : (cs : Contexts) (ec w : ℕ) → w ≢ ec → IsSome (ec_in cs w) →
    ec_in (all_edited cs ((ec, Answers Success None) ∷ (w, Answers Success None) ∷ [])) w ≡ Some (answered (ec_of cs w) Success None)
two_answered cs ec w apart there =
    let stays : ec_in (edit_at cs ec (Answers Success None)) w ≡ ec_in cs w = entry_other cs ec w (edited (ec_of cs ec) (Answers Success None)) apart in
    entry_itself (edit_at cs ec (Answers Success None)) w _ (subst (λ (o : Option EcState). IsSome o) (sym stays) there)
    ∙ ap (λ (x : EcState). Some (answered x Success None)) (ap context_in stays)

up_awake : (k : KernelState) (cpu ec sm w : ℕ) (stirs : ℕ → Bool) (charge : Option ℕ) → woken (semaphore k.semaphores sm) ≡ Ok (Some w) → IsActor k.contexts ec → TablesFit k →
    IsAwake k (turned k cpu (record { effect = effect k ec (Ups sm (Some w)); stirs = stirs; charge = charge })) sm w
up_awake k cpu ec sm w stirs charge wakes actor fits =
    let blocked = woken_blocked k sm w wakes fits.blocked in
    let there : ec_in k.contexts w ≡ Some (ec_of k.contexts w) = blocked_there k.contexts w sm blocked in
    record {
      context = ec_of k.contexts w;
      there = there;
      blocked = waits_there (ec_in k.contexts w) (ec_of k.contexts w) sm there blocked;
      goes_on = two_answered k.contexts ec w (not_actor k ec sm w actor blocked) (ap (λ (o : Option EcState). is_some o) there);
      cleared = cleared_itself k.times.deadlines w;
    }

pub deed_raises : (k : KernelState) (cpu ec sm : ℕ) (whom : Option ℕ) (stirs : ℕ → Bool) (charge : Option ℕ) → deed k ec ≡ Ups sm whom → IsActor k.contexts ec → TablesFit k →
    IsRaised k (turned k cpu (record { effect = effect k ec (deed k ec); stirs = stirs; charge = charge })) sm whom
deed_raises k cpu ec sm whom stirs charge is actor fits =
    subst (λ (d : Deed). IsRaised k (turned k cpu (record { effect = effect k ec d; stirs = stirs; charge = charge })) sm whom) (sym is) (record {
      raises = changed_at raised k.semaphores sm;
      first = subst (IsFirstAwake k new sm (semaphore k.semaphores sm).waiting) (ap whom_of wakes)
          (first_awake k new sm (semaphore k.semaphores sm).count (semaphore k.semaphores sm).waiting
          (λ w first. awake w whom wakes (sym (ap whom_of wakes) ∙ first)));
    })
  where
    new : KernelState
    new = turned k cpu (record { effect = effect k ec (Ups sm whom); stirs = stirs; charge = charge })

    wakes : woken (semaphore k.semaphores sm) ≡ Ok whom
    wakes = let asks : Asks k ec (Ups sm whom) = subst (Asks k ec) is (deed_asks k ec) in asks.1

    awake : (w : ℕ) (o : Option ℕ) → woken (semaphore k.semaphores sm) ≡ Ok o → o ≡ Some w → IsAwake k (turned k cpu (record { effect = effect k ec (Ups sm o); stirs = stirs; charge = charge })) sm w
    awake w None up first = absurd (cc)
    awake w (Some v) up first =
        let same : v ≡ w = same_Some v w first in
        subst (λ (n : ℕ). IsAwake k (turned k cpu (record { effect = effect k ec (Ups sm (Some v)); stirs = stirs; charge = charge })) sm n) same (up_awake k cpu ec sm v stirs charge up actor fits)

-- BY AN ALARM

alarm_awake : (k : KernelState) (cpu alarm w : ℕ) → TablesFit k → whom_of (alarm_up k alarm) ≡ Some w →
    IsAwake k (turned k cpu (passing k (Falls (due.Alarm alarm)))) (alarm_sm (slice_get k.times.alarms alarm)) w
alarm_awake k cpu alarm w fits first =
    let sm = alarm_sm (slice_get k.times.alarms alarm) in
    let blocked = woken_blocked k sm w (whom_ok (alarm_up k alarm) w first) fits.blocked in
    let there : ec_in k.contexts w ≡ Some (ec_of k.contexts w) = blocked_there k.contexts w sm blocked in
    record {
      context = ec_of k.contexts w;
      there = there;
      blocked = waits_there (ec_in k.contexts w) (ec_of k.contexts w) sm there blocked;
      goes_on = subst (λ (o : Option ℕ). ec_in (all_edited k.contexts (ends_by (with_status Success o))) w ≡ Some (answered (ec_of k.contexts w) Success None)) (sym first)
          (entry_itself k.contexts w (answered (ec_of k.contexts w) Success None) (ap (λ (o : Option EcState). is_some o) there));
      cleared = subst (λ (o : Option ℕ). entry (slice_get (deadlines_with k.times.deadlines (clears_by (with_status Success o))) w) ≡ None) (sym first) (cleared_itself k.times.deadlines w);
    }

pub alarm_raises : (k : KernelState) (cpu alarm : ℕ) → TablesFit k →
    IsRaised k (turned k cpu (passing k (Falls (due.Alarm alarm)))) (alarm_sm (slice_get k.times.alarms alarm)) (whom_of (alarm_up k alarm))
alarm_raises k cpu alarm fits =
    let sm = alarm_sm (slice_get k.times.alarms alarm) in
    record {
      raises = changed_at raised k.semaphores sm;
      first = first_awake k (turned k cpu (passing k (Falls (due.Alarm alarm)))) sm (semaphore k.semaphores sm).count (semaphore k.semaphores sm).waiting
          (λ w first. alarm_awake k cpu alarm w fits first);
    }

-- NEW BUDGETS

-- the scheduling context that pays had a budget
pub payer : (k : KernelState) (cpu sc : ℕ) (new : KernelState) → IsPaidBy k new cpu sc → IsSome (budget_at k sc)
payer k cpu sc new paid = ap (λ (o : Option Budget). is_some o) paid.there

charged_other : (os : List Object) (bs : List (Option Budget)) (stamp sc n : ℕ) → n ≢ sc → entry (slice_get (budgets_charged os bs stamp (Some sc)) n) ≡ entry (slice_get bs n)
charged_other os bs stamp sc n apart = by_budget (entry (slice_get bs sc))
  where
    by_budget : (o : Option Budget) → entry (slice_get (budgets_paid bs sc (quantum_in (slice_get os sc)) stamp o) n) ≡ entry (slice_get bs n)
    by_budget None = refl
    by_budget (Some b) = entry_other bs sc n _ apart

pub budgets_by : (k : KernelState) (cpu ec sc n : ℕ) (stirs : ℕ → Bool) → HasTables k → IsSome (budget_at k sc) → budget_at k n ≡ None →
    let new = turned k cpu (record { effect = effect k ec (deed k ec); stirs = stirs; charge = Some sc }) in (budget_at new n ≡ None) ⊎ IsNewBudget k new ec n
budgets_by k cpu ec sc n stirs tables pays none = by_joins
    (join_each Joins k.budgets (budget_of k.next_stamp) (made_by (deed k ec)) n (inl none)
    (λ m made last. inr (m, made, last ∙ same_length is_some is_sc k.budgets k.objects tables.budgets, refl)))
  where
    after : KernelState
    after = turned k cpu (record { effect = effect k ec (deed k ec); stirs = stirs; charge = Some sc })

    Joins : Option Budget → Type 0
    Joins o = (o ≡ None) ⊎ ((m : NewObject) × (made_by (deed k ec) ≡ Some m) × (n ≡ length k.objects) × (o ≡ budget_of k.next_stamp m))

    apart : n ≢ sc
    apart same = let some : IsSome {T = Budget} None = subst (λ (o : Option Budget). IsSome o) (ap (budget_at k) (sym same) ∙ none) pays in cc

    same_there : budget_at after n ≡ entry (slice_get (joined k.budgets (option_map (budget_of k.next_stamp) (made_by (deed k ec)))) n)
    same_there = charged_other (joined k.objects (option_map object_of (made_by (deed k ec)))) (joined k.budgets (option_map (budget_of k.next_stamp) (made_by (deed k ec)))) _ sc n apart

    by_object : (m : NewObject) → made_by (deed k ec) ≡ Some m → n ≡ length k.objects → budget_at after n ≡ budget_of k.next_stamp m → (budget_at after n ≡ None) ⊎ IsNewBudget k after ec n
    by_object (new.Sc donor its priority quantum) made next is = inr (record {
      next = record { next = next; creator = creator_of k ec (deed k ec) (new.Sc donor its priority quantum) (deed_allowed k ec) made };
      donor = donor;
      processor = its;
      priority = priority;
      quantum = quantum;
      object = ap (λ (o : Option NewObject). slice_get (joined k.objects (option_map object_of o)) n) made
          ∙ ap (slice_get (joined k.objects (Some (object_of (new.Sc donor its priority quantum))))) next ∙ last_object k.objects (object_of (new.Sc donor its priority quantum));
      budget = is;
    })
    by_object new.Pd made next is = inl is
    by_object (new.Ec pd its kind sp event) made next is = inl is
    by_object (new.Pt handler mtd ip) made next is = inl is
    by_object (new.Sm count) made next is = inl is

    by_joins : Joins (entry (slice_get (joined k.budgets (option_map (budget_of k.next_stamp) (made_by (deed k ec)))) n)) → (budget_at after n ≡ None) ⊎ IsNewBudget k after ec n
    by_joins (inl stays) = inl (same_there ∙ stays)
    by_joins (inr new_) = by_object new_.0 new_.1 new_.2 (same_there ∙ new_.3)
