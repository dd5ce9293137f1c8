-- A context that is the first to wait at the semaphore of an alarm, whose moment has come, stays so until it is woken.
use Rattle.std.proofs.Common.{◌≡◌, ℕ, ◌≤◌, List, [], ◌∷◌, ◌++◌, length, inl, inr, refl, sym, ap, ap₂, ◌∙◌, subst, arith}
use Rattle.std.specs.Prelude.{◌≢◌, ◌⊎◌, Bool, true, false, ◌==◌, slice_get, slice_set, Option, Some, None, option_map}
use Rattle.std.proofs.lemmas.Bool.{eqb-true, eqb-false}
use Rattle.nova_range.specs.declared.status.Status.{Status}
use Rattle.nova_range.specs.declared.status.Status.TheVariants.{Success}
use Rattle.nova_model.specs.Choice.{Candidate, next_to_act}
use Rattle.nova_model.specs.Deeds.{answered, deed}
use Rattle.nova_model.specs.Edges.{state_in}
use Rattle.nova_model.specs.Runs.{after}
use Rattle.nova_model.specs.State.{KernelState, deadline_of, ec_of}
use Rattle.nova_model.specs.Times.{clock}
use Rattle.nova_model.specs.declared.context.State.TheVariants.{Ready, Blocked}
use Rattle.nova_model.specs.declared.deed.Deed.{Deed}
use Rattle.nova_model.specs.declared.deed.Deed.TheVariants.{Ups, Blocks}
use Rattle.nova_model.specs.declared.event.Event.{Event}
use Rattle.nova_model.specs.declared.times.Due.TheVariants as due
use Rattle.law_forest.specs.Effects.{all_edited, edits_by, ends_by, joined, made_by, passing_ends}
use Rattle.law_forest.specs.Turns.{Acts, Idles, IsTurning, Passes, Takes, Turning, turned}
use Rattle.law_forest.proofs.Turning.{comes}
use Rattle.law_turns.specs.Keeping.{IsKept}
use Rattle.law_turns.proofs.Moments.{has_entries}
use Rattle.law_turns.proofs.Setting.{entry_itself, entry_kept, get_other}
use Rattle.law_response.specs.Waits.{ActsItself, is_due}
use Rattle.law_response.proofs.Selves.{joined_state, of_state}
use Rattle.std.specs.Prelude.{◌-◌, filter, not, if◌then◌else◌, Result, Ok, eqb}
use Rattle.nova_range.specs.declared.status.Status.TheVariants.{Timeout}
use Rattle.nova_model.specs.Semaphores.{Semaphores, changed, changed_by, has, lowered, raised, semaphore, semaphore_at, semaphore_in, waits, without_one, woken, woken_of}
use Rattle.nova_model.specs.State.{Semaphore}
use Rattle.nova_model.specs.Times.{alarm_sm, deadline_sm, goes_on, rung_in, rung_once}
use Rattle.nova_model.specs.Turn.{whom_of}
use Rattle.nova_model.specs.declared.deed.Deed.TheVariants.{Downs}
use Rattle.nova_model.specs.declared.semaphore.Overflow.{Overflow}
use Rattle.nova_model.specs.declared.times.AlarmState.{AlarmState}
use Rattle.nova_sem.proofs.Changes.{changed_other}
use Rattle.law_forest.specs.Effects.{Falls, Passing, Ticks, alarm_up, alarms_with, passing_rings, passing_semaphore, semaphore_by, semaphores_with, with_status}
use Rattle.law_turns.proofs.Referring.{Asks, deed_asks}
use Rattle.law_response.proofs.Late.{answered_ready, come_due, index_least, ups_ready}

-- THE FIRST THAT WAITS

pub record IsFirst (all : Semaphores) (sm ec : ℕ) : Type 0 where
  pub semaphore : Semaphore
  pub rest : List ℕ
  pub there : semaphore_at all sm ≡ Some semaphore
  pub waiting : semaphore.waiting ≡ ec ∷ rest

pub first_there : (all : Semaphores) (sm ec : ℕ) (rest : List ℕ) → (semaphore all sm).waiting ≡ ec ∷ rest → IsFirst all sm ec
first_there all sm ec rest is = by_entry (semaphore_at all sm) refl is
  where
    by_entry : (o : Option Semaphore) → semaphore_at all sm ≡ o → (semaphore_in o).waiting ≡ ec ∷ rest → IsFirst all sm ec
    by_entry None at h = absurd cc
    by_entry (Some s) at h = record { semaphore = s; rest = rest; there = at; waiting = h }

-- it waits there, and an up wakes it
first_waits : (all : Semaphores) (sm ec : ℕ) → IsFirst all sm ec → waits all sm ec ≡ true
first_waits all sm ec f =
    let one : eqb ec ec ≡ true = grind arith in
    let begins : has (ec ∷ f.rest) ec ≡ true = rw one refl in
    ap (λ (o : Option Semaphore). has (semaphore_in o).waiting ec) f.there ∙ ap (λ (ws : List ℕ). has ws ec) f.waiting ∙ begins

first_woken : (all : Semaphores) (sm ec : ℕ) → IsFirst all sm ec → woken (semaphore all sm) ≡ Ok (Some ec)
first_woken all sm ec f =
    ap (λ (o : Option Semaphore). woken (semaphore_in o)) f.there ∙ ap (λ (ws : List ℕ). woken_of f.semaphore.count ws) f.waiting

-- a change of a semaphore that leaves its first leaves all firsts
abbrev Leaves : (Semaphore → Semaphore) → ℕ → Type 0
Leaves change ec = (s : Semaphore) (rest : List ℕ) → s.waiting ≡ ec ∷ rest → (more : List ℕ) × ((change s).waiting ≡ ec ∷ more)

first_changed : (change : Semaphore → Semaphore) (all : Semaphores) (m sm ec : ℕ) → IsFirst all sm ec → (m ≡ sm → Leaves change ec) → IsFirst (changed change all m) sm ec
first_changed change all m sm ec f leaves = by_test (m == sm) refl
  where
    by_test : (t : Bool) → (m == sm) ≡ t → IsFirst (changed change all m) sm ec
    by_test true is =
        let same : m ≡ sm = eqb-true m sm is in
        let on = leaves same f.semaphore f.rest f.waiting in
        let set : changed change all sm ≡ slice_set all sm (Some (change f.semaphore)) = ap (changed_by change all sm) f.there in
        subst (λ (n : ℕ). IsFirst (changed change all n) sm ec) (sym same)
        (record {
          semaphore = change f.semaphore;
          rest = on.0;
          there = ap (λ (new : Semaphores). semaphore_at new sm) set ∙ entry_itself all sm (change f.semaphore) (rw f.there refl);
          waiting = on.1;
        })
    by_test false is = record {
      semaphore = f.semaphore;
      rest = f.rest;
      there = changed_other change all m sm (λ same. eqb-false m sm is (sym same)) ∙ f.there;
      waiting = f.waiting;
    }

lowered_leaves : (a ec : ℕ) → Leaves (lowered a) ec
lowered_leaves a ec s rest is = by_test (s.count == 0)
  where
    by_test : (t : Bool) → (more : List ℕ) × ((if t then record s { waiting = s.waiting ++ a ∷ [] } else record s { count = s.count - 1 }).waiting ≡ ec ∷ more)
    by_test true = (rest ++ a ∷ [], ap (λ (ws : List ℕ). ws ++ a ∷ []) is)
    by_test false = (rest, is)

left_leaves : (w ec : ℕ) → (ec == w) ≡ false → Leaves (without_one w) ec
left_leaves w ec other s rest is =
    let stays : filter (λ x. not (x == w)) (ec ∷ rest) ≡ ec ∷ filter (λ x. not (x == w)) rest = rw other refl in
    (filter (λ x. not (x == w)) rest, ap (λ (ws : List ℕ). filter (λ x. not (x == w)) ws) is ∙ stays)

-- another's deed leaves it, or wakes it
deed_first : (k : KernelState) (a sm ec : ℕ) (d : Deed) → Asks k a d → IsFirst k.semaphores sm ec →
    IsFirst (semaphores_with k.semaphores (semaphore_by a d)) sm ec ⊎ (d ≡ Ups sm (Some ec))
deed_first k a sm ec (Ups m whom) asks f = by_test (m == sm) refl
  where
    by_test : (t : Bool) → (m == sm) ≡ t → IsFirst (changed raised k.semaphores m) sm ec ⊎ (Ups m whom ≡ Ups sm (Some ec))
    by_test true is =
        let same : m ≡ sm = eqb-true m sm is in
        let both : Ok whom ≡ Ok (Some ec) = sym asks.1 ∙ ap (λ (n : ℕ). woken (semaphore k.semaphores n)) same ∙ first_woken k.semaphores sm ec f in
        let one : whom ≡ Some ec = cc in
        inr (ap₂ (λ (n : ℕ) (w : Option ℕ). Ups n w) same one)
    by_test false is = inl (first_changed raised k.semaphores m sm ec f (λ same. absurd (eqb-false m sm is same)))
deed_first k a sm ec (Downs m) asks f = inl (first_changed (lowered a) k.semaphores m sm ec f (λ same. lowered_leaves a ec))
deed_first k a sm ec (Blocks m until) asks f = inl (first_changed (lowered a) k.semaphores m sm ec f (λ same. lowered_leaves a ec))
deed_first k a sm ec d asks f = inl f

joined_first : (all : Semaphores) (o : Option (Option Semaphore)) (sm ec : ℕ) → IsFirst all sm ec → IsFirst (joined all o) sm ec
joined_first all None sm ec f = f
joined_first all (Some o) sm ec f = record { semaphore = f.semaphore; rest = f.rest; there = entry_kept all o sm f.semaphore f.there; waiting = f.waiting }

-- CALLED

-- the first that waits for an alarm of a processor, which goes on, and whose moment has come
pub record IsCalled (k : KernelState) (ec cpu : ℕ) : Type 0 where
  pub number : ℕ
  pub alarm : AlarmState
  pub at : slice_get k.times.alarms number ≡ Some alarm
  pub its : alarm.alarm.cpu ≡ cpu
  pub more : goes_on alarm ≡ true
  pub come : alarm.next ≤ clock k.times cpu
  pub first : IsFirst k.semaphores alarm.alarm.sm ec

pub called_due : (k : KernelState) (ec cpu : ℕ) → IsCalled k ec cpu → is_due k cpu ≡ true
called_due k ec cpu c =
    come_due k.times cpu (record { moment = c.alarm.next; what = due.Alarm c.number }) ((has_entries k.times cpu).alarms c.number c.alarm c.at c.its c.more) c.come

pub called_blocked : (k : KernelState) (ec cpu : ℕ) → IsKept k → (c : IsCalled k ec cpu) → state_in k.contexts ec ≡ Some (Blocked c.alarm.alarm.sm)
called_blocked k ec cpu kept c = kept.blocked.blocked c.alarm.alarm.sm ec (first_waits k.semaphores c.alarm.alarm.sm ec c.first)

-- an alarm rings, and another stays
pub rung_other : (alarms : List AlarmState) (m n : ℕ) (o : Option AlarmState) (a : AlarmState) → n ≢ m → slice_get alarms n ≡ Some a → slice_get (rung_in alarms m o) n ≡ Some a
rung_other alarms m n None a other at = at
rung_other alarms m n (Some b) a other at = get_other alarms m n (rung_once b) other ∙ at

-- what comes by itself leaves the alarm and its first, or the first goes on
record IsLeft (k : KernelState) (n sm ec : ℕ) (a : AlarmState) (p : Passing) : Type 0 where
  alarm : slice_get (alarms_with k.times.alarms (passing_rings p)) n ≡ Some a
  first : IsFirst (semaphores_with k.semaphores (passing_semaphore k p)) sm ec

passing_left : (k : KernelState) (n ec : ℕ) (a : AlarmState) (p : Passing) → slice_get k.times.alarms n ≡ Some a → IsFirst k.semaphores a.alarm.sm ec →
    IsLeft k n a.alarm.sm ec a p ⊎ ((status : Status) × (passing_ends k p ≡ Some (ec, status)))
passing_left k n ec a (Falls (due.Alarm m)) at f = by_test (alarm_sm (slice_get k.times.alarms m) == a.alarm.sm) refl
  where
    by_test : (t : Bool) → (alarm_sm (slice_get k.times.alarms m) == a.alarm.sm) ≡ t →
        IsLeft k n a.alarm.sm ec a (Falls (due.Alarm m)) ⊎ ((status : Status) × (passing_ends k (Falls (due.Alarm m)) ≡ Some (ec, status)))
    by_test true is =
        let same : alarm_sm (slice_get k.times.alarms m) ≡ a.alarm.sm = eqb-true (alarm_sm (slice_get k.times.alarms m)) a.alarm.sm is in
        let up : alarm_up k m ≡ Ok (Some ec) = ap (λ (s : ℕ). woken (semaphore k.semaphores s)) same ∙ first_woken k.semaphores a.alarm.sm ec f in
        inr (Success, ap (λ (r : Result (Option ℕ) Overflow). with_status Success (whom_of r)) up)
    by_test false is =
        let apart : n ≢ m = λ same. eqb-false (alarm_sm (slice_get k.times.alarms m)) a.alarm.sm is (ap (λ (i : ℕ). alarm_sm (slice_get k.times.alarms i)) (sym same) ∙ ap alarm_sm at) in
        inl (record {
          alarm = rung_other k.times.alarms m n (slice_get k.times.alarms m) a apart at;
          first = first_changed raised k.semaphores (alarm_sm (slice_get k.times.alarms m)) a.alarm.sm ec f (λ same. absurd (eqb-false (alarm_sm (slice_get k.times.alarms m)) a.alarm.sm is same));
        })
passing_left k n ec a (Falls (due.Deadline w)) at f = by_test (ec == w) refl
  where
    by_test : (t : Bool) → (ec == w) ≡ t →
        IsLeft k n a.alarm.sm ec a (Falls (due.Deadline w)) ⊎ ((status : Status) × (passing_ends k (Falls (due.Deadline w)) ≡ Some (ec, status)))
    by_test true is = inr (Timeout, ap (λ (x : ℕ). Some (x, Timeout)) (sym (eqb-true ec w is)))
    by_test false is = inl (record {
      alarm = at;
      first = first_changed (without_one w) k.semaphores (deadline_sm (deadline_of k.times w)) a.alarm.sm ec f (λ same. left_leaves w ec is);
    })
passing_left k n ec a Ticks at f = inl (record { alarm = at; first = f })

called_turned : (k : KernelState) (by ec cpu : ℕ) (t : Turning) (e : Event) → IsTurning k by t e → IsKept k → IsCalled k ec cpu →
    option_map (λ (c : Candidate). c.actor) (next_to_act k by) ≢ Some ec → IsCalled (turned k by t) ec cpu ⊎ ActsItself (turned k by t) ec
called_turned k by ec cpu t e (Acts c chosen is event) kept call never =
    let other : ec ≢ c.actor = λ same. never (ap (option_map (λ (x : Candidate). x.actor)) chosen ∙ ap (λ (n : ℕ). Some n) (sym same)) in
    let x = of_state k.contexts ec (Blocked call.alarm.alarm.sm) (called_blocked k ec cpu kept call) in
    let does = deed k c.actor in
    subst (λ (u : Turning). IsCalled (turned k by u) ec cpu ⊎ ActsItself (turned k by u) ec) (sym is)
    (elim (deed_first k c.actor call.alarm.alarm.sm ec does (deed_asks k c.actor) call.first) [
      | inl first ↦
          inl (record {
            number = call.number;
            alarm = call.alarm;
            at = call.at;
            its = call.its;
            more = call.more;
            come = (let least = index_least k.times.clocks by cpu in let come = call.come in omega arith);
            first = joined_first (semaphores_with k.semaphores (semaphore_by c.actor does)) _ call.alarm.alarm.sm ec first;
          })
      | inr woken ↦
          inr (record {
            state = Ready;
            is = joined_state (length k.objects) (all_edited k.contexts (edits_by k c.actor does)) ec (made_by does) Ready
                (ap (λ (f : Deed). state_in (all_edited k.contexts (edits_by k c.actor f)) ec) woken ∙ ups_ready k c.actor ec call.alarm.alarm.sm x.0 x.1 other);
            acts = refl;
          })
    ])
called_turned k by ec cpu t e (Passes p comes is event) kept call never =
    let x = of_state k.contexts ec (Blocked call.alarm.alarm.sm) (called_blocked k ec cpu kept call) in
    subst (λ (u : Turning). IsCalled (turned k by u) ec cpu ⊎ ActsItself (turned k by u) ec) (sym is)
    (elim (passing_left k call.number ec call.alarm p call.at call.first) [
      | inl left ↦
          inl (record {
            number = call.number;
            alarm = call.alarm;
            at = left.alarm;
            its = call.its;
            more = call.more;
            come = (let least = index_least k.times.clocks by cpu in let come = call.come in omega arith);
            first = left.first;
          })
      | inr ends ↦
          inr (record {
            state = Ready;
            is = ap (λ (o : Option (ℕ × Status)). state_in (all_edited k.contexts (ends_by o)) ec) ends.1
                ∙ answered_ready k.contexts ec x.0 (answered (ec_of k.contexts ec) ends.0 None) x.1 refl;
            acts = refl;
          })
    ])

pub called_after : (k : KernelState) (by ec cpu : ℕ) → IsKept k → IsCalled k ec cpu → option_map (λ (c : Candidate). c.actor) (next_to_act k by) ≢ Some ec →
    IsCalled (after k by) ec cpu ⊎ ActsItself (after k by) ec
called_after k by ec cpu kept call never = elim (comes k by) [
  | Idles none moment same answer ↦ inl (subst (λ (s : KernelState). IsCalled s ec cpu) (sym same) call)
  | Takes t e is state answer ↦ subst (λ (s : KernelState). IsCalled s ec cpu ⊎ ActsItself s ec) (sym state) (called_turned k by ec cpu t e is kept call never)
]
