-- A deadline whose moment has come, along any list of turns.
use Rattle.std.proofs.Common.{◌≡◌, ℕ, ◌+◌, ◌<◌, ◌≤◌, List, [], ◌∷◌, ◌++◌, refl, sym, ap, ◌∙◌, subst, inl, inr, arith}
use Rattle.std.specs.Prelude.{◌⊎◌, ◌≢◌, true, false, nat_lt, Contains, Option, Some, None, IfSome}
use Rattle.std.proofs.lemmas.Option.{same_Some}
use Rattle.nova_model.specs.Boot.{Scenario, boot}
use Rattle.nova_model.specs.Choice.{next_to_act}
use Rattle.nova_model.specs.Runs.{after, run}
use Rattle.nova_model.specs.State.{KernelState, deadline_of}
use Rattle.nova_model.specs.Times.{Entry, clock, comes_before, due_on, entries, is_before}
use Rattle.nova_model.specs.declared.times.Deadline.{Deadline}
use Rattle.nova_model.specs.declared.times.Due.{Due}
use Rattle.nova_model.specs.declared.times.Due.TheVariants as due
use Rattle.law_forest.specs.Effects.{Falls}
use Rattle.law_forest.proofs.Turning.{after_keeps, passing_none}
use Rattle.law_turns.specs.Moments.{IsDueOn, IsFirstEntry}
use Rattle.law_turns.proofs.Alarms.{AreOnTime, on_time}
use Rattle.law_turns.proofs.Dues.{due_is}
use Rattle.law_turns.proofs.Links.{place}
use Rattle.law_turns.proofs.Moments.{first_entry}
use Rattle.law_turns.proofs.Passes.{run_append}
use Rattle.nova_gsi.specs.Deadlines.{IsNoLater, entry_of, turns_before}
use Rattle.nova_gsi.proofs.Standing.{Nears, clock_more, due_fewer, least_deadline, not_calm, other_before, turn_nears}

-- WHAT COMES FIRST

abbrev entry_at : ℕ → Due → Entry
entry_at moment what = record { moment = moment; what = what }

alarm_before : (ec n m at : ℕ) → (m < at) ⊎ ((m ≡ at) × (is_before (due.Deadline ec) (due.Alarm n) ≡ false)) →
    comes_before (entry_at m (due.Alarm n)) (entry_at at (due.Deadline ec)) ≡ true
alarm_before ec n m at (inl less) = let one : nat_lt m at ≡ true = grind (arith, less) in rw one refl
alarm_before ec n m at (inr same) = let equal : m ≡ at = same.0 in grind (arith, equal)

pub no_later : (k : KernelState) (ec : ℕ) (d : Deadline) → deadline_of k.times ec ≡ Some d → d.at ≤ clock k.times d.cpu → IsNoLater k.times ec d
no_later k ec d there came = by_due (due_on k.times d.cpu) refl
  where
    first : (what : Due) (h : IsDueOn k.times d.cpu what) → Contains (entries k.times d.cpu) (entry_at h.moment what)
    first what h =
        let its : IsFirstEntry (entries k.times d.cpu) (entry_at h.moment what) =
        subst (λ (o : Option Entry). IfSome o (IsFirstEntry (entries k.times d.cpu))) h.next (first_entry k.times d.cpu) in its.there

    by_place : (w : ℕ) (h : IsDueOn k.times d.cpu (due.Deadline w)) → (ec ≡ w) ⊎ (ec ≢ w) →
        (entry_at h.moment (due.Deadline w) ≡ entry_of ec d) ⊎ (comes_before (entry_at h.moment (due.Deadline w)) (entry_of ec d) ≡ true)
    by_place w h (inl same) =
        let its = h.entry in
        let one : its.deadline ≡ d = same_Some its.deadline d (sym its.there ∙ ap (deadline_of k.times) (sym same) ∙ there) in
        let at : h.moment ≡ d.at = sym its.at ∙ ap (λ (x : Deadline). x.at) one in
        inl (ap (λ (m : ℕ). entry_at m (due.Deadline w)) at ∙ ap (λ (n : ℕ). entry_of n d) (sym same))
    by_place w h (inr other) = inr (other_before w ec h.moment d.at (λ same. other (sym same)) (least_deadline k.times d.cpu ec d (due.Deadline w) h there refl))

    by_what : (what : Due) → due_on k.times d.cpu ≡ Some what → IsDueOn k.times d.cpu what → IsNoLater k.times ec d
    by_what (due.Alarm n) is h = record {
      entry = entry_at h.moment (due.Alarm n);
      there = first (due.Alarm n) h;
      due = is;
      order = inr (alarm_before ec n h.moment d.at (least_deadline k.times d.cpu ec d (due.Alarm n) h there refl));
    }
    by_what (due.Deadline w) is h = record {
      entry = entry_at h.moment (due.Deadline w);
      there = first (due.Deadline w) h;
      due = is;
      order = by_place w h (place ec w);
    }

    by_due : (o : Option Due) → due_on k.times d.cpu ≡ o → IsNoLater k.times ec d
    by_due None is = absurd (not_calm k.times ec d there came is)
    by_due (Some what) is = by_what what is (due_is k.times d.cpu what is)

pub nobody_acts : (k : KernelState) (ec : ℕ) (d : Deadline) → deadline_of k.times ec ≡ Some d → d.at ≤ clock k.times d.cpu → next_to_act k d.cpu ≡ None
nobody_acts k ec d there came = let h = no_later k ec d there came in passing_none k d.cpu (Falls h.entry.what) h.due

-- ALONG TURNS

-- a state that turns reach
record IsReached (s : Scenario) (k : KernelState) : Type 0 where
  before : List ℕ
  is : run (boot s) before ≡ k

reached_next : (s : Scenario) (k : KernelState) (cpu : ℕ) → IsReached s k → IsReached s (after k cpu)
reached_next s k cpu h =
    record { before = h.before ++ cpu ∷ []; is = run_append (boot s) h.before (cpu ∷ []) ∙ ap (λ (l : KernelState). after l cpu) h.is }

times_of : (s : Scenario) (k : KernelState) → IsReached s k → AreOnTime k.times.alarms
times_of s k h = subst (λ (l : KernelState). AreOnTime l.times.alarms) h.is (on_time s h.before)

clock_on : (k : KernelState) (p cpu : ℕ) → clock k.times cpu ≤ clock (after k p).times cpu
clock_on k p cpu =
    after_keeps (λ (l : KernelState). clock k.times cpu ≤ clock l.times cpu) (λ l q t e is h. let more = (clock_more l.times.clocks q cpu).0 in omega (arith, h, more)) k p (omega arith)

nears : (s : Scenario) (k : KernelState) (turns : List ℕ) (ec : ℕ) (d : Deadline) → IsReached s k → d.at ≤ clock k.times d.cpu → deadline_of (run k turns).times ec ≡ Some d →
    Nears k (run k turns) ec d
nears s k [] ec d h came there = record { stood = there; later = omega arith; bound = omega arith }
nears s k (cpu ∷ turns) ec d h came there =
    let on = clock_on k cpu d.cpu in
    let others = nears s (after k cpu) turns ec d (reached_next s k cpu h) (omega (arith, on, came)) there in
    let first = turn_nears k cpu ec d (times_of s k h) came others.stood in
    let now = first.bound in
    let rest = others.bound in
    let more = others.later in
    record { stood = first.stood; later = omega (arith, on, more); bound = omega (arith, now, rest) }

pub in_time : (s : Scenario) (before turns : List ℕ) (ec : ℕ) (d : Deadline) → d.at ≤ clock (run (boot s) before).times d.cpu →
    deadline_of (run (run (boot s) before) turns).times ec ≡ Some d →
    clock (run (run (boot s) before) turns).times d.cpu + turns_before (run (run (boot s) before) turns).times ec d
    ≤ clock (run (boot s) before).times d.cpu + turns_before (run (boot s) before).times ec d
in_time s before turns ec d came there = (nears s (run (boot s) before) turns ec d (record { before = before; is = refl }) came there).bound

-- where none is due before it, it is
only_due : (k : KernelState) (ec : ℕ) (d : Deadline) → AreOnTime k.times.alarms → d.at ≤ clock k.times d.cpu → deadline_of k.times ec ≡ Some d → turns_before k.times ec d ≡ 0 →
    due_on k.times d.cpu ≡ Some (due.Deadline ec)
only_due k ec d times came there none = by_due (due_on k.times d.cpu) refl
  where
    by_place : (what : Due) → due_on k.times d.cpu ≡ Some what → (what ≡ due.Deadline ec) ⊎ (1 ≤ turns_before k.times ec d) → Some what ≡ Some (due.Deadline ec)
    by_place what is (inl itself) = ap Some itself
    by_place what is (inr more) = absurd (omega (arith, more, none))

    by_due : (o : Option Due) → due_on k.times d.cpu ≡ o → o ≡ Some (due.Deadline ec)
    by_due None is = absurd (not_calm k.times ec d there came is)
    by_due (Some what) is = by_place what is (due_fewer k ec d what is times there)

pub comes_last : (s : Scenario) (before turns : List ℕ) (ec : ℕ) (d : Deadline) → d.at ≤ clock (run (boot s) before).times d.cpu →
    deadline_of (run (run (boot s) before) turns).times ec ≡ Some d →
    clock (run (boot s) before).times d.cpu + turns_before (run (boot s) before).times ec d ≤ clock (run (run (boot s) before) turns).times d.cpu →
    due_on (run (run (boot s) before) turns).times d.cpu ≡ Some (due.Deadline ec)
comes_last s before turns ec d came there late =
    let h = nears s (run (boot s) before) turns ec d (record { before = before; is = refl }) came there in
    let bound = h.bound in let later = h.later in
    only_due (run (run (boot s) before) turns) ec d
    (subst (λ (l : KernelState). AreOnTime l.times.alarms) (run_append (boot s) before turns) (on_time s (before ++ turns)))
    (omega (arith, came, later)) there (omega (arith, bound, late))
