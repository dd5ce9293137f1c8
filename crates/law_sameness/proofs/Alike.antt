-- Two states of which all that is read is the same, and whose scheduling contexts that compete are in the same order, are alike.
use Rattle.std.proofs.Common.{◌≡◌, ℕ, zero, suc, ◌<◌, ◌≤◌, List, [], ◌∷◌, length, map, ap, ap₂, sym, ◌∙◌, refl, arith}
use Rattle.std.specs.Prelude.{Bool, true, false, nat_lt, slice_get, Option, Some, None, option_map}
use Rattle.nova_model.specs.State.{KernelState, deadline_of, entry}
use Rattle.nova_model.specs.Times.{Times}
use Rattle.nova_model.specs.declared.budget.Budget.{Budget}
use Rattle.nova_model.specs.declared.times.AlarmState.{AlarmState}
use Rattle.nova_model.specs.declared.times.Deadline.{Deadline}
use Rattle.law_turns.specs.Keeping.{IsKept}
use Rattle.law_turns.specs.Budgets as budgets
use Rattle.law_alike.specs.Alike.{AreTimesAlike, IsAlarmAlike, IsAlike, IsDeadlineAlike, uncounted}
use Rattle.law_sameness.specs.Counts.{counts_of, stamp_in}
use Rattle.law_sameness.specs.States.{AreInStep, AreMomentsAlike, AreReadAlike, count_in, stamp_at}
use Rattle.law_sameness.proofs.Same.{AreTablesSame, all_parts, table_length, tables_same}

-- STAMPS

stamp_same : (o : Option Budget) → budgets.stamp_in o ≡ count_in (stamp_in o)
stamp_same None = refl
stamp_same (Some b) = refl

stamps_same : (bs : List (Option Budget)) (n : ℕ) → budgets.stamp_in (entry (slice_get bs n)) ≡ stamp_at (map stamp_in bs) n
stamps_same [] n = refl
stamps_same (b ∷ bs) zero = stamp_same b
stamps_same (b ∷ bs) (suc n) = stamps_same bs n

-- TURNS THAT ARE LEFT

lefts_same : (xs ys : List (Option Budget)) → length xs ≡ length ys →
    ((n : ℕ) → n < length xs → option_map (λ (b : Budget). b.left) (entry (slice_get xs n)) ≡ option_map (λ (b : Budget). b.left) (entry (slice_get ys n))) →
    map (option_map (λ (b : Budget). b.left)) xs ≡ map (option_map (λ (b : Budget). b.left)) ys
lefts_same [] [] long each = refl
lefts_same [] (y ∷ ys) long each = absurd (omega (arith, long))
lefts_same (x ∷ xs) [] long each = absurd (omega (arith, long))
lefts_same (x ∷ xs) (y ∷ ys) long each =
    ap₂ (λ (h : Option ℕ) (t : List (Option ℕ)). h ∷ t) (each 0 (omega arith)) (lefts_same xs ys (omega (arith, long)) (λ n less. each (suc n) (omega (arith, less))))

-- MOMENTS

none_past : {T : Type 0} (xs : List T) (n : ℕ) → length xs ≤ n → slice_get xs n ≡ None
none_past [] n past = refl
none_past (x ∷ xs) zero past = absurd (omega (arith, past))
none_past (x ∷ xs) (suc n) past = none_past xs n (omega (arith, past))

deadlines_none : (t u : Times) (o p : Option Deadline) → o ≡ None → p ≡ None → IsDeadlineAlike t u o p
deadlines_none t u None None first second = tt
deadlines_none t u None (Some e) first second = absurd (cc)
deadlines_none t u (Some d) p first second = absurd (cc)

alarms_none : (t u : Times) (o p : Option AlarmState) → o ≡ None → p ≡ None → IsAlarmAlike t u o p
alarms_none t u None None first second = tt
alarms_none t u None (Some b) first second = absurd (cc)
alarms_none t u (Some a) p first second = absurd (cc)

times_alike : (n : ℕ) (t u : Times) → length t.deadlines ≡ n → length u.deadlines ≡ n → AreMomentsAlike n t u → AreTimesAlike t u
times_alike n t u first second m = record {
  deadlines = λ ec. deadline_alike ec (nat_lt ec n) refl;
  alarms = λ i. alarm_alike i (nat_lt i (length t.alarms)) refl;
}
  where
    deadline_alike : (ec : ℕ) (test : Bool) → nat_lt ec n ≡ test → IsDeadlineAlike t u (deadline_of t ec) (deadline_of u ec)
    deadline_alike ec true is = m.deadlines ec (grind (arith, is))
    deadline_alike ec false is =
        deadlines_none t u _ _ (ap entry (none_past t.deadlines ec (grind (arith, is, first)))) (ap entry (none_past u.deadlines ec (grind (arith, is, second))))

    alarm_alike : (i : ℕ) (test : Bool) → nat_lt i (length t.alarms) ≡ test → IsAlarmAlike t u (slice_get t.alarms i) (slice_get u.alarms i)
    alarm_alike i true is = m.alarms i (grind (arith, is))
    alarm_alike i false is = let count = m.count in
        alarms_none t u _ _ (none_past t.alarms i (grind (arith, is))) (none_past u.alarms i (grind (arith, is, count)))

-- THE REST

rest_same : (a b : KernelState) → AreReadAlike a b → AreTablesSame a b → a.delegations.next ≡ b.delegations.next → uncounted a ≡ uncounted b
rest_same a b read t id =
    all_parts (uncounted a) (uncounted b) read.derivations id read.objects t.contexts t.messages t.transfers refl t.identifiers t.semaphores read.ram read.log refl refl
    read.cpus read.consoles refl refl refl refl refl

pub alike_state : (a b : KernelState) → IsKept a → IsKept b → AreReadAlike a b → AreInStep a.objects (counts_of a) (counts_of b) →
    AreMomentsAlike (length a.objects) a.times b.times → IsAlike a b
alike_state a b v w read step moments = record {
  rest = rest_same a b read (tables_same a b v w read) step.id;
  left =
      let la = table_length a.budgets _ a.objects v.tables.budgets in let lb = table_length b.budgets _ b.objects w.tables.budgets in
      lefts_same a.budgets b.budgets (la ∙ long ∙ sym lb) (λ n less. (read.each n (omega (arith, less, la))).left);
  order = λ m n peers.
      ap₂ nat_lt (stamps_same a.budgets m) (stamps_same a.budgets n) ∙ step.order m n peers
      ∙ sym (ap₂ nat_lt (stamps_same b.budgets m) (stamps_same b.budgets n));
  times = times_alike (length a.objects) a.times b.times v.tables.deadlines (w.tables.deadlines ∙ sym long) moments;
}
  where
    long : length a.objects ≡ length b.objects
    long = ap length read.objects
