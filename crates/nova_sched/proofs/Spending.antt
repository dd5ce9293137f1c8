-- Many turns paid at once.
use Rattle.std.proofs.Common.{◌≡◌, ◌<◌, ℕ, zero, suc, ◌-◌, List, [], ◌∷◌, ap, ap₂, sym, ◌∙◌, arith}
use Rattle.std.specs.Prelude.{false, ◌==◌, slice_set, Option, Some, None}
use Rattle.std.proofs.lemmas.List.{set-set}
use Rattle.nova_sched.specs.Queues.{Schedule, charged_schedule, charged_schedules, queued_at}
use Rattle.nova_sched.specs.Lists.{entry_in, paid, used_up}
use Rattle.nova_sched.specs.Precedence.{AreStamped}
use Rattle.nova_sched.specs.declared.queued.Queued.{Queued}
use Rattle.nova_sched.proofs.Changes.{charged_is}
use Rattle.nova_sched.proofs.Stamps.{set_same, stamps_are_given_once}

set_self : (os : List (Option Queued)) (sc : ℕ) (e : Queued) → entry_in os sc ≡ Some e → slice_set os sc (Some e) ≡ os
set_self [] sc e is = absurd cc
set_self (o ∷ os) zero e is = let same : Some e ≡ o = by_entry o is in ap (λ p. p ∷ os) same where
  by_entry : (o : Option Queued) → entry_in (o ∷ os) zero ≡ Some e → Some e ≡ o
  by_entry None is = absurd cc
  by_entry (Some x) is = sym is
set_self (o ∷ os) (suc sc) e is = ap (λ ps. o ∷ ps) (set_self os sc e is)

used_none : (e : Queued) → used_up e 0 ≡ e
used_none e = ap₂ (λ (l t : ℕ). record e { budget = record { left = l; stamp = e.budget.stamp; ticks = t } }) (omega arith) (omega arith)

not_spent : (n left : ℕ) → suc n < left → (left - n - 1 == 0) ≡ false
not_spent n left more = grind arith

paid_more : (e : Queued) (n stamp : ℕ) → suc n < e.budget.left → used_up e (suc n) ≡ paid (used_up e n) stamp
paid_more e n stamp more = rw (not_spent n e.budget.left more) (ap₂ (λ (l t : ℕ). record e { budget = record { left = l; stamp = e.budget.stamp; ticks = t } }) (omega arith) (omega arith))

pub spent_is : (n : ℕ) (s : Schedule) (sc : ℕ) (e : Queued) → queued_at s sc ≡ Some e → n < e.budget.left →
    record s { entries = slice_set s.entries sc (Some (used_up e n)) } ≡ charged_schedules n s sc
spent_is zero s sc e is more =
    ap (λ (os : List (Option Queued)). record s { entries = os }) (ap (λ (x : Queued). slice_set s.entries sc (Some x)) (used_none e) ∙ set_self s.entries sc e is)
spent_is (suc n) s sc e is more =
    let before : Schedule = record s { entries = slice_set s.entries sc (Some (used_up e n)) } in
    let there : queued_at before sc ≡ Some (used_up e n) = set_same s.entries sc e (used_up e n) is in
    ap (λ (os : List (Option Queued)). record s { entries = os }) (sym (set-set s.entries sc (Some (used_up e n)) (Some (used_up e (suc n)))))
    ∙ charged_is before sc (used_up e n) (used_up e (suc n)) false there (paid_more e n s.next_stamp more) (not_spent n e.budget.left more)
    ∙ ap (λ (t : Schedule). charged_schedule t sc) (spent_is n s sc e is (omega (arith, more)))

pub stamped_still : (n : ℕ) (s : Schedule) (sc : ℕ) → AreStamped s → AreStamped (charged_schedules n s sc)
stamped_still zero s sc are = are
stamped_still (suc n) s sc are = stamps_are_given_once.charge (charged_schedules n s sc) sc (stamped_still n s sc are)
