-- How often an alarm is still to ring by a moment.
use Rattle.std.proofs.Common.{◌≡◌, ℕ, zero, suc, ◌<◌, ◌≤◌, ◌+◌, ◌*◌, ◌-◌, length, refl, sym, subst, arith}
use Rattle.std.specs.Prelude.{Bool, true, false, nat_le, filter}
use Rattle.std.specs.List.{range_with_len}
use Rattle.nova_model.specs.declared.times.Alarm.{Alarm}
use Rattle.nova_model.specs.declared.times.AlarmState.{AlarmState}
use Rattle.nova_gsi.specs.Deadlines.{rings_left}
use Rattle.nova_gsi.specs.Firings.{moment}

-- how many of the moments with numbers from `first` on, `n` in all, have come
abbrev come_from : Alarm → ℕ → ℕ → ℕ → ℕ
come_from a at first n = length (filter (λ j. nat_le (moment a j) at) (range_with_len first n))

next_moment : (a : Alarm) (j : ℕ) → moment a j ≤ moment a (j + 1)
next_moment a j = let more : (j + 1) * a.period ≡ j * a.period + a.period = grind arith in omega (arith, more)

none_comes : (a : Alarm) (at first n : ℕ) → at < moment a first → come_from a at first n ≡ 0
none_comes a at first zero later = refl
none_comes a at first (suc n) later =
    let test : nat_le (moment a first) at ≡ false = grind arith in
    let next = next_moment a first in
    rw test (none_comes a at (first + 1) n (omega (arith, later, next)))

-- where the first has come: `more` of the others have
come_on : (a : Alarm) (at first more : ℕ) → moment a first ≤ at → (1 ≤ more → moment a (first + 1 + (more - 1)) ≤ at) → moment a (first + (suc more - 1)) ≤ at
come_on a at first zero now later = let same : first + (suc zero - 1) ≡ first = omega arith in subst (λ (j : ℕ). moment a j ≤ at) (sym same) now
come_on a at first (suc t) now later =
    let same : first + 1 + (suc t - 1) ≡ first + (suc (suc t) - 1) = omega arith in subst (λ (j : ℕ). moment a j ≤ at) same (later (omega arith))

last_comes : (a : Alarm) (at first n : ℕ) → 1 ≤ come_from a at first n → moment a (first + (come_from a at first n - 1)) ≤ at
last_comes a at first zero some = absurd (omega arith)
last_comes a at first (suc n) some = by_test (nat_le (moment a first) at) refl (last_comes a at (first + 1) n)
  where
    more : ℕ
    more = come_from a at (first + 1) n

    by_test : (t : Bool) → nat_le (moment a first) at ≡ t → (1 ≤ more → moment a (first + 1 + (more - 1)) ≤ at) → moment a (first + (come_from a at first (suc n) - 1)) ≤ at
    by_test true is later =
        let count : come_from a at first (suc n) ≡ suc more = rw is refl in
        let now : moment a first ≤ at = grind arith in
        subst (λ (c : ℕ). moment a (first + (c - 1)) ≤ at) (sym count) (come_on a at first more now later)
    by_test false is later =
        let after : at < moment a first = grind arith in
        let none = none_comes a at first (suc n) after in
        absurd (omega (arith, none, some))

pub rings_come : (a : AlarmState) (at : ℕ) → 1 ≤ rings_left at a → moment a.alarm (a.rings + (rings_left at a - 1)) ≤ at
rings_come a at some = last_comes a.alarm at a.rings (a.alarm.count - a.rings) some

pub no_rings : (a : AlarmState) (at : ℕ) → at < moment a.alarm a.rings → rings_left at a ≡ 0
no_rings a at later = none_comes a.alarm at a.rings (a.alarm.count - a.rings) later
