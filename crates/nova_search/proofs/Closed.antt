-- Where each state that was found is expanded, every order leads to a state that is one with one of them.
use Rattle.std.proofs.Common.{◌≡◌, ℕ, ◌+◌, ◌<◌, ◌≤◌, List, [], ◌∷◌, length, arith, sym, subst}
use Rattle.std.specs.Prelude.{true, Bool, Contains}
use Rattle.nova_model.specs.State.{KernelState}
use Rattle.nova_model.specs.Runs.{after, run}
use Rattle.nova_search.specs.Merged.{HasOne, IsApt, IsOne}
use Rattle.nova_search.specs.Searches.{AreProcessors, AreAll, AreAllWithin, HasNear, IsExpanded, IsUnderWay}
use Rattle.nova_search.specs.declared.merging.Merging.{Merging}

module _ (m : Merging) (goes_on : (s : KernelState) (cpu : ℕ) → IsApt s → IsApt (after s cpu)) where
  led_within : (n limit : ℕ) (states : List KernelState) → ((r : KernelState) → Contains states r → r.turns < limit → IsExpanded m n states r) →
      (r s : KernelState) (order : List ℕ) → AreProcessors n order → r.turns + length order ≤ limit → Contains states r → IsOne m r s → IsApt s → HasOne m states (run s order)
  led_within n limit states h r s [] are few there is apt = record { one = r; there = there; is = is }
  led_within n limit states h r s (cpu ∷ order) are few there is apt =
      let e : HasNear m states (r.turns + 1) (after s cpu) = (h r there (omega (arith, few))).each s apt is cpu are.0 in
      let near = e.few in
      led_within n limit states h e.has.one (after s cpu) order are.1 (omega (arith, few, near)) e.has.there e.has.is (goes_on s cpu apt)

  led : (n : ℕ) (states : List KernelState) → ((r : KernelState) → Contains states r → IsExpanded m n states r) →
      (r s : KernelState) (order : List ℕ) → AreProcessors n order → Contains states r → IsOne m r s → IsApt s → HasOne m states (run s order)
  led n states h r s [] are there is apt = record { one = r; there = there; is = is }
  led n states h r s (cpu ∷ order) are there is apt =
      let e : HasNear m states (r.turns + 1) (after s cpu) = (h r there).each s apt is cpu are.0 in
      led n states h e.has.one (after s cpu) order are.1 e.has.there e.has.is (goes_on s cpu apt)

  module _ (k : KernelState) (limit : ℕ) (states : List KernelState) (place : ℕ) (is_whole : Bool) (way : IsUnderWay m k limit states place is_whole)
      (same : IsOne m k k) (apt : IsApt k) (all : length states ≤ place) where
    expanded : (s : KernelState) → Contains states s → s.turns < limit → IsExpanded m k.cpus states s
    expanded s there few =
        let less : there.0 < place = let is = there.1 in omega (arith, is, all) in
        subst (λ (x : KernelState). IsExpanded m k.cpus states x) there.2
        (way.expanded there.0 s less (subst (λ (x : KernelState). x.turns < limit) (sym there.2) few))

    pub all_within : AreAllWithin m k limit states
    all_within = record { each = λ order are few. led_within k.cpus limit states expanded k k order are few way.opening same apt }

    pub all_led : is_whole ≡ true → AreAll m k states
    all_led whole = record { each = λ order are. led k.cpus states each k k order are way.opening same apt }
      where
        each : (s : KernelState) → Contains states s → IsExpanded m k.cpus states s
        each s there =
            let less : there.0 < place = let is = there.1 in omega (arith, is, all) in
            subst (λ (x : KernelState). IsExpanded m k.cpus states x) there.2 (way.whole whole there.0 s less)
