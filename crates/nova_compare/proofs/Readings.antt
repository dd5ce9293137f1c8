-- What calls of a kernel tell of its state.
use Rattle.std.proofs.Common.{◌≡◌, ℕ, List, filter, length, map, ap, sym, ◌∙◌, refl}
use Rattle.std.specs.Prelude.{Bool, true, false, Option, Some, None, option_map, slice_index}
use Rattle.std.specs.Bool.{OnTrue}
use Rattle.std.proofs.lemmas.List.{length-map}
use Rattle.nova_model.specs.Semaphores.{semaphore_in}
use Rattle.nova_model.specs.State.{KernelState, Semaphore, context_at, context_in}
use Rattle.nova_model.specs.declared.context.EcState.{EcState}
use Rattle.nova_model.specs.declared.times.Alarm.{Alarm}
use Rattle.nova_model.specs.declared.times.AlarmState.{AlarmState}
use Rattle.nova_model.specs.Delegations.{from_id, is_from}
use Rattle.nova_model.specs.declared.delegation.Derivation.{Derivation}
use Rattle.nova_nodes.proofs.Rising.{Rise, found_none, least_found}
use Rattle.law_sameness.specs.States.{AreZero}

pub count_alarms : (xs : List AlarmState) (ys : List Alarm) (n : ℕ) → ys ≡ map (λ (a : AlarmState). a.alarm) xs → n ≡ length ys → length xs ≡ n
count_alarms xs ys n is count = sym (count ∙ ap length is ∙ length-map xs (λ (a : AlarmState). a.alarm))

zero_at : (k : KernelState) (n : ℕ) (x : EcState) → AreZero k → context_at k n ≡ Some x → slice_index x.regs.x 0 ≡ 0
zero_at k n x zero there = ap (λ (o : Option EcState). slice_index (context_in o).regs.x 0) (sym there) ∙ zero n

pub zeros_at : (a b : KernelState) (n : ℕ) (x y : EcState) → AreZero a → AreZero b → context_at a n ≡ Some x → context_at b n ≡ Some y → slice_index x.regs.x 0 ≡ slice_index y.regs.x 0
zeros_at a b n x y first second there other = zero_at a n x first there ∙ sym (zero_at b n y second other)

pub no_semaphores : (x y : Option Semaphore) → option_map {U = ℕ × ℕ} (λ (s : Semaphore). (s.count, length s.waiting)) x ≡ None → option_map {U = ℕ × ℕ} (λ (s : Semaphore). (s.count, length s.waiting)) y ≡ None → x ≡ y
no_semaphores None None a b = refl
no_semaphores None (Some t) a b = absurd (cc)
no_semaphores (Some s) y a b = absurd (cc)

abbrev first_in : Option (ℕ × ℕ) → ℕ
first_in (Some p) = p.0
first_in None = 0

pub same_semaphores : (x y : Option Semaphore) (c d m n : ℕ) → option_map {U = ℕ × ℕ} (λ (s : Semaphore). (s.count, length s.waiting)) x ≡ Some (c, m) →
    option_map {U = ℕ × ℕ} (λ (s : Semaphore). (s.count, length s.waiting)) y ≡ Some (d, n) → c ≡ d → (semaphore_in x).waiting ≡ (semaphore_in y).waiting → x ≡ y
same_semaphores None y c d m n a b count waiting = absurd (cc)
same_semaphores (Some s) None c d m n a b count waiting = absurd (cc)
same_semaphores (Some s) (Some t) c d m n a b count waiting =
    let first : s.count ≡ c = ap first_in a in
    let second : t.count ≡ d = ap first_in b in
    ap (λ (l : List ℕ). Some (record { count = s.count; waiting = l })) waiting
    ∙ ap (λ (n : ℕ). Some (record { count = n; waiting = t.waiting })) (first ∙ count ∙ sym second)

-- where nothing is left of one list, and nothing of the other either
pub nothing_left : (r : Bool) (xs ys : List Derivation) (id : ℕ) → Rise xs → Rise ys → from_id xs id ≡ None → OnTrue r (from_id ys id ≡ None) →
    (filter (is_from id) xs ≡ filter (is_from id) ys → xs ≡ ys) → OnTrue r (xs ≡ ys)
nothing_left true xs ys id rising rises none other left =
    left (found_none id xs (sym (least_found id xs rising) ∙ none) ∙ sym (found_none id ys (sym (least_found id ys rises) ∙ other)))
nothing_left false xs ys id rising rises none other left = tt
