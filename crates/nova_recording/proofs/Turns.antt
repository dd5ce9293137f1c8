-- Turns of a run, one after another.
use Rattle.std.proofs.Common.{◌≡◌, ℕ, zero, suc, ◌+◌, ◌^◌, ◌<◌, ◌≤◌, List, [], ◌∷◌, length, slice_index_or, refl, ap, sym, subst, ◌∙◌, arith}
use Rattle.std.specs.Prelude.{Some, slice_get}
use Rattle.std.specs.List.{AllByRecursion}
use Rattle.nova_model.specs.State.{KernelState}
use Rattle.nova_model.specs.Runs.{after}
use Rattle.nova_model.specs.declared.event.Event.{Event}
use Rattle.nova_model.specs.declared.event.Turn.{Turn}
use Rattle.nova_model.specs.declared.event.Turn.TheVariants.{Stepped, Idle}
use Rattle.nova_kernel.specs.Views.{turns_taken}
use Rattle.nova_recording.specs.Recordings.{AreTurns, IsAt, at_turn, order_of}

-- the state after one turn more
next_turn : (k : KernelState) (events : List Event) (n : ℕ) (e : Event) → slice_get events n ≡ Some e →
    at_turn k events (suc n) ≡ after (at_turn k events n) e.cpu
next_turn k [] n e there = absurd (cc)
next_turn k (x ∷ xs) zero e there = ap (λ (c : ℕ). after k c) (let same : x.cpu ≡ e.cpu = cc in same)
next_turn k (x ∷ xs) (suc n) e there = next_turn (after k x.cpu) xs n e there

pub one_more : (k : KernelState) (events : List Event) (n : ℕ) (e : Event) → slice_get events n ≡ Some e →
    at_turn k events (n + 1) ≡ after (at_turn k events n) e.cpu
one_more k events n e there = ap (at_turn k events) (let more : n + 1 ≡ suc n = omega arith in more) ∙ next_turn k events n e there

-- the turns of an order are of its processors
all_there : (n : ℕ) (events : List Event) → AllByRecursion (λ (cpu : ℕ). cpu < n) (order_of events) → AllByRecursion (λ (e : Event). e.cpu < n) events
all_there n [] all = tt
all_there n (e ∷ events) all = (all.0, all_there n events all.1)

as_many : (events : List Event) → length (order_of events) ≡ length events
as_many [] = refl
as_many (e ∷ events) = ap suc (as_many events)

pub are_turns : (k : KernelState) (events : List Event) (order : List ℕ) → order_of events ≡ order → AllByRecursion (λ (cpu : ℕ). cpu < k.cpus) order →
    k.turns + length order ≤ 2 ^ 31 → AreTurns k events
are_turns k events order same all few = record {
  cpus = all_there k.cpus events (subst (λ (cpus : List ℕ). AllByRecursion (λ (cpu : ℕ). cpu < k.cpus) cpus) (sym same) all);
  few = subst (λ (n : ℕ). k.turns + n ≤ 2 ^ 31) (ap length (sym same) ∙ as_many events) few;
}

-- before the first of them
pub at_start : (k s : KernelState) (events : List Event) → s ≡ k → IsAt k events 0 s
at_start k s events same = record {
  within = omega arith;
  state = same;
  counted = subst (λ (t : KernelState). t.turns ≤ k.turns + 0) (sym same) (omega arith);
  cpus = ap (λ (t : KernelState). t.cpus) same;
}

-- after one more
pub is_next : (k s t : KernelState) (events : List Event) (n : ℕ) (e : Event) (told : Turn) → IsAt k events n s → slice_get events n ≡ Some e →
    n < length events → t ≡ after s e.cpu → t.turns ≡ s.turns + turns_taken told → t.cpus ≡ s.cpus → IsAt k events (n + 1) t
is_next k s t events n e told at there more went counted cpus = record {
  within = omega (arith, more);
  state = went ∙ ap (λ (x : KernelState). after x e.cpu) at.state ∙ sym (one_more k events n e there);
  counted = one_turn k s t n told counted at.counted;
  cpus = cpus ∙ at.cpus;
}
  where
    one_turn : (k s t : KernelState) (n : ℕ) (told : Turn) → t.turns ≡ s.turns + turns_taken told → s.turns ≤ k.turns + n → t.turns ≤ k.turns + (n + 1)
    one_turn k s t n (Stepped event) counted fewer = grind (arith, counted, fewer)
    one_turn k s t n Idle counted fewer = grind (arith, counted, fewer)

-- the processor that takes it is there
pub is_there : (n : ℕ) (events : List Event) (i : ℕ) (e : Event) → AllByRecursion (λ (x : Event). x.cpu < n) events → slice_get events i ≡ Some e → e.cpu < n
is_there n [] i e all there = absurd (cc)
is_there n (x ∷ events) zero e all there = subst (λ (y : Event). y.cpu < n) (let same : x ≡ e = cc in same) all.0
is_there n (x ∷ events) (suc i) e all there = is_there n events i e all.1 there

-- what stands at a place, as code reads it
pub is_entry : (events : List Event) (n : ℕ) (e : Event) → n < length events → e ≡ slice_index_or events n e → slice_get events n ≡ Some e
is_entry [] n e less is = absurd (omega (arith, less))
is_entry (x ∷ events) zero e less is = ap (λ (y : Event). Some y) (sym is)
is_entry (x ∷ events) (suc n) e less is = is_entry events n e (omega (arith, less)) is
