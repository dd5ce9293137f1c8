-- The handler that a call or an exit reaches, in words: each answer, and where it comes.
use Rattle.std.proofs.Common.{◌≡◌, ◌⊎◌, inl, inr, ℕ, ap, refl, arith, IsSome}
use Rattle.std.specs.Prelude.{◌↔◌, Bool, true, false, ◌||◌, not, Option, Some, None, if◌then◌else◌}
use Rattle.std.proofs.lemmas.Bool.{both_ways, or_cases, or_parts}
use Rattle.nova_range.specs.declared.status.Status.TheVariants.{BadCpu, Aborted, Timeout}
use Rattle.nova_model.specs.Calls.{admitted, exit_admitted, is_same_cpu, is_parked}
use Rattle.nova_model.specs.Edges.{circle, cpu_in, is_dead, state_in}
use Rattle.nova_model.specs.State.{Contexts, ec_in}
use Rattle.nova_model.specs.declared.admit.Admit.{Admit}
use Rattle.nova_model.specs.declared.admit.Admit.TheVariants as call
use Rattle.nova_model.specs.declared.admit.ExitAdmit.{ExitAdmit}
use Rattle.nova_model.specs.declared.admit.ExitAdmit.TheVariants as exit
use Rattle.nova_model.specs.declared.context.EcState.{EcState}
use Rattle.nova_model.specs.declared.context.State.{State}
use Rattle.nova_model.specs.declared.context.State.TheVariants.{Dead, Parked}
use Rattle.nova_ec.specs.Handlers.{AreTogether, IsLost, MayReply, IsWaiting}
use Rattle.nova_ec.specs.Entries.{cpu_at}

-- TESTS

abbrev same : Contexts → ℕ → ℕ → Bool
same cs e h = is_same_cpu (cpu_in cs h) (cpu_in cs e)

abbrev lost : Contexts → ℕ → ℕ → Bool
lost cs e h = is_dead (state_in cs h) || circle cs h e

abbrev free : Contexts → ℕ → Bool
free cs h = is_parked (state_in cs h)

-- what they say, the first that holds
abbrev Says : Contexts → ℕ → ℕ → Bool → Bool → Bool → Type 0
Says cs e h false g p = AreTogether cs e h → ⊥
Says cs e h true true p = AreTogether cs e h × IsLost cs e h
Says cs e h true false true = MayReply cs e h × IsWaiting cs h
Says cs e h true false false = MayReply cs e h × (IsWaiting cs h → ⊥)

-- two entries, as their processors compare
same_yes : (o p : Option EcState) → is_same_cpu (cpu_at p) (cpu_at o) ≡ true → IsSome o × (cpu_at p ≡ cpu_at o)
same_yes (Some x) (Some y) h = (refl, ap Some (let s : y.cpu ≡ x.cpu = grind (arith, h) in s))
same_yes None (Some y) h = absurd cc
same_yes o None h = absurd cc

pub same_when : (o p : Option EcState) → IsSome o → cpu_at p ≡ cpu_at o → (is_same_cpu (cpu_at p) (cpu_at o) ≡ true) × IsSome p
same_when None p is equal = absurd cc
same_when (Some x) None is equal = absurd cc
same_when (Some x) (Some y) is equal = let s : y.cpu ≡ x.cpu = cc in (grind (arith, s), refl)

dead_yes : (o : Option State) → is_dead o ≡ true → o ≡ Some Dead
dead_yes None h = absurd cc
dead_yes (Some Dead) h = refl
dead_yes (Some _) h = absurd cc

parked_yes : (o : Option State) → is_parked o ≡ true → o ≡ Some Parked
parked_yes None h = absurd cc
parked_yes (Some Parked) h = refl
parked_yes (Some _) h = absurd cc

tests_say : (cs : Contexts) (e h : ℕ) → Says cs e h (same cs e h) (lost cs e h) (free cs h)
tests_say cs e h = by (same cs e h) (lost cs e h) (free cs h) refl refl refl
  where
    together : same cs e h ≡ true → AreTogether cs e h
    together is = let both = same_yes (ec_in cs e) (ec_in cs h) is in record { there = both.0; one_processor = both.1 }

    gone : lost cs e h ≡ true → IsLost cs e h
    gone is = elim (or_cases (is_dead (state_in cs h)) (circle cs h e) is) [ inl dead ↦ inl (dead_yes (state_in cs h) dead) | inr met ↦ inr met ]

    may : same cs e h ≡ true → lost cs e h ≡ false → MayReply cs e h
    may is none =
        let neither = or_parts (is_dead (state_in cs h)) (circle cs h e) none in
        record { together = together is; alive = λ dead. both_ways (is_dead (state_in cs h)) neither.0 (ap is_dead dead); no_circle = neither.1 }

    by : (s g p : Bool) → same cs e h ≡ s → lost cs e h ≡ g → free cs h ≡ p → Says cs e h s g p
    by false g p a b c = λ t. both_ways (same cs e h) a (same_when (ec_in cs e) (ec_in cs h) t.there t.one_processor).0
    by true true p a b c = (together a, gone b)
    by true false true a b c = (may a b, parked_yes (state_in cs h) c)
    by true false false a b c = (may a b, λ waits. both_ways (free cs h) c (ap is_parked waits))

never_lost : (cs : Contexts) (e h : ℕ) → MayReply cs e h → IsLost cs e h → ⊥
never_lost cs e h may (inl dead) = may.alive dead
never_lost cs e h may (inr met) = both_ways (circle cs h e) may.no_circle met

-- CALLS

-- the answers in their order, by the tests and the flag
abbrev call_order : Bool → Bool → Bool → Bool → Admit
call_order s g p f =
    if not s then call.Refused BadCpu else if g then call.Refused Aborted else if p then call.Send else if f then call.Refused Timeout else call.Help

pub call_bad_cpu : (cs : Contexts) (e h : ℕ) (flag : Bool) → (admitted cs e h flag ≡ call.Refused BadCpu) ↔ (AreTogether cs e h → ⊥)
call_bad_cpu cs e h flag = by (same cs e h) (lost cs e h) (free cs h) flag (tests_say cs e h) where
  by : (s g p f : Bool) → Says cs e h s g p → (call_order s g p f ≡ call.Refused BadCpu) ↔ (AreTogether cs e h → ⊥)
  by false g p f never = (λ is. never, λ apart. refl)
  by true true p f it = (λ is. absurd (cc), λ apart. absurd (apart it.0))
  by true false true f it = (λ is. absurd (cc), λ apart. absurd (apart it.0.together))
  by true false false true it = (λ is. absurd (cc), λ apart. absurd (apart it.0.together))
  by true false false false it = (λ is. absurd (cc), λ apart. absurd (apart it.0.together))

pub call_aborted : (cs : Contexts) (e h : ℕ) (flag : Bool) → (admitted cs e h flag ≡ call.Refused Aborted) ↔ (AreTogether cs e h × IsLost cs e h)
call_aborted cs e h flag = by (same cs e h) (lost cs e h) (free cs h) flag (tests_say cs e h) where
  by : (s g p f : Bool) → Says cs e h s g p → (call_order s g p f ≡ call.Refused Aborted) ↔ (AreTogether cs e h × IsLost cs e h)
  by false g p f never = (λ is. absurd (cc), λ both. absurd (never both.0))
  by true true p f it = (λ is. it, λ both. refl)
  by true false true f it = (λ is. absurd (cc), λ both. absurd (never_lost cs e h it.0 both.1))
  by true false false true it = (λ is. absurd (cc), λ both. absurd (never_lost cs e h it.0 both.1))
  by true false false false it = (λ is. absurd (cc), λ both. absurd (never_lost cs e h it.0 both.1))

pub call_sent : (cs : Contexts) (e h : ℕ) (flag : Bool) → (admitted cs e h flag ≡ call.Send) ↔ (MayReply cs e h × IsWaiting cs h)
call_sent cs e h flag = by (same cs e h) (lost cs e h) (free cs h) flag (tests_say cs e h) where
  by : (s g p f : Bool) → Says cs e h s g p → (call_order s g p f ≡ call.Send) ↔ (MayReply cs e h × IsWaiting cs h)
  by false g p f never = (λ is. absurd (cc), λ both. absurd (never both.0.together))
  by true true p f it = (λ is. absurd (cc), λ both. absurd (never_lost cs e h both.0 it.1))
  by true false true f it = (λ is. it, λ both. refl)
  by true false false true it = (λ is. absurd (cc), λ both. absurd (it.1 both.1))
  by true false false false it = (λ is. absurd (cc), λ both. absurd (it.1 both.1))

pub call_timeout : (cs : Contexts) (e h : ℕ) (flag : Bool) →
    (admitted cs e h flag ≡ call.Refused Timeout) ↔ (MayReply cs e h × (IsWaiting cs h → ⊥) × (flag ≡ true))
call_timeout cs e h flag = by (same cs e h) (lost cs e h) (free cs h) flag (tests_say cs e h) where
  by : (s g p f : Bool) → Says cs e h s g p → (call_order s g p f ≡ call.Refused Timeout) ↔ (MayReply cs e h × (IsWaiting cs h → ⊥) × (f ≡ true))
  by false g p f never = (λ is. absurd (cc), λ all. absurd (never all.0.together))
  by true true p f it = (λ is. absurd (cc), λ all. absurd (never_lost cs e h all.0 it.1))
  by true false true f it = (λ is. absurd (cc), λ all. absurd (all.1 it.1))
  by true false false true it = (λ is. (it.0, it.1, refl), λ all. refl)
  by true false false false it = (λ is. absurd (cc), λ all. absurd (let off : false ≡ true = all.2 in cc))

pub call_helped : (cs : Contexts) (e h : ℕ) (flag : Bool) →
    (admitted cs e h flag ≡ call.Help) ↔ (MayReply cs e h × (IsWaiting cs h → ⊥) × (flag ≡ false))
call_helped cs e h flag = by (same cs e h) (lost cs e h) (free cs h) flag (tests_say cs e h) where
  by : (s g p f : Bool) → Says cs e h s g p → (call_order s g p f ≡ call.Help) ↔ (MayReply cs e h × (IsWaiting cs h → ⊥) × (f ≡ false))
  by false g p f never = (λ is. absurd (cc), λ all. absurd (never all.0.together))
  by true true p f it = (λ is. absurd (cc), λ all. absurd (never_lost cs e h all.0 it.1))
  by true false true f it = (λ is. absurd (cc), λ all. absurd (all.1 it.1))
  by true false false true it = (λ is. absurd (cc), λ all. absurd (let off : true ≡ false = all.2 in cc))
  by true false false false it = (λ is. (it.0, it.1, refl), λ all. refl)

-- EXITS

-- the answers in their order, by the tests
abbrev exit_order : Bool → Bool → Bool → ExitAdmit
exit_order s g p = if not s then exit.Dies else if g then exit.Dies else if p then exit.Sends else exit.Waits

pub exit_dies : (cs : Contexts) (e h : ℕ) → (exit_admitted cs e h ≡ exit.Dies) ↔ ((AreTogether cs e h → ⊥) ⊎ IsLost cs e h)
exit_dies cs e h = by (same cs e h) (lost cs e h) (free cs h) (tests_say cs e h) where
  neither : MayReply cs e h → (AreTogether cs e h → ⊥) ⊎ IsLost cs e h → ⊥
  neither may (inl apart) = apart may.together
  neither may (inr gone) = never_lost cs e h may gone

  by : (s g p : Bool) → Says cs e h s g p → (exit_order s g p ≡ exit.Dies) ↔ ((AreTogether cs e h → ⊥) ⊎ IsLost cs e h)
  by false g p never = (λ is. inl never, λ why. refl)
  by true true p it = (λ is. inr it.1, λ why. refl)
  by true false true it = (λ is. absurd (cc), λ why. absurd (neither it.0 why))
  by true false false it = (λ is. absurd (cc), λ why. absurd (neither it.0 why))

pub exit_sent : (cs : Contexts) (e h : ℕ) → (exit_admitted cs e h ≡ exit.Sends) ↔ (MayReply cs e h × IsWaiting cs h)
exit_sent cs e h = by (same cs e h) (lost cs e h) (free cs h) (tests_say cs e h) where
  by : (s g p : Bool) → Says cs e h s g p → (exit_order s g p ≡ exit.Sends) ↔ (MayReply cs e h × IsWaiting cs h)
  by false g p never = (λ is. absurd (cc), λ both. absurd (never both.0.together))
  by true true p it = (λ is. absurd (cc), λ both. absurd (never_lost cs e h both.0 it.1))
  by true false true it = (λ is. it, λ both. refl)
  by true false false it = (λ is. absurd (cc), λ both. absurd (it.1 both.1))

pub exit_waits : (cs : Contexts) (e h : ℕ) → (exit_admitted cs e h ≡ exit.Waits) ↔ (MayReply cs e h × (IsWaiting cs h → ⊥))
exit_waits cs e h = by (same cs e h) (lost cs e h) (free cs h) (tests_say cs e h) where
  by : (s g p : Bool) → Says cs e h s g p → (exit_order s g p ≡ exit.Waits) ↔ (MayReply cs e h × (IsWaiting cs h → ⊥))
  by false g p never = (λ is. absurd (cc), λ both. absurd (never both.0.together))
  by true true p it = (λ is. absurd (cc), λ both. absurd (never_lost cs e h both.0 it.1))
  by true false true it = (λ is. absurd (cc), λ both. absurd (both.1 it.1))
  by true false false it = (λ is. it, λ both. refl)
