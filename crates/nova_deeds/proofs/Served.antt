-- A context that is called, served or woken is there, so that message words have an entry for it; and a context that acts waits at no semaphore.
use Rattle.std.proofs.Common.{◌≡◌, ℕ, zero, suc, ◌<◌, List, [], ◌∷◌, length, arith, IsSome, refl, ap, sym, ◌∙◌}
use Rattle.std.specs.Prelude.{Bool, true, false, not, ◌||◌, ◌==◌, eqb, if◌then◌else◌, Option, Some, None, Result, option_and_then, option_map}
use Rattle.std.specs.declared.result.Result.TheVariants.{Ok, Err}
use Rattle.nova_range.specs.declared.status.Status.TheVariants.{Aborted, BadCpu, Timeout}
use Rattle.nova_model.specs.Calls.{admitted, is_parked, is_same_cpu}
use Rattle.nova_model.specs.Edges.{AreCallers, acts, acts_as, caller_in, circle, cpu_in, is_dead, state_in}
use Rattle.nova_model.specs.Semaphores.{Semaphores, greatest, has, semaphore, waits, woken, woken_of}
use Rattle.nova_model.specs.State.{Contexts, KernelState, context_at, ec_in, with_ec}
use Rattle.nova_model.specs.declared.admit.Admit.TheVariants.{Help, Refused, Send}
use Rattle.nova_model.specs.declared.context.EcState.{EcState}
use Rattle.nova_model.specs.declared.context.Mark.{Mark}
use Rattle.nova_model.specs.declared.context.State.{State}
use Rattle.nova_model.specs.declared.context.State.TheVariants.{Blocked}
use Rattle.nova_model.specs.declared.semaphore.Overflow.{Overflow}
use Rattle.nova_ec.proofs.Tables.{there_below}
use Rattle.law_turns.specs.Waiting.{AreBlocked}
use Rattle.nova_sem.specs.Sound.{IsFree}
use Rattle.nova_deeds.specs.Counted.{AreTables}
use Rattle.nova_choice.proofs.Waits.{there_at, there_by_cpu}

-- ON ONE PROCESSOR

-- the processor of a handler that is called
same_by : (a b : Option ℕ) → is_same_cpu a b ≡ true → a ≡ b
same_by (Some a) (Some b) same = ap Some (let h : a ≡ b = grind (arith, same) in h)
same_by None b same = absurd cc
same_by (Some a) None same = absurd cc

pub admitted_near : (cs : Contexts) (caller handler : ℕ) → admitted cs caller handler false ≡ Send → cpu_in cs handler ≡ cpu_in cs caller
admitted_near cs caller handler is = same_by (cpu_in cs handler) (cpu_in cs caller) (by_test (is_same_cpu (cpu_in cs handler) (cpu_in cs caller)) is)
  where
    by_test : (t : Bool) →
        (if not t then Refused BadCpu
        else if is_dead (state_in cs handler) || circle cs handler caller then Refused Aborted
        else if is_parked (state_in cs handler) then Send
        else if false then Refused Timeout
        else Help) ≡ Send → t ≡ true
    by_test true h = refl
    by_test false h = absurd cc

-- SERVED

-- a context with a caller
pub serves_there : (cs : Contexts) (e c : ℕ) (mark : Mark) → caller_in cs e ≡ Some (c, mark) → IsSome (ec_in cs e)
serves_there cs e c mark is = by_place (ec_in cs e) is
  where
    by_place : (o : Option EcState) → option_and_then (λ (x : EcState). x.caller) o ≡ Some (c, mark) → IsSome o
    by_place None h = absurd cc
    by_place (Some x) h = refl

pub near_there : (cs : Contexts) (e c : ℕ) → IsSome (ec_in cs e) → cpu_in cs c ≡ cpu_in cs e → IsSome (ec_in cs c)
near_there cs e c there near = by_place (ec_in cs e) there near
  where
    by_place : (o : Option EcState) → IsSome o → cpu_in cs c ≡ option_map (λ (x : EcState). x.cpu) o → IsSome (ec_in cs c)
    by_place None some h = absurd cc
    by_place (Some x) some h = there_by_cpu cs c x.cpu h

-- and its caller
pub served_there : (cs : Contexts) (e c : ℕ) (mark : Mark) → AreCallers cs → caller_in cs e ≡ Some (c, mark) → IsSome (ec_in cs c)
served_there cs e c mark sound is = near_there cs e c (serves_there cs e c mark is) (sound e c mark is)

-- entries stay
pub still_there : (cs : Contexts) (e n : ℕ) (x : EcState) → IsSome (ec_in cs n) → IsSome (ec_in (with_ec cs e x) n)
still_there [] e n x h = h
still_there (y ∷ cs) zero zero x h = refl
still_there (y ∷ cs) zero (suc n) x h = h
still_there (y ∷ cs) (suc e) zero x h = h
still_there (y ∷ cs) (suc e) (suc n) x h = still_there cs e n x h

pub message_below : (k : KernelState) (e : ℕ) → AreTables k → IsSome (context_at k e) → e < length k.messages
message_below k e tables there =
    let below = there_below k.contexts e _ (there_at k.contexts e there) in
    let contexts = tables.contexts in
    let messages = tables.messages in
    omega (arith, below, contexts, messages)

-- AT SEMAPHORES

-- the first that waits
woken_has : (count w : ℕ) (waiting : List ℕ) → woken_of count waiting ≡ Ok (Some w) → has waiting w ≡ true
woken_has count w [] is = absurd (by_test (count == greatest) is)
  where
    by_test : (t : Bool) → if◌then◌else◌ {A = Result (Option ℕ) Overflow} t (Err (record {})) (Ok None) ≡ Ok (Some w) → ⊥
    by_test true h = cc
    by_test false h = cc
woken_has count w (e ∷ es) is =
    let same : e ≡ w = cc in
    let first : eqb w e ≡ true = grind (arith, same) in
    ap (λ (t : Bool). t || has es w) first

pub state_there : (cs : Contexts) (e : ℕ) (s : State) → state_in cs e ≡ Some s → IsSome (ec_in cs e)
state_there cs e s is = by_place (ec_in cs e) is
  where
    by_place : (o : Option EcState) → option_map (λ (x : EcState). x.state) o ≡ Some s → IsSome o
    by_place None h = absurd cc
    by_place (Some x) h = refl

pub woken_there : (cs : Contexts) (all : Semaphores) (sm w : ℕ) → AreBlocked cs all → woken (semaphore all sm) ≡ Ok (Some w) → IsSome (ec_in cs w)
woken_there cs all sm w blocked is = state_there cs w (Blocked sm) (blocked.blocked sm w (woken_has (semaphore all sm).count w (semaphore all sm).waiting is))

-- a context that waits doesn't act
pub acts_free : (cs : Contexts) (all : Semaphores) (ec : ℕ) → AreBlocked cs all → acts cs ec ≡ true → IsFree all ec
acts_free cs all ec blocked awake sm = by_test (waits all sm ec) refl
  where
    by_test : (t : Bool) → waits all sm ec ≡ t → waits all sm ec ≡ false
    by_test false is = is
    by_test true is = absurd (let idle : false ≡ true = sym (ap (acts_as cs) (blocked.blocked sm ec is)) ∙ awake in cc)
