-- What is decided of a side among others, in one state: whether the premises of noninterference on divided processors hold.
use Rattle.std.specs.Prelude.{◌≡◌, ◌≤◌, ℕ, ◌&&◌, Bool, true, false, not, find, length, option_map, Option, Some, None}
use Rattle.std.specs.Option.{option_or}
use Rattle.std.specs.List.{enumerate_from}
use Rattle.nova_objects.specs.declared.object.Object.{Object}
use Rattle.nova_objects.specs.declared.object.Object.TheVariants.{Ec}
use Rattle.nova_model.specs.State.{KernelState, context_at, deadline_of}
use Rattle.nova_model.specs.Times.{until_due}
use Rattle.nova_model.specs.declared.context.EcState.{EcState}
use Rattle.nova_model.specs.declared.context.State.TheVariants.{Blocked}
use Rattle.law_integrity.specs.Confined.{AreSetsApart, Of}
use Rattle.law_flow.specs.Flow.{IsGuarded, IsPartitioned, IsSide}
use Rattle.law_flow.specs.Processors.{IsDivided}
use Rattle.law_sides.specs.Resting.{is_nothing}
use Rattle.nova_flowing.specs.Tests.{blocked_at, is_in, is_of_neither}
use Rattle.nova_flowing.specs.Leaks.{leak_in}
use Rattle.nova_flowing.specs.declared.leak.Leak.{Leak}
use Rattle.nova_flowing.specs.declared.leak.Premise.{Premise}
use Rattle.nova_flowing.specs.declared.leak.Premise.TheVariants.{Apart, Side, Guarded, Divided}
use Rattle.nova_flowing.specs.declared.deciding.Verdict.{Verdict}
use Rattle.nova_flowing.specs.declared.deciding.Verdict.TheVariants.{Own, Waits, Fails}
use Rattle.nova_flowing.specs.declared.division.Division.{Division}

-- the sets of a division, as tests
abbrev pub own_of : Division → ℕ → Bool
own_of v n = is_in v.own.items n

abbrev pub others_of : Division → ℕ → Bool
others_of v n = is_in v.others.items n

abbrev pub part_of : Division → ℕ → Bool
part_of v n = is_in v.part.items n

abbrev pub home_of : Division → ℕ → Bool
home_of v cpu = is_in v.home.items cpu

-- it is of the objects that are there
pub record IsOf (k : KernelState) (v : Division) : Type 0 where
  pub own : length v.own.items ≤ length k.objects
  pub others : length v.others.items ≤ length k.objects
  pub part : length v.part.items ≤ length k.objects

-- the premises, as the law asks for them
abbrev pub Holds : KernelState → Division → Premise → Type 0
Holds k v Apart = AreSetsApart k (Of (own_of v)) (Of (others_of v))
Holds k v Side = IsSide k (Of (own_of v)) (Of (part_of v))
Holds k v Guarded = IsGuarded k (Of (own_of v)) (Of (others_of v)) (Of (part_of v))
Holds k v Divided = IsDivided k (Of (own_of v)) (Of (others_of v)) (Of (part_of v)) (Of (home_of v))

-- all of them
pub record AreMet (k : KernelState) (v : Division) : Type 0 where
  pub partitioned : IsPartitioned k (Of (own_of v)) (Of (others_of v)) (Of (part_of v))
  pub divided : IsDivided k (Of (own_of v)) (Of (others_of v)) (Of (part_of v)) (Of (home_of v))

-- which doesn't hold, by its first leak; of all the first
abbrev pub failing : Premise → Leak → Verdict
failing p l = Fails p l

abbrev pub fails_by : KernelState → (ℕ → Bool) → (ℕ → Bool) → (ℕ → Bool) → (ℕ → Bool) → Premise → Option Verdict
fails_by k S T P C p = option_map (failing p) (leak_in k S T P C p)

abbrev pub first_failing_by : KernelState → (ℕ → Bool) → (ℕ → Bool) → (ℕ → Bool) → (ℕ → Bool) → Option Verdict
first_failing_by k S T P C = option_or (fails_by k S T P C Apart) (option_or (fails_by k S T P C Side) (option_or (fails_by k S T P C Guarded) (fails_by k S T P C Divided)))

-- an execution context of neither is blocked, and something is to come on its processor: perhaps a deadline of its, which nobody reads
abbrev pub is_blocked : Option ℕ → Bool
is_blocked (Some sm) = true
is_blocked None = false

abbrev pub waits_by : KernelState → (ℕ → Bool) → (ℕ → Bool) → ℕ → Option EcState → Bool
waits_by k S T n (Some x) = is_of_neither k S T n && (is_blocked (blocked_at x.state) && not (is_nothing (until_due k.times x.cpu)))
waits_by k S T n None = false

abbrev pub is_waiting_by : KernelState → (ℕ → Bool) → (ℕ → Bool) → ℕ × Object → Bool
is_waiting_by k S T (n, Ec pd cpu kind event) = waits_by k S T n (context_at k n)
is_waiting_by k S T (n, other) = false

abbrev pub first_waiting_by : KernelState → (ℕ → Bool) → (ℕ → Bool) → Option ℕ
first_waiting_by k S T = option_map (λ (e : ℕ × Object). e.0) (find (is_waiting_by k S T) (enumerate_from 0 k.objects))

abbrev pub unless_waiting : Option ℕ → Verdict
unless_waiting (Some ec) = Waits ec
unless_waiting None = Own

abbrev pub unless_failing : Option Verdict → Verdict → Verdict
unless_failing (Some verdict) other = verdict
unless_failing None other = other

-- the first premise that doesn't hold, else the first who waits
abbrev pub verdict_by : KernelState → (ℕ → Bool) → (ℕ → Bool) → (ℕ → Bool) → (ℕ → Bool) → Verdict
verdict_by k S T P C = unless_failing (first_failing_by k S T P C) (unless_waiting (first_waiting_by k S T))

-- the same of a division
abbrev pub leak_of_premise : KernelState → Division → Premise → Option Leak
leak_of_premise k v p = leak_in k (own_of v) (others_of v) (part_of v) (home_of v) p

abbrev pub fails : KernelState → Division → Premise → Option Verdict
fails k v p = fails_by k (own_of v) (others_of v) (part_of v) (home_of v) p

abbrev pub first_failing : KernelState → Division → Option Verdict
first_failing k v = first_failing_by k (own_of v) (others_of v) (part_of v) (home_of v)

abbrev pub waits_in : KernelState → Division → ℕ → Option EcState → Bool
waits_in k v n o = waits_by k (own_of v) (others_of v) n o

abbrev pub is_waiting : KernelState → Division → ℕ × Object → Bool
is_waiting k v e = is_waiting_by k (own_of v) (others_of v) e

abbrev pub first_waiting : KernelState → Division → Option ℕ
first_waiting k v = first_waiting_by k (own_of v) (others_of v)

abbrev pub verdict_of : KernelState → Division → Verdict
verdict_of k v = verdict_by k (own_of v) (others_of v) (part_of v) (home_of v)

-- such a one
pub record IsWaiting (k : KernelState) (v : Division) (n : ℕ) : Type 0 where
  pub neither : is_of_neither k (own_of v) (others_of v) n ≡ true
  pub context : EcState
  pub there : context_at k n ≡ Some context
  pub sm : ℕ
  pub blocked : context.state ≡ Blocked sm
  pub comes : is_nothing (until_due k.times context.cpu) ≡ false

-- the first leak of a premise, which doesn't hold
pub record IsFailing (k : KernelState) (v : Division) (p : Premise) (l : Leak) : Type 0 where
  pub first : leak_of_premise k v p ≡ Some l
  pub fails : Holds k v p → ⊥

-- all hold, but that a deadline may end the wait of one of neither: they do where none of neither has a deadline
pub record AreMetBut (k : KernelState) (v : Division) (ec : ℕ) : Type 0 where
  pub waits : IsWaiting k v ec
  pub apart : ((n : ℕ) → is_of_neither k (own_of v) (others_of v) n ≡ true → deadline_of k.times n ≡ None) → Holds k v Apart
  pub side : Holds k v Side
  pub guarded : Holds k v Guarded
  pub divided : Holds k v Divided

-- THE ANSWER: all hold; all do but for one who waits; or this one doesn't
abbrev pub IsDecided : KernelState → Division → Verdict → Type 0
IsDecided k v Own = AreMet k v
IsDecided k v (Waits ec) = AreMetBut k v ec
IsDecided k v (Fails p l) = IsFailing k v p l
