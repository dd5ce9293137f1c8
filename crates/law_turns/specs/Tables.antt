-- Tables go with objects: an entry is there exactly where the object of its number is of that kind, and what objects refer to is there.
use Rattle.std.specs.Prelude.{◌≡◌, ℕ, ◌+◌, Bool, true, false, not, List, [], ◌∷◌, length, map, Option, Some, None, IsSome, is_some, option_map, slice_get}
use Rattle.std.specs.List.{AllByRecursion}
use Rattle.nova_objects.specs.declared.object.Object.{Object}
use Rattle.nova_objects.specs.declared.object.Object.TheVariants.{Pd, Ec, Sc, Pt, Sm}
use Rattle.nova_model.specs.Capabilities.{is_ec, is_local, is_pt, is_sc, is_sm, is_vcpu}
use Rattle.nova_model.specs.Edges.{cpu_in}
use Rattle.nova_model.specs.State.{KernelState, budget_at, context_at, entry, is_thread_kind}
use Rattle.nova_model.specs.declared.context.EcState.{EcState}

-- a thread, which has message words
abbrev pub has_words : Object → Bool
has_words (Ec pd cpu kind event) = is_thread_kind kind
has_words _ = false

-- the object of this number is one of these
abbrev pub IsOf : List Object → (Object → Bool) → ℕ → Type 0
IsOf objects is n = option_map is (slice_get objects n) ≡ Some true

-- an execution context of this number, on a processor, in a protection domain that is there, with what it gives
pub record IsContext (k : KernelState) (n pd cpu : ℕ) : Type 0 where
  pub state : EcState
  pub there : context_at k n ≡ Some state
  pub number : state.id ≡ n
  pub processor : state.cpu ≡ cpu
  pub domain : slice_get k.objects pd ≡ Some Pd
  pub gives : IsSome (entry (slice_get k.transfers n))

-- what goes with the object of this number: with an execution context its state, message words where it is a thread, and a stir count where it is none; with a scheduling
-- context a budget, and an execution context of its processor; with a portal an identifier, and a local thread; with a semaphore its counter
abbrev pub Suits : KernelState → ℕ → Object → Type 0
Suits k n Pd = Unit {0}
Suits k n (Ec pd cpu kind event) =
    IsContext k n pd cpu × ((is_some (entry (slice_get k.messages n)) ≡ is_thread_kind kind)
    × (is_some (entry (slice_get k.stirs.guests n)) ≡ not (is_thread_kind kind)))
Suits k n (Sc ec cpu priority quantum) = IsSome (budget_at k n) × (cpu_in k.contexts ec ≡ Some cpu)
Suits k n (Pt ec mtd ip) = IsSome (entry (slice_get k.identifiers n)) × IsOf k.objects is_local ec
Suits k n Sm = IsSome (entry (slice_get k.semaphores n))

-- number and processor of an execution context, and those of the execution contexts among objects that are numbered from `n` on
abbrev pub tag : Option EcState → Option (ℕ × ℕ)
tag (Some x) = Some (x.id, x.cpu)
tag None = None

abbrev pub tag_of : ℕ → Object → Option (ℕ × ℕ)
tag_of n (Ec pd cpu kind event) = Some (n, cpu)
tag_of n other = None

abbrev pub tags_from : ℕ → List Object → List (Option (ℕ × ℕ))
tags_from n [] = []
tags_from n (o ∷ os) = tag_of n o ∷ tags_from (n + 1) os

-- the processor of an execution context
abbrev pub cpu_of : Option Object → Option ℕ
cpu_of (Some (Ec pd cpu kind event)) = Some cpu
cpu_of other = None

-- what an object refers to, among these
abbrev pub Refers : List Object → Object → Type 0
Refers objects Pd = Unit {0}
Refers objects (Ec pd cpu kind event) = slice_get objects pd ≡ Some Pd
Refers objects (Sc ec cpu priority quantum) = cpu_of (slice_get objects ec) ≡ Some cpu
Refers objects (Pt ec mtd ip) = IsOf objects is_local ec
Refers objects Sm = Unit {0}

-- each table has an entry where the object of its number is of its kind, and objects refer to such as are there; there is room for a deadline of each, and
-- a clock of each processor
pub record HasTables (k : KernelState) : Type 0 where
  pub contexts : map tag k.contexts ≡ tags_from 0 k.objects
  pub messages : map is_some k.messages ≡ map has_words k.objects
  pub transfers : map is_some k.transfers ≡ map is_ec k.objects
  pub budgets : map is_some k.budgets ≡ map is_sc k.objects
  pub identifiers : map is_some k.identifiers ≡ map is_pt k.objects
  pub semaphores : map is_some k.semaphores ≡ map is_sm k.objects
  pub guests : map is_some k.stirs.guests ≡ map is_vcpu k.objects
  pub refer : AllByRecursion (Refers k.objects) k.objects
  pub deadlines : length k.times.deadlines ≡ length k.objects
  pub clocks : length k.times.clocks ≡ k.cpus
