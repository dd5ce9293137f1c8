-- The contexts that may create, in one state. A scheduling context comes of a call of `create_sc`, for which the caller's protection domain holds a
-- protection domain with the right to create; so where none holds that right, scheduling contexts, their processors and priorities stay as they are.
use Rattle.std.specs.Prelude.{◌≡◌, ◌≢◌, ◌<◌, ◌⊎◌, ℕ, slice_get, Some}
use Rattle.nova_objects.specs.declared.object.Object.TheVariants.{Sc}
use Rattle.nova_model.specs.Edges.{state_in}
use Rattle.nova_model.specs.State.{KernelState, pd_of}
use Rattle.nova_model.specs.declared.context.State.{State}
use Rattle.nova_model.specs.declared.context.State.TheVariants.{Dead}
use Rattle.law_forest.specs.Made.{MayCreate}

-- the execution context of this number, if there is one, is dead, or its protection domain holds no right to create
abbrev pub CreatesNothing : KernelState → ℕ → Type 0
CreatesNothing k n = (s : State) → state_in k.contexts n ≡ Some s → s ≢ Dead → MayCreate k (pd_of k n) → ⊥

-- so each execution context
abbrev pub NobodyCreates : KernelState → Type 0
NobodyCreates k = (n : ℕ) → CreatesNothing k n

-- so each but `ec`
abbrev pub NobodyElseCreates : KernelState → ℕ → Type 0
NobodyElseCreates k ec = (n : ℕ) → n ≢ ec → CreatesNothing k n

-- each other scheduling context of the processor has a lesser priority, or is of a dead execution context
abbrev pub OutranksOthers : KernelState → ℕ → ℕ → ℕ → Type 0
OutranksOthers k cpu sc priority = (n ec p quantum : ℕ) → slice_get k.objects n ≡ Some (Sc ec cpu p quantum) → n ≢ sc → (p < priority) ⊎ (state_in k.contexts ec ≡ Some Dead)
