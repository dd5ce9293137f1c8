-- Callers and the contexts that serve them, entry by entry of a table of execution contexts.
use Rattle.std.specs.Prelude.{ℕ, ◌≡◌, Bool, true, false, Option, Some, None, IsSome}
use Rattle.nova_model.specs.Calls.{is_parked}
use Rattle.nova_model.specs.Edges.{is_dead, is_free}
use Rattle.nova_model.specs.State.{Contexts, KernelState, context, ec_in}
use Rattle.nova_model.specs.declared.context.EcState.{EcState}
use Rattle.nova_model.specs.declared.context.Mark.{Mark}
use Rattle.nova_model.specs.declared.context.Mark.TheVariants.{Call}
use Rattle.nova_model.specs.declared.context.State.{State}
use Rattle.nova_model.specs.declared.context.State.TheVariants.{Calling, Granting, Replying}
pub use Rattle.nova_ec.specs.Entries.{caller_at, cpu_at, state_at}

-- `caller` is the caller of `ec`, and came by `mark`
abbrev pub IsCallerOf : KernelState → ℕ → ℕ → Mark → Type 0
IsCallerOf k ec caller mark = (context k ec).caller ≡ Some (caller, mark)

-- a handler that takes the items of a call, or gives those of its reply
abbrev pub handles_items : Option State → Bool
handles_items (Some (Granting None)) = true
handles_items (Some Replying) = true
handles_items other = false

-- a context and another: a context that waits for a reply of the other is kept as its caller, the caller that a handler keeps waits for it while it
-- lives, and both are on one processor
pub record IsLinked (c : ℕ) (x : Option EcState) (h : ℕ) (y : Option EcState) : Type 0 where
  pub known : state_at x ≡ Some (Calling h) → (mark : Mark) × (caller_at y ≡ Some (c, mark))
  pub waits : (mark : Mark) → caller_at y ≡ Some (c, mark) → is_dead (state_at y) ≡ false → state_at x ≡ Some (Calling h)
  pub cpu : (mark : Mark) → caller_at y ≡ Some (c, mark) → cpu_at x ≡ cpu_at y

-- of each by itself: only a local thread is parked, and then without a caller; a local thread that is at work has one; a caller is kept by a local
-- thread alone; a context that takes or gives items has a caller, and a context that takes them was called
pub record IsWell (is_local : Bool) (y : Option EcState) : Type 0 where
  pub parked : is_parked (state_at y) ≡ true → (caller_at y ≡ None) × (is_local ≡ true)
  pub serving : is_local ≡ true → IsSome y → is_free (state_at y) ≡ false → IsSome (caller_at y)
  pub kept : (c : ℕ) (mark : Mark) → caller_at y ≡ Some (c, mark) → is_local ≡ true
  pub giving : handles_items (state_at y) ≡ true → IsSome (caller_at y)
  pub taking : (c : ℕ) (mark : Mark) → caller_at y ≡ Some (c, mark) → state_at y ≡ Some (Granting None) → mark ≡ Call

-- so each with each, where these numbers are of local threads
pub record AreServed (is_local : ℕ → Bool) (cs : Contexts) : Type 0 where
  pub linked : (c h : ℕ) → IsLinked c (ec_in cs c) h (ec_in cs h)
  pub well : (h : ℕ) → IsWell (is_local h) (ec_in cs h)
