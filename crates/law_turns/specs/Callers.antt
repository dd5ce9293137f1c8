-- Callers: the context that a handler serves, and that which waits for its reply.
use Rattle.std.specs.Prelude.{ℕ, ◌≡◌, ◌≢◌, Some, None}
use Rattle.nova_model.specs.Edges.{caller_in, cpu_in, state_in}
use Rattle.nova_model.specs.State.{Contexts}
use Rattle.nova_model.specs.declared.context.Mark.{Mark}
use Rattle.nova_model.specs.declared.context.State.TheVariants.{Calling}

-- a handler keeps one caller, which came by a call or by an exit and is there on its processor; the caller waits for its reply, and no other does
pub record HasOneCaller (cs : Contexts) (h : ℕ) : Type 0 where
  pub caller : ℕ
  pub mark : Mark
  pub keeps : caller_in cs h ≡ Some (caller, mark)
  pub processor : cpu_in cs caller ≡ cpu_in cs h
  pub waits : state_in cs caller ≡ Some (Calling h)
  pub only : (other : ℕ) → state_in cs other ≡ Some (Calling h) → other ≡ caller

-- it keeps none, and none waits for its reply
pub record HasNoCaller (cs : Contexts) (h : ℕ) : Type 0 where
  pub keeps : caller_in cs h ≡ None
  pub nobody : (other : ℕ) → state_in cs other ≢ Some (Calling h)
