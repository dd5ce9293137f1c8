-- A handler and the context that calls it or raises an exit to it, in words: where a message is taken, and what becomes of both.
use Rattle.std.specs.Prelude.{ℕ, ◌≡◌, ◌≢◌, ◌⊎◌, Bool, true, false, if◌then◌else◌, Some, None, IsSome}
use Rattle.rv_model.specs.Registers.{reg}
use Rattle.nova_model.specs.State.{Contexts, ec_in}
use Rattle.nova_model.specs.Edges.{state_in, cpu_in, circle}
use Rattle.nova_model.specs.declared.context.EcState.{EcState}
use Rattle.nova_model.specs.declared.context.Mark.{Mark}
use Rattle.nova_model.specs.declared.context.State.TheVariants.{Granting, Ready, Parked, Dead}

-- a caller, or a context that raised an exit, and a handler that are there, on one processor
pub record AreTogether (cs : Contexts) (caller handler : ℕ) : Type 0 where
  pub there : IsSome (ec_in cs caller)
  pub one_processor : cpu_in cs handler ≡ cpu_in cs caller

-- no reply can come: the handler is dead, or following edges from it meets the caller
abbrev pub IsLost : Contexts → ℕ → ℕ → Type 0
IsLost cs caller handler = (state_in cs handler ≡ Some Dead) ⊎ (circle cs handler caller ≡ true)

-- a reply may come
pub record MayReply (cs : Contexts) (caller handler : ℕ) : Type 0 where
  pub together : AreTogether cs caller handler
  pub alive : state_in cs handler ≢ Some Dead
  pub no_circle : circle cs handler caller ≡ false

-- the handler takes a message
abbrev pub IsWaiting : Contexts → ℕ → Type 0
IsWaiting cs handler = state_in cs handler ≡ Some Parked

-- what stays of an execution context whatever it calls, raises, serves or replies to
pub record IsSame (x y : EcState) : Type 0 where
  pub id : y.id ≡ x.id
  pub cpu : y.cpu ≡ x.cpu
  pub recall : y.recall ≡ x.recall

-- a handler that begins a call or an exit
pub record Begins (x y : EcState) (caller : ℕ) (mark : Mark) (ip identifier : ℕ) (items : Bool) : Type 0 where
  pub same : IsSame x y
  pub served : y.caller ≡ Some (caller, mark)
  pub state : y.state ≡ (if items then Granting None else Ready)
  pub pc : y.regs.pc ≡ ip
  pub named : reg y.regs 10 ≡ identifier
  pub registers : (i : ℕ) → i ≢ 10 → reg y.regs i ≡ reg x.regs i
