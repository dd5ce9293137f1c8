-- Revokes that run, along deeds and turns.
use Rattle.std.specs.Prelude.{◌≡◌, ℕ, ◌==◌, Bool, true, false, if◌then◌else◌, List, length, Option, Some, None, Ok, option_and_then}
use Rattle.std.specs.List.{filter_map, range_with_len}
use Rattle.nova_calls.specs.Hypercalls.{call_of}
use Rattle.nova_calls.specs.declared.call.Call.TheVariants.{Revoke}
use Rattle.nova_range.specs.declared.range.Range.{Range}
use Rattle.nova_model.specs.Choice.{Candidate}
use Rattle.nova_model.specs.Deeds.{deed}
use Rattle.nova_model.specs.Revokes.{Revocation, next_leaf}
use Rattle.nova_model.specs.Running.{Running, revoke_by, revoke_of, running_of}
use Rattle.nova_model.specs.State.{KernelState, context, context_at, pd_of}
use Rattle.nova_model.specs.declared.context.EcState.{EcState}
use Rattle.nova_model.specs.declared.context.State.{State}
use Rattle.nova_model.specs.declared.context.State.TheVariants.{Revoking}
use Rattle.nova_model.specs.declared.deed.Deed.{Deed}
use Rattle.nova_model.specs.declared.deed.Deed.TheVariants.{Revokes, Returns}

-- a revoke is under way
abbrev pub is_revoking : State → Bool
is_revoking (Revoking range own) = true
is_revoking other = false

-- no revoke runs, whatever the protection domain
abbrev pub AreCalm : KernelState → Type 0
AreCalm k = (pd ec : ℕ) → option_and_then (λ (x : EcState). revoke_by pd x.state) (context_at k ec) ≡ None

-- the revoke that an execution context runs after a deed of another or of itself: its own begins or returns, and all others stay
abbrev pub revoke_after : KernelState → ℕ → Deed → ℕ → Option Revocation
revoke_after k ec (Revokes range own) e = if e == ec then Some (record { pd = pd_of k ec; range = range; own = own }) else revoke_of k e
revoke_after k ec Returns e = if e == ec then None else revoke_of k e
revoke_after k ec other e = revoke_of k e

-- and after a turn in which this context acts; a turn in which none does leaves all
abbrev pub revoke_in_turn : KernelState → Option Candidate → ℕ → Option Revocation
revoke_in_turn k None e = revoke_of k e
revoke_in_turn k (Some chosen) e = revoke_after k chosen.actor (deed k chosen.actor) e

-- all that run after a deed are of execution contexts that were there before
abbrev pub running_after : KernelState → ℕ → Deed → List Running
running_after k ec d = filter_map (λ e. running_of e (revoke_after k ec d e)) (range_with_len 0 (length k.contexts))

-- it asks for this revoke by a hypercall of its registers, and runs none yet
pub record AsksRevoke (k : KernelState) (ec : ℕ) (range : Range) (own : Bool) : Type 0 where
  pub call : call_of (context k ec).regs ≡ Ok (Revoke range own)
  pub idle : revoke_of k ec ≡ None

-- it runs a revoke that takes nothing more away
pub record HasRevoked (k : KernelState) (ec : ℕ) : Type 0 where
  pub revoke : Revocation
  pub runs : revoke_of k ec ≡ Some revoke
  pub nothing : next_leaf revoke k.delegations ≡ None
