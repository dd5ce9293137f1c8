-- A revoke from the turn in which it begins to the turn in which it returns.
use Rattle.std.specs.Prelude.{◌≡◌, ◌≢◌, ◌≤◌, ◌+◌, ℕ, List, [], Contains, length, Some, None, Ok}
use Rattle.nova_calls.specs.Hypercalls.{call_of}
use Rattle.nova_calls.specs.declared.call.Call.TheVariants.{Revoke}
use Rattle.nova_calls.specs.declared.numbers.TheConstants.{REVOKE}
use Rattle.nova_range.specs.Statuses.{status_code}
use Rattle.nova_range.specs.declared.status.Status.TheVariants.{Success}
use Rattle.nova_model.specs.Revokes.{Revocation, scope}
use Rattle.nova_model.specs.Running.{revoke_of}
use Rattle.nova_model.specs.Runs.{after, run}
use Rattle.nova_model.specs.State.{KernelState, context, pd_of}
use Rattle.nova_model.specs.declared.delegation.Derivation.{Derivation}
use Rattle.nova_model.specs.declared.event.EventKind.TheVariants.{Answer, Begin}
use Rattle.law_origins.specs.Giving.{Acts}
use Rattle.law_revocation.specs.Along.{HasEvent, acts_in}
use Rattle.law_revocation.specs.Taken.{IsClear}

-- what the revoke takes away and is still there
abbrev pub left : Revocation → KernelState → List Derivation
left r k = scope r k.delegations.list

-- in the turn an execution context comes to run the revoke, and in the turn it runs it no longer
abbrev pub RevokeBegins : KernelState → ℕ → ℕ → Revocation → Type 0
RevokeBegins k cpu ec r = (revoke_of k ec ≢ Some r) × (revoke_of (after k cpu) ec ≡ Some r)

abbrev pub RevokeEnds : KernelState → ℕ → ℕ → Revocation → Type 0
RevokeEnds k cpu ec r = (revoke_of k ec ≡ Some r) × (revoke_of (after k cpu) ec ≢ Some r)

-- the context that runs it is answered in the turn: SUCCESS, to its call of revoke
pub record IsRevokeAnswered (k : KernelState) (cpu ec : ℕ) (r : Revocation) : Type 0 where
  pub runs : revoke_of k ec ≡ Some r
  pub event : HasEvent k cpu ec Answer REVOKE (status_code Success)

-- it acts in the turn, and its registers ask for this revoke, of its domain; nothing is taken away yet; and the event tells it
pub record BeginsAsAsked (k : KernelState) (cpu ec : ℕ) (r : Revocation) : Type 0 where
  pub acts : Acts k cpu ec
  pub asks : call_of (context k ec).regs ≡ Ok (Revoke r.range r.own)
  pub domain : r.pd ≡ pd_of k ec
  pub delegations : (after k cpu).delegations ≡ k.delegations
  pub event : HasEvent k cpu ec Begin REVOKE r.range.base

-- over these turns nothing joins what it takes away, and each turn of the context that runs it takes a derivation of that
pub record HasShrunk (k : KernelState) (turns : List ℕ) (ec : ℕ) (r : Revocation) : Type 0 where
  pub among : (d : Derivation) → Contains (left r (run k turns)) d → Contains (left r k) d
  pub fewer : acts_in k ec turns + length (left r (run k turns)) ≤ length (left r k)

-- it acts in the turn, is answered SUCCESS, and runs no revoke any more; delegations stay, and nothing of what it takes away is there, neither
-- in its scope nor by places and targets
pub record HasReturned (k : KernelState) (cpu ec : ℕ) (r : Revocation) : Type 0 where
  pub acts : Acts k cpu ec
  pub event : HasEvent k cpu ec Answer REVOKE (status_code Success)
  pub over : revoke_of (after k cpu) ec ≡ None
  pub delegations : (after k cpu).delegations ≡ k.delegations
  pub nothing : left r (after k cpu) ≡ []
  pub clear : IsClear r (after k cpu).delegations.list

-- it ran a revoke, and the turn ended that revoke, with nothing left
pub record HasEnded (k : KernelState) (cpu ec : ℕ) : Type 0 where
  pub revoke : Revocation
  pub ends : RevokeEnds k cpu ec revoke
  pub returned : HasReturned k cpu ec revoke
