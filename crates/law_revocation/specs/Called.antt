-- A revoke from its call on: what runs, and what returns, is what registers asked for.
use Rattle.std.specs.Prelude.{◌≡◌, ℕ, List, ◌∷◌, ◌++◌}
use Rattle.nova_model.specs.Revokes.{Revocation}
use Rattle.nova_model.specs.Runs.{after, run}
use Rattle.nova_model.specs.State.{KernelState}
use Rattle.law_revocation.specs.Along.{Runs}
use Rattle.law_revocation.specs.Whole.{RevokeBegins, RevokeEnds, HasReturned, BeginsAsAsked}

-- one of these turns began the revoke: the execution context acted in it, and its registers asked for just this revoke, which it did not run before;
-- and it has run this revoke ever since, in each state from that turn to the last
pub record WasCalled (k : KernelState) (turns : List ℕ) (ec : ℕ) (r : Revocation) : Type 0 where
  pub before : List ℕ
  pub first : ℕ
  pub between : List ℕ
  pub whole : turns ≡ before ++ first ∷ between
  pub begins : RevokeBegins (run k before) first ec r
  pub call : BeginsAsAsked (run k before) first ec r
  pub runs : Runs (after (run k before) first) ec r between

-- the turn of the processor after these turns ends a revoke of the execution context, which it called in one of them, and nothing is left of it
pub record HasEndedAsCalled (k : KernelState) (turns : List ℕ) (cpu ec : ℕ) : Type 0 where
  pub revoke : Revocation
  pub called : WasCalled k turns ec revoke
  pub ends : RevokeEnds (run k turns) cpu ec revoke
  pub returned : HasReturned (run k turns) cpu ec revoke
