-- Turns of a kernel, in which a virtual CPU is followed.
use Rattle.std.specs.Prelude.{◌≡◌, ◌≤◌, ℕ, ◌+◌, Bool, true, false, List, length}
use Rattle.nova_kernel.specs.Views.{KernelView}
use Rattle.nova_model.specs.Runs.{IsFreeOfIdle, run}
use Rattle.nova_model.specs.State.{KernelState}
use Rattle.nova_following.specs.Follows.{Followed, followed}

-- turns of a kernel, in which a virtual CPU was followed
pub record HasFollowed (g : ℕ) (k : KernelView) (f : Followed) (turns : List ℕ) (l : KernelView) (h : Followed) : Type 0 where
  pub state : l.state ≡ run k.state turns
  pub room : k.room ≤ l.room + length turns
  pub count : l.state.turns ≤ k.state.turns + length turns
  pub cpus : l.state.cpus ≡ k.state.cpus
  pub trail : h ≡ followed g k.state turns f

-- turns of an order were taken: all, with none idle, and what comes of them; or those before an idle one
abbrev pub IsBlockTaken : KernelState → List ℕ → Type 0 → Bool → Type 0
IsBlockTaken k list Comes true = Comes × IsFreeOfIdle k list
IsBlockTaken k list Comes false = IsFreeOfIdle k list → ⊥
