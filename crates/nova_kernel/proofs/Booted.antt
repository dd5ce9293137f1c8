-- No revoke runs when a machine boots.
use Rattle.std.proofs.Common.{◌≡◌, ℕ, ◌≤◌, [], ap, sym, ◌∙◌}
use Rattle.nova_model.specs.Boot.{bare}
use Rattle.nova_model.specs.Running.{running}
use Rattle.nova_model.specs.State.{KernelState}
use Rattle.nova_model.specs.declared.root.Root.{Root}
use Rattle.nova_turn.specs.Runners.{RevokesState}
use Rattle.nova_turn.specs.Revoking.{AreRunning}

pub bare_runs : (cpus ram consoles : ℕ) (root : Root) (k : KernelState) (r : RevokesState) → k ≡ bare cpus ram consoles root → (r.list ≡ []) × (3 ≤ r.places) → AreRunning k r
bare_runs cpus ram consoles root k r is (none, places) = record {
  list = none ∙ sym (ap running is);
  places = rw is places;
}
