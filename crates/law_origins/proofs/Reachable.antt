-- States that turns reach from a boot state.
use Rattle.std.proofs.Common.{ℕ, List, ◌++◌, refl, sym, ap, ◌∙◌, subst}
use Rattle.nova_model.specs.Boot.{Scenario, boot}
use Rattle.nova_model.specs.Runs.{run}
use Rattle.nova_model.specs.State.{KernelState}
use Rattle.law_isolation.specs.Sound.{IsSound}
use Rattle.law_isolation.proofs.Runs.{reached_sound}
use Rattle.law_origins.specs.Reachable.{IsReachable}
use Rattle.law_origins.proofs.Lists.{run_append}

abbrev pub reached : (s : Scenario) (before : List ℕ) → IsReachable (run (boot s) before)
reached s before = record { scenario = s; before = before; is = refl }

pub reached_further : (k : KernelState) (turns : List ℕ) → IsReachable k → IsReachable (run k turns)
reached_further k turns r = record {
  scenario = r.scenario;
  before = r.before ++ turns;
  is = ap (λ (s : KernelState). run s turns) r.is ∙ sym (run_append (boot r.scenario) r.before turns);
}

-- what holds of each state after turns from a boot state holds of each that is reachable
pub of_reachable : (P : KernelState → Type 0) → ((s : Scenario) (before : List ℕ) → P (run (boot s) before)) → (k : KernelState) → IsReachable k → P k
of_reachable P holds k r = subst P (sym r.is) (holds r.scenario r.before)

pub reachable_sound : (k : KernelState) → IsReachable k → IsSound k
reachable_sound = of_reachable IsSound reached_sound
