-- A kernel that a sound scenario begins with.
use Rattle.std.proofs.Common.{◌≡◌, ℕ, ap, arith}
use Rattle.std.proofs.lemmas.List.{length-map}
use Rattle.nova_boot.specs.Boot.{scenario_of, source_of}
use Rattle.nova_kernel.specs.Views.{KernelView}
use Rattle.nova_model.specs.Boot.{boot}
use Rattle.nova_scenario.specs.Sound.{IsSound}
use Rattle.nova_scenario.specs.declared.scenario.Scenario.{Scenario}
use Rattle.nova_twin.specs.Sides.{IsBeginning}

pub begins_so : (s : Scenario) (room : ℕ) (k : KernelView) → IsSound s → k ≡ record { state = boot (scenario_of s); room = room } → IsBeginning k.state
begins_so s room k sound is = record {
  scenario = scenario_of s;
  ram = sound.ram;
  consoles = sound.consoles;
  few = let same = length-map s.sources source_of in let few = sound.few in omega (arith, same, few);
  is = ap (λ (l : KernelView). l.state) is;
}
