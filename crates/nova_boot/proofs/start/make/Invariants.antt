use Rattle.std.proofs.Common.{◌≡◌, ◌+◌, ◌^◌, ◌≤◌, length, drop, map}
use Rattle.std.specs.List.{AllByRecursion}
use Rattle.nova_model.specs.Sources.{with_sources}
use Rattle.nova_scenario.specs.Sound.{IsSourceOf}
use Rattle.nova_boot.specs.Boot.{source_of}
use Rattle.nova_boot.proofs.start.make.Given as goal

-- with the sources that are left the kernel is that which is to be made
abbrev pub invariant-loop-source : goal.invariant-loop-source
invariant-loop-source l = record {
  rest : with_sources l.kernel.state (map source_of (drop l.source-index l.sources)) ≡ with_sources l.fn.kernel.state (map source_of l.sources);
  room : l.kernel.room ≡ l.fn.kernel.room;
  turns : l.kernel.state.turns ≡ 0;
  cpus : l.kernel.state.cpus ≡ l.fn.kernel.state.cpus;
  objects : length l.kernel.state.objects + length (drop l.source-index l.sources) ≤ 2 ^ 20;
  numbers : AllByRecursion (IsSourceOf l.kernel.state.cpus) (drop l.source-index l.sources);
}
