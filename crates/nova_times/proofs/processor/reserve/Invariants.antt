use Rattle.std.proofs.Common.{◌≡◌}
use Rattle.nova_times.specs.Processors.{AreWider, HavePlaces, clocks_of}
use Rattle.nova_times.proofs.processor.reserve.Given as goal

abbrev pub invariant-loop-cpu : goal.invariant-loop-cpu
invariant-loop-cpu l = record {
  clocks : clocks_of l.processors.items ≡ clocks_of l.fn.processors.items;
  wider : AreWider l.fn.processors.items l.processors.items;
  room : HavePlaces l.alarms l.deadlines l.cpu l.processors.items;
}
