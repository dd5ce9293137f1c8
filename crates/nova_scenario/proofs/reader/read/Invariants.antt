use Rattle.std.proofs.Common.{◌≡◌, true, length}
use Rattle.nova_scenario.specs.Read.{read_rest, takes_rest}
use Rattle.nova_scenario.specs.Scenario.{scenario, takes_memory}
use Rattle.nova_scenario.proofs.reader.read.Given as goal

abbrev pub invariant-loop-line : goal.invariant-loop-line
invariant-loop-line l = record {
  read : read_rest l.bytes l.draft l.lines ≡ scenario l.bytes;
  takes : takes_rest l.draft l.lines ≡ true → takes_memory l.bytes ≡ true;
}

abbrev pub decreases-loop-line : goal.decreases-loop-line
decreases-loop-line l = length l.lines
