use Rattle.std.proofs.Common.{◌≡◌, length}
use Rattle.std.specs.List.{before_first, after_first, find}
use Rattle.std.specs.Option.{option_or}
use Rattle.nova_scenario.specs.Items.{is_end}
use Rattle.nova_scenario.specs.Words.{forbidden_in}
use Rattle.nova_scenario.proofs.asm.extent_of.Given as goal

abbrev pub invariant-loop-line : goal.invariant-loop-line
invariant-loop-line l = record {
  forbidden : option_or l.forbidden (forbidden_in (before_first is_end l.lines)) ≡ forbidden_in (before_first is_end l.fn.lines);
  end : find is_end l.lines ≡ find is_end l.fn.lines;
  after : after_first is_end l.lines ≡ after_first is_end l.fn.lines;
}

abbrev pub decreases-loop-line : goal.decreases-loop-line
decreases-loop-line l = length l.lines
