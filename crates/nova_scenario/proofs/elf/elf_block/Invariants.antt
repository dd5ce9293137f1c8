use Rattle.std.proofs.Common.{◌≡◌, [], length}
use Rattle.std.specs.List.{after_first, find}
use Rattle.nova_scenario.specs.Items.{is_end}
use Rattle.nova_scenario.proofs.ElfLemmas.{elf_left}
use Rattle.nova_scenario.proofs.elf.elf_block.Given as goal

abbrev pub invariant-loop-line : goal.invariant-loop-line
invariant-loop-line l = record {
  bytes : elf_left l.bytes.items l.lines ≡ elf_left [] l.fn.lines;
  end : find is_end l.lines ≡ find is_end l.fn.lines;
  after : after_first is_end l.lines ≡ after_first is_end l.fn.lines;
}

abbrev pub decreases-loop-line : goal.decreases-loop-line
decreases-loop-line l = length l.lines
