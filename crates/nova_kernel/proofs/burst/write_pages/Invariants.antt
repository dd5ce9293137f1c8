use Rattle.std.proofs.Common.{◌≡◌, length, drop}
use Rattle.law_leases.specs.Paging.{AreFrames, pages_written, stored_to}
use Rattle.nova_kernel.proofs.burst.write_pages.Given as goal

-- what is written already, and then the rest, is what is to be written
abbrev pub invariant-loop-page : goal.invariant-loop-page
invariant-loop-page l = record {
  written : record l.reach { memory = record l.reach.memory { ram = pages_written (stored_to (drop l.page-index l.pages)) l.reach.memory.ram } }
      ≡ record l.fn.reach { memory = record l.fn.reach.memory { ram = pages_written (stored_to l.pages) l.fn.reach.memory.ram } };
  long : length l.reach.memory.ram ≡ length l.fn.reach.memory.ram;
  left : AreFrames l.fn.reach.memory.ram (drop l.page-index l.pages);
}
