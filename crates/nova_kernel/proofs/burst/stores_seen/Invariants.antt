use Rattle.std.proofs.Common.{◌≡◌, ◌+◌, ◌<◌, ◌^◌, true, drop}
use Rattle.nova_model.specs.Inputs.{is_covered_for}
use Rattle.law_leases.specs.Paging.{stores_seen}
use Rattle.nova_turn.specs.Parts.{state_of}
use Rattle.nova_kernel.proofs.burst.stores_seen.Given as goal

-- the stores up to now, and those that are left
abbrev pub invariant-loop-page : goal.invariant-loop-page
invariant-loop-page l = record {
  so_far : l.count + stores_seen (is_covered_for (state_of l.parts) l.pd) (drop l.page-index l.pages) ≡ stores_seen (is_covered_for (state_of l.parts) l.pd) l.pages;
  fits : l.count + stores_seen (λ f. true) (drop l.page-index l.pages) < 2 ^ 64;
}
