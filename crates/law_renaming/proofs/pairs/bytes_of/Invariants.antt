use Rattle.std.proofs.Common.{◌≡◌, ◌==◌, drop}
use Rattle.std.specs.List.{find}
use Rattle.law_renaming.proofs.pairs.bytes_of.Given as goal

abbrev pub invariant-loop-cell : goal.invariant-loop-cell
invariant-loop-cell l = find (λ c. c.frame == l.frame) (drop l.cell-index l.cells) ≡ find (λ c. c.frame == l.frame) l.cells
