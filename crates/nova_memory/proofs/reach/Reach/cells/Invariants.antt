use Rattle.std.proofs.Common.{◌≡◌, ◌++◌}
use Rattle.std.specs.Prelude.{drop}
use Rattle.nova_model.specs.Views.{cells_from, cells_of}
use Rattle.nova_memory.proofs.reach.Reach.cells.Given as goal

-- the cells up to now, and those of the frames that are left
abbrev pub invariant-loop-frame : goal.invariant-loop-frame
invariant-loop-frame l = l.cells.items ++ cells_from l.maps l.frame (drop l.frame l.self.memory.ram) ≡ cells_of l.maps l.self.memory.ram
