use Rattle.std.proofs.Common.{rules, ◌≡◌, ◌++◌, ◌<◌, ◌+◌, [], ◌∷◌, length, ap, ◌∙◌}
use Rattle.std.specs.Prelude.{true, false, drop, slice_get, Some}
use Rattle.nova_guest.specs.Maps.{is_covered}
use Rattle.nova_model.specs.Views.{cells_from, cells_of}
use Rattle.nova_memory.proofs.Views.{one_cell, no_cell}
use Rattle.nova_memory.proofs.reach.Reach.cells.Goals as goal
use Rattle.nova_memory.proofs.reach.Reach.cells.Goals.{then-is_covered+in_ok-from_slice+in_ok-push, else-is_covered}

pub loop-frame-preserved : goal.loop-frame-preserved
loop-frame-preserved c =
    let maps = c.args.maps.now in
    let ram = c.args.self.now.memory.ram in
    elim c.if-is_covered.branch [
      | then-is_covered+in_ok-from_slice+in_ok-push w ↦
          let bytes : slice_get ram c.loop-frame.frame ≡ Some w.frame.result.now = search rules in
          let covered : is_covered maps c.loop-frame.frame ≡ true = search rules in
          let pushed : c.if-is_covered.cells.items ≡ c.loop-frame.cells.items ++ record { frame = c.loop-frame.frame; contents = w.frame.result.now } ∷ [] = search rules in
          ap (λ cells. cells ++ cells_from maps (c.loop-frame.frame + 1) (drop (c.loop-frame.frame + 1) ram)) pushed
          ∙ one_cell maps ram c.loop-frame.frame c.loop-frame.cells.items (cells_of maps ram) c.loop-frame.invariant w.frame.result.now bytes covered
      | else-is_covered w ↦
          let low : c.loop-frame.frame < length ram = search rules in
          let not_covered : is_covered maps c.loop-frame.frame ≡ false = search rules in
          let same : c.if-is_covered.cells.items ≡ c.loop-frame.cells.items = search rules in
          ap (λ cells. cells ++ cells_from maps (c.loop-frame.frame + 1) (drop (c.loop-frame.frame + 1) ram)) same
          ∙ no_cell maps ram c.loop-frame.frame c.loop-frame.cells.items (cells_of maps ram) c.loop-frame.invariant low not_covered
    ]
