use Rattle.std.proofs.Common.{drop}
use Rattle.std.specs.List.{enumerate_from}
use Rattle.nova_watching.specs.Worked.{AddsTo}
use Rattle.nova_watching.proofs.work.note_gifts.Given as goal

abbrev pub invariant-loop-i : goal.invariant-loop-i
invariant-loop-i l = AddsTo l.kernel.state l.done l.doer l.initial.lapses.items l.lapses.items (enumerate_from l.i (drop l.i l.object-items))
