use Rattle.std.proofs.Common.{◌≡◌, length, drop}
use Rattle.law_renaming.specs.Forced.{alike_maps}
use Rattle.law_renaming.proofs.alike.alike_maps.Given as goal

abbrev pub invariant-loop-i : goal.invariant-loop-i
invariant-loop-i l = (length l.ms ≡ length l.ns) × (alike_maps (drop l.i l.ms) (drop l.i l.ns) ≡ alike_maps l.ms l.ns)
