use Rattle.std.proofs.Common.{◌≡◌, ◌++◌, map, take, drop}
use Rattle.nova_ties.specs.Ties.{renamed}
use Rattle.nova_ties.proofs.sides.rename.Given as goal

abbrev pub invariant-loop-i : goal.invariant-loop-i
invariant-loop-i l = take l.i l.labels ++ map (renamed l.old l.new) (drop l.i l.labels) ≡ map (renamed l.old l.new) l.initial.labels
