use Rattle.std.proofs.Common.{◌≡◌, ◌++◌, map, drop}
use Rattle.law_sameness.specs.Counts.{first_stamp}
use Rattle.nova_compare.proofs.tally.first_stamps.Given as goal

-- those so far, and those that are left, are all
abbrev pub invariant-loop-object : goal.invariant-loop-object
invariant-loop-object l = l.stamps.items ++ map first_stamp (drop l.object-index l.objects) ≡ map first_stamp l.objects
