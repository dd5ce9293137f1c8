use Rattle.std.proofs.Common.{refl}
use Rattle.std.specs.Fmt.{digits}
use Rattle.nova_debug.proofs.laws.accesses_are_told_so.Goals as goal

pub returns : goal.returns
unfolding digits
returns c = record { store = refl; load = refl; words = refl; none = refl }
