use Rattle.std.proofs.Common.{refl}
use Rattle.std.specs.Fmt.{digits}
use Rattle.nova_judging.proofs.laws.a_trail_is_told_from_its_end.Goals as goal

pub returns : goal.returns
unfolding digits
returns c = refl
