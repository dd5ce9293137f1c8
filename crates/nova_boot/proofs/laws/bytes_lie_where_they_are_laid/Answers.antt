use Rattle.nova_boot.proofs.Laid.{laid_there}
use Rattle.nova_boot.proofs.laws.bytes_lie_where_they_are_laid.Goals as goal

pub returns : goal.returns
returns c = laid_there c.loads_give_what_was_stored.ensures.same c.loads_give_what_was_stored.ensures.others
