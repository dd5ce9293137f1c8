use Rattle.law_leases.proofs.Unchanged.{unstirred}
use Rattle.law_leases.proofs.laws.equal_counts_mean_an_equal_view.Goals as goal

pub returns : goal.returns
returns c = unstirred
