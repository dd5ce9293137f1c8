use Rattle.law_leases.proofs.Stops.{stops}
use Rattle.law_leases.proofs.laws.a_lease_stops_at_a_raise_or_a_page_not_copied.Goals as goal

pub returns : goal.returns
returns c = stops
