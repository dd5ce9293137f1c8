use Rattle.nova_ec.proofs.Changes.{new_ways}
use Rattle.nova_ec.proofs.laws.new_ways.Goals as goal

pub returns : goal.returns
returns c = new_ways
