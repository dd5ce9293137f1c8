use Rattle.law_origins.proofs.Origins.{makers}
use Rattle.law_origins.proofs.a_first_range_is_its_makers.Goals as goal

pub returns : goal.returns
returns c = makers
