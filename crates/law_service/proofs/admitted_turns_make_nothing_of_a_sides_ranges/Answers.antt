use Rattle.law_service.proofs.Deriving.{admitted_derives}
use Rattle.law_service.proofs.admitted_turns_make_nothing_of_a_sides_ranges.Goals as goal

pub returns : goal.returns
returns c = admitted_derives
