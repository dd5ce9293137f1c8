use Rattle.law_isolation.proofs.Contents.{given_as_seen}
use Rattle.law_isolation.proofs.what_is_given_is_in_the_frames.Goals as goal

pub returns : goal.returns
returns c = given_as_seen
