use Rattle.law_isolation.proofs.Contents.{taken_as_seen}
use Rattle.law_isolation.proofs.what_is_taken_leaves_no_page.Goals as goal

pub returns : goal.returns
returns c = taken_as_seen
