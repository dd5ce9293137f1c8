use Rattle.law_isolation.proofs.Replies.{back_same}
use Rattle.law_isolation.proofs.a_reply_is_the_groups_that_it_names.Goals as goal

pub returns : goal.returns
returns c = back_same
