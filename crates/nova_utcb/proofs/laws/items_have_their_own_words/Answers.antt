use Rattle.nova_utcb.proofs.CopyLaws.{kept}
use Rattle.nova_utcb.proofs.laws.items_have_their_own_words.Goals as goal

pub returns-clause-kept : goal.returns-clause-kept
returns-clause-kept c = kept
