use Rattle.nova_utcb.proofs.PageLaws.{own, others}
use Rattle.nova_utcb.proofs.laws.stores_change_their_bytes.Goals as goal

pub returns-clause-own : goal.returns-clause-own
returns-clause-own c = own

pub returns-clause-others : goal.returns-clause-others
returns-clause-others c = others
