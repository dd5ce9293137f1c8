use Rattle.std.proofs.Common.{rules}
use Rattle.nova_search.proofs.reducing.expand_or_end.Goals as goal

pub expand_state-requires-clause-stay : goal.expand_state-requires-clause-stay
expand_state-requires-clause-stay g c = c.may_part.ensures.stay (search rules)
