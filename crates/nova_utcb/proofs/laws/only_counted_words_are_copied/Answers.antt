use Rattle.std.proofs.Common.{refl}
use Rattle.nova_utcb.proofs.CopyLaws.{given, stays, counts}
use Rattle.nova_utcb.proofs.laws.only_counted_words_are_copied.Goals as goal

pub returns-clause-given : goal.returns-clause-given
returns-clause-given c = given

pub returns-clause-stays : goal.returns-clause-stays
returns-clause-stays c = stays

pub returns-clause-counts : goal.returns-clause-counts
returns-clause-counts c = counts

pub returns-clause-windows : goal.returns-clause-windows
returns-clause-windows c = λ from to. (stays from to 1 refl, stays from to 2 refl)
