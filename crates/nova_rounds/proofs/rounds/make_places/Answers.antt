use Rattle.std.proofs.Common.{refl}
use Rattle.nova_rounds.proofs.Passes.{Passed-none}
use Rattle.nova_rounds.proofs.rounds.make_places.Goals as goal

pub returns-clause-none : goal.returns-clause-none
returns-clause-none c = Passed-none c.args.run.now _ c.requires.ready refl refl refl c.reserve.ensures.items refl
