use Rattle.nova_rounds.proofs.Passes.{Passed-rounds}
use Rattle.nova_rounds.proofs.rounds.run_all.Goals as goal

pub returns-clause-passed : goal.returns-clause-passed
returns-clause-passed c = Passed-rounds c.args.run.now c.make_places.new.run c.run_over.new.run c.in_ok-make_places.ensures.none c.in_ok-run_over.ensures
