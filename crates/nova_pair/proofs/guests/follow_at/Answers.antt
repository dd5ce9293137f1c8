use Rattle.std.proofs.Common.{subst}
use Rattle.std.specs.Prelude.{Option}
use Rattle.nova_twin.specs.declared.side.Side.{Side}
use Rattle.nova_answers.specs.Came.{Followed}
use Rattle.nova_io.specs.Outside.{depots}
use Rattle.nova_answers.specs.declared.exit.TwinWhy.TheVariants.{Guest}
use Rattle.nova_pair.proofs.Twins.{is_side, fetched_but_missing}
use Rattle.nova_pair.proofs.guests.follow_at.Goals as goal

pub returns-in-Ok-Some-clause-side : goal.returns-in-Ok-Some-clause-side
returns-in-Ok-Some-clause-side g c =
    is_side (depots g.D.Depot.files g.D.Depot.gave g.D.Depot.fetch_failed g.D.Depot.fetch_faults g.D.Depot.took g.D.Depot.append_failed g.D.Depot.append_faults) c.args.subject.now c.args.limit c.args.depot.now c.in-Ok-Some.side c.follow.new.depot
    (subst (λ (o : Option Side). Followed (depots g.D.Depot.files g.D.Depot.gave g.D.Depot.fetch_failed g.D.Depot.fetch_faults g.D.Depot.took g.D.Depot.append_failed g.D.Depot.append_faults) c.args.subject.now c.args.limit c.args.depot.now o c.follow.new.depot) c.in-Ok-Some.field-0-is c.in-Ok-Some.ensures.followed)

pub returns-in-Ok-None-clause-fetches : goal.returns-in-Ok-None-clause-fetches
returns-in-Ok-None-clause-fetches g c =
    fetched_but_missing (depots g.D.Depot.files g.D.Depot.gave g.D.Depot.fetch_failed g.D.Depot.fetch_faults g.D.Depot.took g.D.Depot.append_failed g.D.Depot.append_faults) c.args.line c.args.subject.now Guest c.args.depot.now c.follow.new.depot c.in-Ok-None.ensures.fetches
