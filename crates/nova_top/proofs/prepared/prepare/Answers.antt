use Rattle.std.proofs.Common.{[], sym, subst}
use Rattle.nova_command.specs.declared.command.Command.{Command}
use Rattle.nova_answers.specs.Fetches.{Fetches}
use Rattle.nova_io.specs.Outside.{depots}
use Rattle.nova_answers.specs.Prepared.{IsPrepared, exit_of}
use Rattle.nova_top.proofs.prepared.prepare.Goals as goal

pub returns-in-Run-clause-prepared : goal.returns-in-Run-clause-prepared
returns-in-Run-clause-prepared g c =
    subst (λ (command : Command). IsPrepared (depots g.D.Depot.files g.D.Depot.gave g.D.Depot.fetch_failed g.D.Depot.fetch_faults g.D.Depot.took g.D.Depot.append_failed g.D.Depot.append_faults) command c.args.depot.now c.run.new.depot c.run.result) (sym c.in-Run.is) (c.run.ensures.prepared _)

pub returns-in-Run-clause-fetches : goal.returns-in-Run-clause-fetches
returns-in-Run-clause-fetches g c =
    subst (λ (command : Command). Fetches (depots g.D.Depot.files g.D.Depot.gave g.D.Depot.fetch_failed g.D.Depot.fetch_faults g.D.Depot.took g.D.Depot.append_failed g.D.Depot.append_faults) command (exit_of c.run.result) c.args.depot.now c.run.new.depot) (sym c.in-Run.is) (c.run.ensures.fetches [])
