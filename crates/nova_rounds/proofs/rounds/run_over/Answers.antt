use Rattle.std.proofs.Common.{rules, ◌≡◌, ◌-◌}
use Rattle.nova_finished.specs.UnderWay.{left}
use Rattle.nova_rounds.proofs.Lone.{Passed-lone}
use Rattle.nova_rounds.proofs.rounds.run_over.Goals as goal

pub returns-in_ok-take : goal.returns-in_ok-take
returns-in_ok-take c =
    let one : c.args.run.now.kernel.state.cpus ≡ 1 = search rules in
    let all : c.args.run.now.limit - c.len.result ≡ left c.args.run.now = search rules in
    Passed-lone c.args.run.now c.take.new.run _ c.in_ok-take.field-0 one all c.in_ok-take.ensures.gone c.in_ok-take.ensures.idle
