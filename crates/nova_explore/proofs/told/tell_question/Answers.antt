use Rattle.std.proofs.Common.{rules, ◌≡◌, refl}
use Rattle.nova_boot.specs.Boot.{scenario_of}
use Rattle.nova_model.specs.Boot.{boot}
use Rattle.nova_explore.proofs.Verdicts.{answered}
use Rattle.nova_explore.proofs.told.tell_question.Goals as goal

pub returns : goal.returns
returns c =
    let same : c.from.result ≡ c.args.request.now.turns = search rules in
    answered c.args.request.now.question (boot (scenario_of c.args.scenario.now)) c.args.scenario.now.cpus c.args.request.now.turns c.args.request.now.states
    c.in_ok-text.text.items c.from.result c.args.request.now.states c.in_ok-answer.answer c.verdict_of-verdict.result same refl
    c.in_ok-answer.ensures c.in_ok-text.ensures c.verdict_of-verdict.ensures
