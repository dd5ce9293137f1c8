use Rattle.std.proofs.Common.{rules, ◌≡◌, ℕ, refl, subst}
use Rattle.std.specs.List.{AllByRecursion}
use Rattle.nova_boot.specs.Boot.{scenario_of}
use Rattle.nova_model.specs.Boot.{boot}
use Rattle.nova_asking.specs.Answers.{IsEnd}
use Rattle.nova_explore.proofs.Verdicts.{ended}
use Rattle.nova_explore.proofs.told.tell_outcomes.Goals as goal

pub returns : goal.returns
returns c =
    let same : c.from.result ≡ c.args.request.now.turns = search rules in
    ended (boot (scenario_of c.args.scenario.now)) c.args.scenario.now.cpus c.args.request.now.turns c.args.request.now.states c.in_ok-ends.ends.states c.in_ok-ends.ends.ends.items
    c.in_ok-text.text.items
    (subst (λ (n : ℕ). AllByRecursion (IsEnd (boot (scenario_of c.args.scenario.now)) n) c.in_ok-ends.ends.ends.items) same c.in_ok-ends.ensures.each) c.in_ok-ends.ensures.once c.from.result c.args.request.now.states c.in_ok-ends.ends.extent c.of_extent-verdict.result same refl
    c.in_ok-ends.ensures.all c.in_ok-ends.ensures.states c.in_ok-text.ensures c.of_extent-verdict.ensures
