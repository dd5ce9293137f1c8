use Rattle.std.proofs.Common.{◌≡◌, ◌∙◌, ap, arith, rules}
use Rattle.std.proofs.lemmas.Result.{IfOk-weaker}
use Rattle.nova_kernel.specs.Views.{KernelView}
use Rattle.nova_boot.specs.Boot.{scenario_of}
use Rattle.nova_boot.proofs.Started.{boot_cpus, boot_turns}
use Rattle.nova_answers.proofs.booting.booted.Goals as goal

pub returns-clause-cpus : goal.returns-clause-cpus
returns-clause-cpus c =
    IfOk-weaker c.boot.result _ _ (λ k is. ap (λ (v : KernelView). v.state.cpus) is ∙ boot_cpus (scenario_of c.args.scenario.now)) c.boot.ensures

pub returns-clause-turns : goal.returns-clause-turns
returns-clause-turns c =
    let most = c.requires.limit.1 in
    IfOk-weaker c.boot.result _ _ (λ k is. let none = ap (λ (v : KernelView). v.state.turns) is ∙ boot_turns (scenario_of c.args.scenario.now) in omega (arith, none, most)) c.boot.ensures
