use Rattle.std.proofs.Common.{◌≡◌, ◌<◌, ℕ, ap, sym, subst, ◌∙◌, arith, rules, IsTrue}
use Rattle.std.specs.List.{AllByRecursion}
use Rattle.nova_kernel.specs.Views.{KernelView}
use Rattle.nova_model.specs.Boot.{boot}
use Rattle.nova_boot.specs.Boot.{scenario_of}
use Rattle.nova_boot.proofs.Started.{boot_cpus, boot_turns}
use Rattle.nova_order.specs.Blocks.{is_within, turns}
use Rattle.nova_policy.proofs.FirstTurns.{first_there}
use Rattle.nova_policy.proofs.Ran.{along}
use Rattle.nova_policy.proofs.running.run_first.Goals as goal

pub run_order-requires-clause-turns : goal.run_order-requires-clause-turns
run_order-requires-clause-turns c =
    let none : c.in_ok-kernel.kernel.state.turns ≡ 0 = ap (λ (k : KernelView). k.state.turns) c.in_ok-kernel.ensures ∙ boot_turns (scenario_of c.args.scenario.now) in
    let same : c.from-most.result ≡ c.args.at = search rules in
    let last = c.requires.last in
    omega arith

pub run_order-requires-clause-within : goal.run_order-requires-clause-within
run_order-requires-clause-within c =
    let there : c.in_ok-kernel.kernel.state.cpus ≡ c.args.scenario.now.cpus = ap (λ (k : KernelView). k.state.cpus) c.in_ok-kernel.ensures ∙ boot_cpus (scenario_of c.args.scenario.now) in
    let same : c.from-most.result ≡ c.args.at = search rules in
    subst (λ (n : ℕ). IsTrue (is_within n c.from-most.result c.args.first.now.blocks)) (sym there)
    (subst (λ (n : ℕ). IsTrue (is_within c.args.scenario.now.cpus n c.args.first.now.blocks)) (sym same) c.requires.within)

pub returns-clause-run : goal.returns-clause-run
returns-clause-run c =
    let s = scenario_of c.args.scenario.now in
    let begun : c.in_ok-kernel.kernel.state ≡ boot s = ap (λ (k : KernelView). k.state) c.in_ok-kernel.ensures in
    let cpus : (boot s).cpus ≡ c.args.scenario.now.cpus = boot_cpus s in
    let last = c.requires.last in
    let bounds = first_there c.args.scenario.now.cpus c.args.at c.args.first.now.blocks
    (c.bounds_are_of_turns.ensures c.args.scenario.now.cpus c.args.at c.args.first.now.blocks c.requires.order) c.requires.within in
    let few = bounds.1 in
    along s c.from-most.result c.in_ok-kernel.kernel.state (turns c.args.first.now.blocks) _ begun c.in_ok-run_order.ensures.finished c.in_ok-run_order.ensures.no_idle
    (subst (λ (n : ℕ). AllByRecursion (λ cpu. cpu < n) (turns c.args.first.now.blocks)) (sym cpus) bounds.0) (omega arith)
