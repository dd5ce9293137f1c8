use Rattle.std.proofs.Common.{◌≡◌, ◌∙◌, ℕ, ap, sym, subst, arith}
use Rattle.std.specs.Prelude.{IsTrue}
use Rattle.nova_kernel.specs.Views.{KernelView}
use Rattle.nova_boot.specs.Boot.{scenario_of}
use Rattle.nova_boot.proofs.Started.{boot_cpus, boot_turns}
use Rattle.nova_order.specs.Blocks.{is_within, turns}
use Rattle.nova_order.proofs.BoundLemmas.{processors_of, turns_within}
use Rattle.nova_debug.proofs.Made.{done_from}
use Rattle.nova_debug.proofs.making.run_along.Goals as goal

pub run_order-requires-clause-turns : goal.run_order-requires-clause-turns
run_order-requires-clause-turns c =
    let none : c.in_ok-kernel.kernel.state.turns ≡ 0 =
    ap (λ (k : KernelView). k.state.turns) c.in_ok-kernel.ensures ∙ boot_turns (scenario_of c.args.scenario.now) in
    let most : c.from-most.result ≡ c.args.limit = c.from-most.ensures in
    let few = c.requires.limit in
    omega arith

pub run_order-requires-clause-within : goal.run_order-requires-clause-within
run_order-requires-clause-within c =
    let there : c.in_ok-kernel.kernel.state.cpus ≡ c.args.scenario.now.cpus =
    ap (λ (k : KernelView). k.state.cpus) c.in_ok-kernel.ensures ∙ boot_cpus (scenario_of c.args.scenario.now) in
    let most : c.from-most.result ≡ c.args.limit = c.from-most.ensures in
    subst (λ (n : ℕ). IsTrue (is_within n c.from-most.result c.args.order.now.blocks)) (sym there)
    (subst (λ (n : ℕ). IsTrue (is_within c.args.scenario.now.cpus n c.args.order.now.blocks)) (sym most) c.requires.within)

pub new-requires : goal.new-requires
new-requires c =
    let k = c.in_ok-kernel.kernel.state in
    let none : k.turns ≡ 0 = ap (λ (v : KernelView). v.state.turns) c.in_ok-kernel.ensures ∙ boot_turns (scenario_of c.args.scenario.now) in
    let there : k.cpus ≡ c.args.scenario.now.cpus = ap (λ (v : KernelView). v.state.cpus) c.in_ok-kernel.ensures ∙ boot_cpus (scenario_of c.args.scenario.now) in
    let few = c.requires.limit in
    let within : IsTrue (is_within k.cpus c.args.limit c.args.order.now.blocks) =
    subst (λ (n : ℕ). IsTrue (is_within n c.args.limit c.args.order.now.blocks)) (sym there) c.requires.within in
    let many = turns_within k.cpus c.args.limit c.args.order.now.blocks within in
    done_from k _ (turns c.args.order.now.blocks) c.from-most.result c.in_ok-run.ensures.finished c.in_ok-run.ensures.no_idle
    (processors_of k.cpus c.args.limit c.args.order.now.blocks within) (omega arith)
