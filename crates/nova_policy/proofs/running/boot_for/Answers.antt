use Rattle.std.proofs.Common.{◌≡◌, ◌*◌, ◌^◌, List, ap, sym, ◌∙◌, subst, arith}
use Rattle.std.specs.Prelude.{IsTrue}
use Rattle.nova_boot.specs.Boot.{scenario_of}
use Rattle.nova_boot.proofs.Among.{lie_in}
use Rattle.nova_boot.proofs.Started.{boot_turns}
use Rattle.nova_kernel.specs.Views.{KernelView}
use Rattle.nova_model.specs.Boot.{boot}
use Rattle.nova_model.specs.State.{KernelState}
use Rattle.nova_order.specs.Blocks.{IsOrder, is_within}
use Rattle.nova_order.specs.declared.block.Block.{Block}
use Rattle.nova_policy.proofs.FirstTurns.{within_there}
use Rattle.nova_policy.proofs.running.boot_for.Goals as goal

pub boot-requires-clause-images : goal.boot-requires-clause-images
boot-requires-clause-images c = lie_in (4096 * 2 ^ c.args.scenario.now.ram) c.args.scenario.now.images c.requires.sound.images

pub returns-clause-within : goal.returns-clause-within
returns-clause-within c =
    let s = scenario_of c.args.scenario.now in
    let begun : c.in_ok-kernel.kernel.state ≡ boot s = ap (λ (k : KernelView). k.state) c.in_ok-kernel.ensures in
    let order : IsOrder c.args.order.now.blocks = subst (λ (bs : List Block). IsOrder bs) c.blocks-blocks.ensures.blocks c.blocks-blocks.ensures.order in
    subst (λ (k : KernelState). IsTrue (is_within k.cpus 10000000 c.args.order.now.blocks)) (sym begun)
    (within_there (boot s).cpus 10000000 c.args.order.now.blocks (c.bounds_are_of_turns.ensures (boot s).cpus 10000000 c.args.order.now.blocks order) c.requires.there c.requires.few)

pub returns-clause-turns : goal.returns-clause-turns
returns-clause-turns c =
    let none : c.in_ok-kernel.kernel.state.turns ≡ 0 = ap (λ (k : KernelView). k.state.turns) c.in_ok-kernel.ensures ∙ boot_turns (scenario_of c.args.scenario.now) in
    let total = c.sum.ensures.sum in
    let sum = c.sum.ensures.turns in
    let few = c.requires.few in
    omega (arith, none, total, sum, few)
