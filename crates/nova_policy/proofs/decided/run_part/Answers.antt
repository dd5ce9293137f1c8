use Rattle.std.proofs.Common.{ℕ, subst}
use Rattle.std.specs.Prelude.{IsTrue}
use Rattle.nova_boot.specs.Boot.{scenario_of}
use Rattle.nova_boot.proofs.Started.{boot_cpus}
use Rattle.nova_model.specs.Boot.{boot}
use Rattle.nova_order.specs.Blocks.{IsOrder, is_within}
use Rattle.nova_order.specs.declared.block.Block.{Block}
use Rattle.std.specs.Prelude.{List}
use Rattle.nova_policy.proofs.FirstTurns.{within_there}
use Rattle.nova_policy.proofs.decided.run_part.Goals as goal

pub run_along-requires-clause-within : goal.run_along-requires-clause-within
run_along-requires-clause-within c =
    let s = scenario_of c.args.scenario.now in
    let order : IsOrder c.args.order.now.blocks = subst (λ (bs : List Block). IsOrder bs) c.blocks-blocks.ensures.blocks c.blocks-blocks.ensures.order in
    subst (λ (n : ℕ). IsTrue (is_within n 10000000 c.args.order.now.blocks)) (boot_cpus s)
    (within_there (boot s).cpus 10000000 c.args.order.now.blocks (c.bounds_are_of_turns.ensures (boot s).cpus 10000000 c.args.order.now.blocks order) c.requires.there c.requires.few)
