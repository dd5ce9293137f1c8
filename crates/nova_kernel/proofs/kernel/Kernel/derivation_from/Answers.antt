use Rattle.std.proofs.Common.{◌^◌, ◌-◌, ◌≤◌, arith}
use Rattle.nova_model.specs.State.{KernelState}
use Rattle.nova_turn.specs.Parts.{state_of}
use Rattle.nova_kernel.proofs.Below.{from_id_below}
use Rattle.nova_kernel.proofs.kernel.Kernel.derivation_from.Goals as goal

pub returns-clause-below : goal.returns-clause-below
returns-clause-below c =
    let k : KernelState = state_of c.self.inside.parts in
    let few : k.delegations.next ≤ 2 ^ 32 - 1 = let n = c.self.invariant.tables.counted.numbered.derivations in let t = c.self.invariant.tables.counted.charged.turns in omega arith in
    from_id_below k.delegations.next (2 ^ 32 - 1) c.args.id k.delegations.list _ c.from_id.ensures c.self.invariant.tables.counted.forest.numbered few
