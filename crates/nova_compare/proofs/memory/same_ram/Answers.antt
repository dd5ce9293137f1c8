use Rattle.std.proofs.Common.{rules, ◌≡◌, ℕ, length, slice_get}
use Rattle.nova_compare.proofs.Places.{below_none, below_on, same_lists}
use Rattle.nova_compare.proofs.memory.same_ram.Goals as goal

pub loop-i-init : goal.loop-i-init
loop-i-init c = below_none _

pub loop-i-preserved : goal.loop-i-preserved
loop-i-preserved c =
    below_on (λ (n : ℕ). slice_get c.args.a.now.state.memory.ram n ≡ slice_get c.args.b.now.state.memory.ram n) c.loop-i.i c.loop-i.invariant c.if-not-same_frame.ensures

pub returns : goal.returns
returns c =
    let long : length c.args.a.now.state.memory.ram ≡ length c.args.b.now.state.memory.ram = search rules in
    same_lists c.args.a.now.state.memory.ram c.args.b.now.state.memory.ram long (λ n less. c.loop-i.invariant n (search rules))
