use Rattle.std.proofs.Common.{◌^◌, ◌≤◌, arith}
use Rattle.std.proofs.Math.Nat.{pow-le-pow_right}
use Rattle.std.proofs.lemmas.Grind.{common_steps}
use Rattle.nova_frames.proofs.frames.Frames.new.Goals as goal

pub invariant_of-result : goal.invariant_of-result
invariant_of-result c =
    let order : c.args.ram_order ≤ 14 = c.requires.order in
    let frames : 2 ^ c.args.ram_order ≤ 2 ^ 14 = pow-le-pow_right {n = 2} (omega arith) {i = c.args.ram_order} {j = 14} order in
    grind (arith, common_steps)
