-- The remainder that is taken away is at most the remainder that is added.
use Rattle.std.proofs.Common.{◌<◌, arith}
use Rattle.std.proofs.lemmas.Nat.{one_shl}
use Rattle.nova_range.proofs.Multiples.{remainders}
use Rattle.nova_range.proofs.clamped.part_base.Goals as goal

pub overflow_sub-result : goal.overflow_sub-result
overflow_sub-result c =
    let order : c.args.range.order < 32 = omega arith in
    let low : c.args.low < 32 = omega arith in
    let least = remainders c.args.hotspot c.args.low c.args.range.order c.requires.part in
    rw (one_shl c.args.low 32 low, one_shl c.args.range.order 32 order) (omega arith)
