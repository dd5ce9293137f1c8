use Rattle.std.proofs.Common.{take}
use Rattle.nova_following.proofs.Blocks.{IsAlong}
use Rattle.nova_following.proofs.following.follow.Given as goal

-- the blocks so far
abbrev pub invariant-loop-index : goal.invariant-loop-index
invariant-loop-index l = IsAlong l.guest l.fn.kernel l.fn.trail (take l.index l.block-items) l.kernel l.trail
