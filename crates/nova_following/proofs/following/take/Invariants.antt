use Rattle.std.proofs.Common.{replicate, true}
use Rattle.nova_following.specs.Passes.{HasFollowed, IsBlockTaken}
use Rattle.nova_following.proofs.following.take.Given as goal

-- the turns so far
abbrev pub invariant-loop-turn : goal.invariant-loop-turn
invariant-loop-turn l = IsBlockTaken l.fn.kernel.state (replicate l._turn l.cpu) (HasFollowed l.guest l.fn.kernel l.fn.trail (replicate l._turn l.cpu) l.kernel l.trail) true
