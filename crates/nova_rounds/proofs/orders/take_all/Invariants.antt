use Rattle.std.proofs.Common.{◌≡◌, take}
use Rattle.nova_rounds.specs.UnderWay.{IsAlong}
use Rattle.nova_rounds.proofs.orders.take_all.Given as goal

-- the blocks so far, in the places that there are
abbrev pub invariant-loop-index : goal.invariant-loop-index
invariant-loop-index l = IsAlong l.fn.run.kernel.state l.fn.run.limit l.run (take l.index l.block-items) × (l.run.trace.capacity ≡ l.fn.run.trace.capacity)
