use Rattle.std.proofs.Common.{take}
use Rattle.nova_search.specs.Searches.{IsAlong}
use Rattle.nova_search.proofs.following.go_along.Given as goal

-- the turns so far
abbrev pub invariant-loop-cpu : goal.invariant-loop-cpu
invariant-loop-cpu l = IsAlong l.fn.vertex l.vertex (take l.cpu-index l.order)
