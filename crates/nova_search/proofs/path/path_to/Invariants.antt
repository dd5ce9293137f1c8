use Rattle.std.proofs.Common.{◌<◌, length, reverse}
use Rattle.nova_model.specs.State.{KernelState}
use Rattle.nova_search.specs.Searches.{IsWay, state_at}
use Rattle.nova_search.proofs.path.path_to.Given as goal

-- the turns back so far
abbrev pub invariant-loop-at : goal.invariant-loop-at
invariant-loop-at l = record {
  there : l.at < length l.found;
  way : (e d : KernelState) → IsWay (state_at l.found l.at d) (state_at l.found l.place e) (reverse l.path.items);
}

abbrev pub decreases-loop-at : goal.decreases-loop-at
decreases-loop-at l = l.at
