use Rattle.std.proofs.Common.{◌≡◌, ◌++◌, drop, map}
use Rattle.nova_search.specs.Searches.{states_of}
use Rattle.nova_asking.specs.Least.{turns_if}
use Rattle.nova_asking.proofs.least.all_turns.Given as goal

-- those so far and those that are left
abbrev pub invariant-loop-place : goal.invariant-loop-place
invariant-loop-place g l =
    l.least.items ++ map (turns_if (g.G.Goal.met l.goal)) (drop l.place (states_of l.found)) ≡ map (turns_if (g.G.Goal.met l.goal)) (states_of l.found)
