use Rattle.std.specs.Prelude.{ℕ, take}
use Rattle.nova_model.specs.State.{KernelState}
use Rattle.std.specs.List.{AllByRecursion}
use Rattle.nova_search.specs.Searches.{states_of}
use Rattle.nova_asking.specs.Answers.{AreCounted, AreDistinct, IsEnd, outcomes}
use Rattle.nova_asking.specs.Searched.{AreFrom, HaveSoFar}
use Rattle.nova_asking.proofs.ends.gather.Given as goal

-- the outcomes so far
abbrev pub invariant-loop-place : goal.invariant-loop-place
invariant-loop-place l = record {
  lead : (k : KernelState) (limit : ℕ) → AreFrom k limit l.found → AllByRecursion (IsEnd k limit) l.ends.items;
  have : HaveSoFar (states_of l.found) l.place (outcomes l.ends.items);
  once : AreDistinct (outcomes l.ends.items);
  counted : AreCounted (take l.place (states_of l.found)) l.ends.items;
}
