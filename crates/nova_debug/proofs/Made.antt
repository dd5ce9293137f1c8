-- Runs that were made: their turns are of processors that are there, and none is idle.
use Rattle.std.proofs.Common.{ℕ, ◌+◌, ◌^◌, ◌<◌, ◌≤◌, List, length, sym, subst}
use Rattle.std.specs.List.{AllByRecursion}
use Rattle.nova_model.specs.State.{KernelState}
use Rattle.nova_model.specs.Runs.{IsFreeOfIdle}
use Rattle.nova_finished.specs.Finished.{IsFinished}
use Rattle.nova_finished.specs.declared.finished.Finished.{Finished}
use Rattle.nova_recording.specs.Recordings.{IsDone}

-- a run from a state, which is over
pub done_from : (k : KernelState) (f : Finished) (list : List ℕ) (limit : ℕ) → IsFinished k list limit f → IsFreeOfIdle k list →
    AllByRecursion (λ (cpu : ℕ). cpu < k.cpus) list → k.turns + length list ≤ 2 ^ 31 → IsDone f
done_from k f list limit is free all few = record {
  order = list;
  most = limit;
  finished = subst (λ (s : KernelState). IsFinished s list limit f) (sym is.opening) is;
  no_idle = subst (λ (s : KernelState). IsFreeOfIdle s list) (sym is.opening) free;
  processors = subst (λ (s : KernelState). AllByRecursion (λ (cpu : ℕ). cpu < s.cpus) list) (sym is.opening) all;
  few = subst (λ (s : KernelState). s.turns + length list ≤ 2 ^ 31) (sym is.opening) few;
}
