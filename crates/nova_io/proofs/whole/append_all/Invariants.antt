use Rattle.std.proofs.Common.{length, ◌-◌, ◌≡◌, ◌≤◌, ℕ, List, take}
use Rattle.nova_io.specs.Faults.{Stay, OthersStay}
use Rattle.nova_io.specs.Files.{with_appended}
use Rattle.nova_io.specs.Taken.{Went}
use Rattle.nova_io.proofs.whole.append_all.Given as goal

abbrev pub invariant-loop-done : goal.invariant-loop-done
invariant-loop-done g l = record {
  in_bytes : l.done ≤ length l.bytes;
  taken : g.D.Depot.files l.depot ≡ with_appended (g.D.Depot.files l.fn.depot) l.name (take l.done l.bytes);
  went : Went (λ d. g.D.Depot.took d l.name) l.bytes l.fn.depot l.done l.depot;
  fetches : Stay (g.D.Depot.fetch_faults l.fn.depot) (g.D.Depot.fetch_faults l.depot);
  others : OthersStay g.D.Depot.append_faults l.name l.fn.depot l.depot;
  appends : (any : List ℕ) → g.D.Depot.append_faults l.fn.depot any ≤ g.D.Depot.append_faults l.depot any;
}

abbrev pub decreases-loop-done : goal.decreases-loop-done
decreases-loop-done g l = length l.bytes - l.done
