use Rattle.std.proofs.Common.{length, ◌-◌, ◌≡◌, ◌≤◌, take}
use Rattle.std.specs.Io.KnownBytes.{append_known}
use Rattle.nova_io.specs.Taken.{Went}
use Rattle.nova_io.proofs.whole.write_all.Given as goal

abbrev pub invariant-loop-done : goal.invariant-loop-done
invariant-loop-done g l = record {
  in_bytes : l.done ≤ length l.bytes;
  taken : g.S.Sink.written l.sink ≡ append_known (g.S.Sink.written l.fn.sink) (take l.done l.bytes);
  went : Went g.S.Sink.took l.bytes l.fn.sink l.done l.sink;
  counts : g.S.Sink.faults l.fn.sink ≤ g.S.Sink.faults l.sink;
}

abbrev pub decreases-loop-done : goal.decreases-loop-done
decreases-loop-done g l = length l.bytes - l.done
