use Rattle.std.proofs.Common.{◌≡◌, ◌++◌, ◌-◌, map}
use Rattle.std.specs.List.{range_with_len}
use Rattle.nova_flowing.specs.Tables.{home_table, is_home}
use Rattle.nova_flowing.specs.Tests.{is_in}
use Rattle.nova_flowing.proofs.sides.home_table.Given as goal

abbrev pub invariant-loop-cpu : goal.invariant-loop-cpu
invariant-loop-cpu l = l.table.items ++ map (is_home l.kernel.state (is_in l.own)) (range_with_len l.cpu (l.kernel.state.cpus - l.cpu)) ≡ home_table l.kernel.state (is_in l.own)
