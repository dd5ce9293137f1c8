use Rattle.std.proofs.Common.{◌≡◌, ◌-◌}
use Rattle.std.specs.List.{list_any, range_with_len}
use Rattle.nova_asking.specs.Locations.{is_at, some_is_at}
use Rattle.nova_asking.proofs.locations.some_is_at.Given as goal

-- the processors that are left decide
abbrev pub invariant-loop-cpu : goal.invariant-loop-cpu
invariant-loop-cpu l = list_any (is_at l.kernel.state l.location) (range_with_len l.cpu (l.kernel.state.cpus - l.cpu)) ≡ some_is_at l.kernel.state l.location
