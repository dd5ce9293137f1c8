use Rattle.std.proofs.Common.{◌≡◌, ◌-◌}
use Rattle.std.specs.Prelude.{ℕ, ◌&&◌}
use Rattle.std.specs.List.{list_any, range_with_len}
use Rattle.nova_asking.specs.Locations.{another_is_at, is_at, two_are_at}
use Rattle.nova_asking.proofs.locations.two_are_at.Given as goal

-- the processors that are left decide
abbrev pub invariant-loop-cpu : goal.invariant-loop-cpu
invariant-loop-cpu l = list_any (λ (cpu : ℕ). is_at l.kernel.state l.first cpu && another_is_at l.kernel.state l.second cpu) (range_with_len l.cpu (l.kernel.state.cpus - l.cpu)) ≡ two_are_at l.kernel.state l.first l.second
