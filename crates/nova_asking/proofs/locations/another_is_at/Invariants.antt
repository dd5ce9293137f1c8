use Rattle.std.proofs.Common.{◌≡◌, ◌-◌}
use Rattle.std.specs.Prelude.{ℕ, ◌==◌, ◌&&◌, not}
use Rattle.std.specs.List.{list_any, range_with_len}
use Rattle.nova_asking.specs.Locations.{another_is_at, is_at}
use Rattle.nova_asking.proofs.locations.another_is_at.Given as goal

-- the processors that are left decide
abbrev pub invariant-loop-other : goal.invariant-loop-other
invariant-loop-other l = list_any (λ (other : ℕ). not (other == l.cpu) && is_at l.kernel.state l.location other) (range_with_len l.other (l.kernel.state.cpus - l.other)) ≡ another_is_at l.kernel.state l.location l.cpu
