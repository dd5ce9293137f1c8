use Rattle.std.proofs.Common.{◌≡◌, ◌-◌}
use Rattle.std.specs.List.{list_any, range_with_len}
use Rattle.nova_asking.specs.Stores.{some_stores, stores_on, stores_to}
use Rattle.nova_asking.proofs.stores.some_stores.Given as goal

-- the processors that are left decide
abbrev pub invariant-loop-cpu : goal.invariant-loop-cpu
invariant-loop-cpu l =
    list_any (stores_on l.kernel.state (stores_to l.frame l.first l.last)) (range_with_len l.cpu (l.kernel.state.cpus - l.cpu)) ≡ some_stores l.kernel.state l.frame l.first l.last
