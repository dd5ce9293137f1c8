use Rattle.std.proofs.Common.{◌≡◌, ◌-◌}
use Rattle.std.specs.List.{list_any, range_with_len}
use Rattle.nova_asking.specs.Hangs.{acts, acts_on}
use Rattle.nova_asking.proofs.aim.acts.Given as goal

-- the processors that are left decide
abbrev pub invariant-loop-cpu : goal.invariant-loop-cpu
invariant-loop-cpu l = list_any (acts_on l.ec l.kernel.state) (range_with_len l.cpu (l.kernel.state.cpus - l.cpu)) ≡ acts l.ec l.kernel.state
