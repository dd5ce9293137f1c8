use Rattle.std.proofs.Common.{◌≡◌, ◌-◌}
use Rattle.std.specs.List.{list_all, range_with_len}
use Rattle.nova_model.specs.Choice.{is_idle, is_quiet}
use Rattle.nova_turn.specs.Parts.{state_of}
use Rattle.nova_turn.proofs.parts.Parts.is_quiet.Given as goal

-- the processors that are left decide
abbrev pub invariant-loop-cpu : goal.invariant-loop-cpu
invariant-loop-cpu l =
    list_all (is_idle (state_of l.self)) (range_with_len l.cpu (l.self.cpus - l.cpu)) ≡ is_quiet (state_of l.self)
