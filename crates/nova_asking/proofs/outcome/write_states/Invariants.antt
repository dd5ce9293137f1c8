use Rattle.std.proofs.Common.{◌≡◌, ◌++◌, ◌-◌, string_bytes, flat_map, length}
use Rattle.std.specs.List.{range_with_len}
use Rattle.nova_asking.specs.Outcomes.{state_lines, state_of}
use Rattle.nova_asking.proofs.outcome.write_states.Given as goal

-- what is written and what is left to write
abbrev pub invariant-loop-id : goal.invariant-loop-id
invariant-loop-id l =
    string_bytes l.out ++ flat_map (state_of l.kernel.state) (range_with_len l.id (length l.kernel.state.objects - l.id))
    ≡ string_bytes l.initial.out ++ state_lines l.kernel.state
