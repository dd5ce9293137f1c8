use Rattle.std.proofs.Common.{rules, ◌≡◌, ◌++◌, string_bytes, length}
use Rattle.nova_asking.specs.Outcomes.{state_of}
use Rattle.nova_report.proofs.Ranges.{range_more}
use Rattle.nova_asking.proofs.outcome.write_states.Goals as goal

pub loop-id-preserved : goal.loop-id-preserved
loop-id-preserved c =
    let k = c.args.kernel.now.state in
    let wrote : string_bytes c.write_state.new.out ≡ string_bytes c.loop-id.out ++ state_of k c.loop-id.id = search rules in
    range_more (state_of k) c.loop-id.id (length k.objects) (string_bytes c.loop-id.out) _ c.loop-id.invariant
    (string_bytes c.write_state.new.out) (search rules) wrote
