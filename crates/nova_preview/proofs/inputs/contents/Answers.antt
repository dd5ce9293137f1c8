use Rattle.std.proofs.Common.{rules, arith, ◌≡◌, ◌<◌, ◌^◌, ◌++◌, drop, length, take}
use Rattle.nova_nodes.proofs.Rooms.{on_err}
use Rattle.nova_preview.proofs.Frames.{concat_more, frame_at, has_bytes}
use Rattle.nova_preview.proofs.inputs.contents.Goals as goal

pub returns-in_err-extend_from_slice-clause-memory : goal.returns-in_err-extend_from_slice-clause-memory
returns-in_err-extend_from_slice-clause-memory c =
    let ram = c.args.reach.now.memory.ram in
    let before = c.loop-i-test.true in
    let count = c.ram_frames-i-end.ensures.count in
    let size = c.frame.ensures.size in
    let low : c.loop-i.i < length (take (2 ^ c.args.order) (drop c.args.frame ram)) = first_of (search rules, grind (arith, before, count)) in
    on_err c.from_residual.result (has_bytes ram (2 ^ c.args.order) c.args.frame c.loop-i.i c.frame.result.now low c.frame.ensures.bytes (omega (arith, size)))

pub loop-i-preserved : goal.loop-i-preserved
loop-i-preserved c =
    let ram = c.args.reach.now.memory.ram in
    let pushed : c.extend_from_slice.new.self.items ≡ c.loop-i.bytes.items ++ c.frame.result.now = search rules in
    concat_more (drop c.args.frame ram) c.loop-i.bytes.items c.extend_from_slice.new.self.items c.frame.result.now c.loop-i.i
    (frame_at ram c.args.frame c.loop-i.i c.frame.result.now c.frame.ensures.bytes) c.loop-i.invariant pushed
