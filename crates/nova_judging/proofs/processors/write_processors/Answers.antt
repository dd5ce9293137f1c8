use Rattle.std.proofs.Common.{rules, ◌≡◌, ◌++◌, ◌<◌, string_bytes}
use Rattle.nova_judging.specs.Processors.{processor_line}
use Rattle.nova_judging.proofs.Numbered.{one_more}
use Rattle.nova_judging.proofs.processors.write_processors.Goals as goal

pub loop-cpu-preserved : goal.loop-cpu-preserved
loop-cpu-preserved c =
    let more : c.loop-cpu.cpu < c.cpus-cpu-end.result = search rules in
    let same : c.cpus-cpu-end.result ≡ c.args.kernel.now.state.cpus = search rules in
    let wrote : string_bytes c.write_processor.new.out ≡ string_bytes c.loop-cpu.out ++ processor_line c.args.policy.now c.args.kernel.now.state c.args.labels.now c.loop-cpu.cpu = search rules in
    one_more (processor_line c.args.policy.now c.args.kernel.now.state c.args.labels.now) c.loop-cpu.cpu c.args.kernel.now.state.cpus c.cpus-cpu-end.result _ _ _ more same wrote c.loop-cpu.invariant
