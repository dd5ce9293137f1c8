use Rattle.std.proofs.Common.{rules, ◌≡◌, ◌++◌, ◌<◌, string_bytes}
use Rattle.nova_flowing.specs.Lines.{home_text}
use Rattle.nova_flowing.specs.Tests.{is_in}
use Rattle.nova_flowing.proofs.Numbered.{one_more}
use Rattle.nova_flowing.proofs.lines.write_homes.Goals as goal

pub loop-cpu-preserved : goal.loop-cpu-preserved
loop-cpu-preserved c =
    let more : c.loop-cpu.cpu < c.args.cpus = search rules in
    let wrote : string_bytes c.write_home.new.out ≡ string_bytes c.loop-cpu.out ++ home_text (is_in c.args.home.now) c.loop-cpu.cpu = search rules in
    one_more (home_text (is_in c.args.home.now)) c.loop-cpu.cpu c.args.cpus _ _ _ more wrote c.loop-cpu.invariant
