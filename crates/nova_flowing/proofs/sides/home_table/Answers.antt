use Rattle.std.proofs.Common.{rules, ◌≡◌, ◌∷◌, [], ◌++◌, ◌<◌, subst, ℕ}
use Rattle.nova_flowing.specs.Tables.{is_home}
use Rattle.nova_flowing.specs.Tests.{is_in}
use Rattle.nova_flowing.proofs.Numbered.{one_mapped}
use Rattle.nova_flowing.proofs.sides.home_table.Goals as goal

pub loop-cpu-preserved : goal.loop-cpu-preserved
loop-cpu-preserved c =
    let test : c.loop-cpu.cpu < c.cpus-cpu-end.result = search rules in
    let more : c.loop-cpu.cpu < c.args.kernel.now.state.cpus = subst (λ (n : ℕ). c.loop-cpu.cpu < n) c.cpus-cpu-end.ensures test in
    let wrote : c.push.new.self.items ≡ c.loop-cpu.table.items ++ is_home c.args.kernel.now.state (is_in c.args.own.now) c.loop-cpu.cpu ∷ [] = search rules in
    one_mapped (is_home c.args.kernel.now.state (is_in c.args.own.now)) c.loop-cpu.cpu c.args.kernel.now.state.cpus _ _ _ more wrote c.loop-cpu.invariant
