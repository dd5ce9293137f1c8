use Rattle.std.proofs.Common.{◌≡◌, None, refl, rules, subst}
use Rattle.rv_model.specs.Step.{one}
use Rattle.rv_core.specs.Steps.{Follows}
use Rattle.nova_kernel.specs.Views.{KernelView}
use Rattle.nova_recording.specs.Accesses.{PreviewState, begun, found, noted}
use Rattle.nova_recording.proofs.Looked.{ahead}
use Rattle.nova_recording.proofs.preview.Preview.look.Goals as goal

pub returns-clause-outcome : goal.returns-clause-outcome
returns-clause-outcome c =
    let s = begun c.args.self.now c.args.ec c.args.hides_loads in
    let same : c.self.inside.kernel ≡ c.args.self.now.kernel = search rules in
    let from : KernelView → PreviewState = λ k. record { kernel = k; ec = c.args.ec; hides_loads = c.args.hides_loads; stored = None } in
    let follows : Follows noted (one c.args.regs.now (found s)) c.args.regs.now s c.step.result c.step.new.regs c.step.new.bus =
    subst (λ (k : KernelView). Follows noted (one c.args.regs.now (found (from k))) c.args.regs.now (from k) c.step.result c.step.new.regs c.step.new.bus) same c.step.ensures in
    (ahead (one c.args.regs.now (found s)) c.args.regs.now c.step.new.regs s c.step.new.bus c.step.result refl follows).0

pub returns-clause-stored : goal.returns-clause-stored
returns-clause-stored c =
    let s = begun c.args.self.now c.args.ec c.args.hides_loads in
    let same : c.self.inside.kernel ≡ c.args.self.now.kernel = search rules in
    let from : KernelView → PreviewState = λ k. record { kernel = k; ec = c.args.ec; hides_loads = c.args.hides_loads; stored = None } in
    let follows : Follows noted (one c.args.regs.now (found s)) c.args.regs.now s c.step.result c.step.new.regs c.step.new.bus =
    subst (λ (k : KernelView). Follows noted (one c.args.regs.now (found (from k))) c.args.regs.now (from k) c.step.result c.step.new.regs c.step.new.bus) same c.step.ensures in
    (ahead (one c.args.regs.now (found s)) c.args.regs.now c.step.new.regs s c.step.new.bus c.step.result refl follows).1
