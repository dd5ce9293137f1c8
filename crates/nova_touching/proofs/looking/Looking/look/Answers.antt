use Rattle.std.proofs.Common.{◌≡◌, ℕ, None, refl, rules, subst}
use Rattle.rv_model.specs.Step.{one}
use Rattle.rv_core.specs.Steps.{Follows}
use Rattle.nova_model.specs.State.{KernelState}
use Rattle.nova_touching.specs.Looking.{LookState, begun, found, noted}
use Rattle.nova_touching.proofs.Looked.{ahead}
use Rattle.nova_touching.proofs.looking.Looking.look.Goals as goal

pub returns-clause-outcome : goal.returns-clause-outcome
returns-clause-outcome c =
    let s = begun c.args.self.now c.args.hides_loads in
    let from : KernelState → ℕ → LookState = λ k ec. record { kernel = k; ec = ec; hides_loads = c.args.hides_loads; stored = None } in
    let same : c.self.inside.kernel.now.state ≡ c.args.self.now.kernel = search rules in
    let its : c.self.inside.ec ≡ c.args.self.now.ec = search rules in
    let follows : Follows noted (one c.args.regs.now (found s)) c.args.regs.now s c.step.result c.step.new.regs c.step.new.bus =
    subst (λ (k : KernelState). Follows noted (one c.args.regs.now (found (from k c.args.self.now.ec))) c.args.regs.now (from k c.args.self.now.ec) c.step.result c.step.new.regs c.step.new.bus) same
    (subst (λ (ec : ℕ). Follows noted (one c.args.regs.now (found (from c.self.inside.kernel.now.state ec))) c.args.regs.now (from c.self.inside.kernel.now.state ec) c.step.result c.step.new.regs c.step.new.bus) its c.step.ensures) in
    (ahead (one c.args.regs.now (found s)) c.args.regs.now c.step.new.regs s c.step.new.bus c.step.result refl follows).0

pub returns-clause-stored : goal.returns-clause-stored
returns-clause-stored c =
    let s = begun c.args.self.now c.args.hides_loads in
    let from : KernelState → ℕ → LookState = λ k ec. record { kernel = k; ec = ec; hides_loads = c.args.hides_loads; stored = None } in
    let same : c.self.inside.kernel.now.state ≡ c.args.self.now.kernel = search rules in
    let its : c.self.inside.ec ≡ c.args.self.now.ec = search rules in
    let follows : Follows noted (one c.args.regs.now (found s)) c.args.regs.now s c.step.result c.step.new.regs c.step.new.bus =
    subst (λ (k : KernelState). Follows noted (one c.args.regs.now (found (from k c.args.self.now.ec))) c.args.regs.now (from k c.args.self.now.ec) c.step.result c.step.new.regs c.step.new.bus) same
    (subst (λ (ec : ℕ). Follows noted (one c.args.regs.now (found (from c.self.inside.kernel.now.state ec))) c.args.regs.now (from c.self.inside.kernel.now.state ec) c.step.result c.step.new.regs c.step.new.bus) its c.step.ensures) in
    (ahead (one c.args.regs.now (found s)) c.args.regs.now c.step.new.regs s c.step.new.bus c.step.result refl follows).1
