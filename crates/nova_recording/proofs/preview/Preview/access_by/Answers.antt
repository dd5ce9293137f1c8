use Rattle.std.proofs.Common.{rules, ◌≡◌, ◌∙◌, ap}
use Rattle.std.specs.Prelude.{None}
use Rattle.rv_model.specs.Step.{one}
use Rattle.nova_model.specs.AddressSpaces.{space, without_loads}
use Rattle.nova_model.specs.Deeds.{address_space}
use Rattle.nova_kernel.specs.Views.{KernelView}
use Rattle.nova_recording.specs.Accesses.{PreviewState, load_missed, stored_by}
use Rattle.nova_recording.proofs.Looked.{loads}
use Rattle.nova_recording.proofs.preview.Preview.access_by.Goals as goal

pub returns-in-None-clause-access : goal.returns-in-None-clause-access
returns-in-None-clause-access c =
    let a = address_space c.args.self.now.kernel.state c.args.ec in
    let once = one c.args.regs.now (space a) in
    let none : None ≡ stored_by a once = search rules in
    let same : c.look.new.self.kernel ≡ c.args.self.now.kernel = ap (λ (s : PreviewState). s.kernel) c.look.ensures.stored in
    c.load_missed.ensures.load
    ∙ ap (λ (k : KernelView). load_missed (address_space k.state c.args.ec) (one c.args.regs.now (without_loads (space (address_space k.state c.args.ec))))) same
    ∙ loads a once (one c.args.regs.now (without_loads (space a))) c.in-Next.ensures.outcome none
