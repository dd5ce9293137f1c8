use Rattle.std.proofs.Common.{refl, ◌∙◌, subst}
use Rattle.std.specs.Prelude.{None}
use Rattle.rv_core.specs.Steps.{Follows, space_of}
use Rattle.rv_model.specs.Step.{one}
use Rattle.nova_memory.specs.Previews.{PreviewState, entered, fetched, loaded, noted, takes}
use Rattle.nova_preview.proofs.Looked.{ahead}
use Rattle.nova_preview.proofs.next.next_instruction.Goals as goal

pub returns-clause-write : goal.returns-clause-write
returns-clause-write c =
    let s : PreviewState = record { reach = entered c.args.reach.now c.args.ec c.args.pd c.args.is_thread; write = None } in
    let follows = subst (λ (x : PreviewState). Follows noted (one c.args.regs.now (space_of fetched loaded takes x)) c.args.regs.now x c.step-outcome.result c.step-outcome.new.regs c.step-outcome.new.bus)
    c.new-preview.ensures c.step-outcome.ensures in
    c.write-write.ensures
    ∙ (ahead (one c.args.regs.now (space_of fetched loaded takes s)) c.args.regs.now c.step-outcome.new.regs s c.step-outcome.new.bus c.step-outcome.result refl follows).1
