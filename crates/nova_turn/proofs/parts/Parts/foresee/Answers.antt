use Rattle.std.proofs.Common.{ap, sym, ◌∙◌}
use Rattle.nova_model.specs.declared.context.EcState.{EcState}
use Rattle.nova_turn.proofs.Foreseen.{raise_ahead, step_ahead}
use Rattle.nova_turn.proofs.parts.Parts.foresee.Goals as goal

pub returns-in-Next-clause-deed : goal.returns-in-Next-clause-deed
returns-in-Next-clause-deed c =
    step_ahead c.args.self.now c.args.ec c.pd.result c.is_thread.result c.context.result.now.regs (sym c.is_executing.ensures ∙ c.if-is_executing.true)
    c.pd.ensures c.is_thread.ensures (ap (λ (x : EcState). x.regs) c.context.ensures.context) (sym c.in-Next.is ∙ c.next_instruction-ahead.ensures.outcome)

pub returns-in-Raise-clause-deed : goal.returns-in-Raise-clause-deed
returns-in-Raise-clause-deed c =
    raise_ahead c.args.self.now c.args.ec c.pd.result c.in-Raise.reason c.in-Raise.q0 c.in-Raise.q1 c.is_thread.result c.context.result.now.regs c.signal.result
    (sym c.is_executing.ensures ∙ c.if-is_executing.true) c.pd.ensures c.is_thread.ensures (ap (λ (x : EcState). x.regs) c.context.ensures.context)
    (sym c.in-Raise.is ∙ c.next_instruction-ahead.ensures.outcome) c.signal.ensures.deed
