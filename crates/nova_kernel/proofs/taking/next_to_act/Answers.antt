use Rattle.std.proofs.Common.{sym, ◌∙◌}
use Rattle.nova_turn.specs.Parts.{state_of}
use Rattle.nova_kernel.proofs.Inputs.{next_chosen, next_none}
use Rattle.nova_kernel.proofs.taking.next_to_act.Goals as goal

pub returns-then-is_due-clause-next : goal.returns-then-is_due-clause-next
returns-then-is_due-clause-next c = next_none (state_of c.args.parts.now) c.args.cpu (sym c.is_due.ensures ∙ c.if-is_due.true)

pub returns-else-is_due-clause-next : goal.returns-else-is_due-clause-next
returns-else-is_due-clause-next c =
    next_chosen (state_of c.args.parts.now) c.args.cpu c.choice.result (sym c.is_due.ensures ∙ c.if-is_due.false) c.choice.ensures.choice
