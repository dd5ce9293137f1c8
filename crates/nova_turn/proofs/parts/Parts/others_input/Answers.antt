use Rattle.std.proofs.Common.{rules, ap, sym, ◌∙◌}
use Rattle.nova_model.specs.Inputs.{others_input}
use Rattle.nova_model.specs.declared.context.EcState.{EcState}
use Rattle.nova_turn.specs.Parts.{state_of}
use Rattle.nova_turn.proofs.Foreseen.{store_ahead}
use Rattle.nova_turn.proofs.parts.Parts.others_input.Goals.{in-Steps, in-Recalls, in-Replies-default-Exit-false, in-Finishes-default-default-default-Replied-default-Exit, in-Gives+in_ok-input-in-Gives, in-Removes, in_default}
use Rattle.nova_turn.proofs.parts.Parts.others_input.Goals as goal

pub returns-clause-input : goal.returns-clause-input
returns-clause-input c =
    elim c.match-deed.branch [
      | in-Steps w ↦
          w.input-is
          ∙ store_ahead c.args.self.now c.args.ec c.args.guest w.pd.result c.pd-pd.result w.is_thread.result w.context.result.now.regs
          w.next_instruction-ahead.result.write w.foreign-input.result c.pd-pd.ensures w.pd.ensures w.is_thread.ensures
          (ap (λ (x : EcState). x.regs) w.context.ensures.context) w.next_instruction-ahead.ensures.write w.foreign-input.ensures
          ∙ sym (ap (others_input (state_of c.args.self.now) c.args.ec c.args.guest) w.in-Steps.is)
      | in-Recalls w ↦ search rules
      | in-Replies-default-Exit-false w ↦ search rules
      | in-Finishes-default-default-default-Replied-default-Exit w ↦ search rules
      | in-Gives+in_ok-input-in-Gives w ↦ search rules
      | in-Removes w ↦ search rules
      | in_default w ↦ search rules
    ]
