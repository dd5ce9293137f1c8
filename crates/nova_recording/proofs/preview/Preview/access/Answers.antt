use Rattle.std.proofs.Common.{◌≡◌, Some, rules, ◌∙◌}
use Rattle.nova_model.specs.State.{context_at}
use Rattle.nova_recording.proofs.Looked.{there}
use Rattle.nova_recording.proofs.preview.Preview.access.Goals as goal

pub returns-clause-access : goal.returns-clause-access
returns-clause-access c =
    let is : Some c.in_ok-regs.field-0.now ≡ context_at c.args.self.now.kernel.state c.args.ec = search rules in
    c.access_by.ensures.access ∙ there c.args.self.now.kernel.state c.args.ec c.in_ok-regs.field-0.now is
