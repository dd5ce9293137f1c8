use Rattle.std.proofs.Common.{rules, Some, ◌≡◌, ap, subst, ◌∙◌}
use Rattle.std.specs.Prelude.{option_map}
use Rattle.nova_model.specs.Choice.{choice}
use Rattle.nova_model.specs.State.{KernelState}
use Rattle.nova_choice.specs.Choices.{chosen_of}
use Rattle.law_leases.specs.Advances.{step_of}
use Rattle.nova_turn.specs.Parts.{state_of}
use Rattle.nova_kernel.specs.Views.{KernelView}
use Rattle.nova_kernel.proofs.Rides.{told_event}
use Rattle.nova_kernel.proofs.kernel.Kernel.plain_step.Goals as goal

pub returns : goal.returns
returns c =
    let k : KernelState = state_of c.self.inside.parts in
    let told : Some c.in_ok-chosen.chosen ≡ option_map chosen_of (choice k c.args.cpu) = search rules in
    subst (λ (v : KernelView). Some c.plain_step.result ≡ option_map (step_of c.args.cpu) (choice v.state c.args.cpu)) c.self.view_is
    (ap Some c.plain_step.ensures ∙ told_event c.args.cpu c.in_ok-chosen.chosen (choice k c.args.cpu) told)
