use Rattle.std.proofs.Common.{◌≡◌, ap, sym, ◌∙◌, subst}
use Rattle.std.specs.Prelude.{Option, None, IfOk, OnErr}
use Rattle.nova_guest.specs.declared.input.Input.{Input}
use Rattle.nova_turn.specs.Given.{BringsBytes}
use Rattle.nova_model.specs.Guests.{input}
use Rattle.nova_model.specs.State.{KernelState}
use Rattle.nova_turn.specs.Parts.{state_of}
use Rattle.nova_kernel.specs.Views.{KernelView}
use Rattle.nova_kernel.proofs.Inputs.{input_chosen, input_idle}
use Rattle.nova_kernel.proofs.kernel.Kernel.input.Goals as goal

pub returns-in-Some-clause-input : goal.returns-in-Some-clause-input
returns-in-Some-clause-input c =
    let k : KernelState = state_of c.self.inside.parts in
    let told = input_chosen k c.args.cpu c.args.ec c.in-Some.chosen (sym c.in-Some.is ∙ c.next_to_act.ensures.next) in
    subst (λ (s : KernelState). IfOk c.input_of.result (λ i. i ≡ input s c.args.cpu c.args.ec)) (ap (λ (v : KernelView). v.state) c.self.view_is)
    (subst (λ (o : Option Input). IfOk c.input_of.result (λ i. i ≡ o)) told c.input_of.ensures.input)

pub returns-in-Some-clause-memory : goal.returns-in-Some-clause-memory
returns-in-Some-clause-memory c =
    let k : KernelState = state_of c.self.inside.parts in
    let told = input_chosen k c.args.cpu c.args.ec c.in-Some.chosen (sym c.in-Some.is ∙ c.next_to_act.ensures.next) in
    subst (λ (s : KernelState). OnErr c.input_of.result (BringsBytes (input s c.args.cpu c.args.ec))) (ap (λ (v : KernelView). v.state) c.self.view_is)
    (subst (λ (o : Option Input). OnErr c.input_of.result (BringsBytes o)) told c.input_of.ensures.memory)

pub returns-in-None-clause-input : goal.returns-in-None-clause-input
returns-in-None-clause-input c =
    subst (λ (s : KernelState). ◌≡◌ {A = Option Input} None (input s c.args.cpu c.args.ec)) (ap (λ (v : KernelView). v.state) c.self.view_is)
    (input_idle (state_of c.self.inside.parts) c.args.cpu c.args.ec (sym c.in-None.is ∙ c.next_to_act.ensures.next))
