use Rattle.std.proofs.Common.{◌≡◌, refl, sym, subst, ◌∙◌}
use Rattle.std.specs.Prelude.{true, Option, Some, None}
use Rattle.nova_model.specs.State.{KernelState, context}
use Rattle.nova_model.specs.declared.deed.Deed.TheVariants.{Steps}
use Rattle.nova_deeds.specs.Acts.{is_executing}
use Rattle.nova_deeds.proofs.Steps.{raise-stays}
use Rattle.nova_turn.specs.Going.{Stays}
use Rattle.nova_turn.specs.Parts.{state_of}
use Rattle.nova_turn.specs.declared.decide.deciding.Raised.{Raised}
use Rattle.nova_turn.specs.declared.parts.Parts.{Parts}
use Rattle.nova_turn.proofs.Going.{goes_deed, stayed_with, went_on}
use Rattle.nova_turn.proofs.Ongoing.{IsDecided}
use Rattle.nova_turn.proofs.Reached.{entered-steps, entered-written, room-there}
use Rattle.nova_turn.proofs.parts.Parts.go_on.Goals as goal

pub returns-then-not-is_executing-clause-stayed : goal.returns-then-not-is_executing-clause-stayed
returns-then-not-is_executing-clause-stayed c = λ raised is.
    let p = c.args.self.now in
    subst (λ (o : Option Raised). Stays p p c.args.ec o) (stayed_with None raised is) (record {
      raised = sym c.is_executing.ensures ∙ c.if-not-is_executing.true;
      state = refl;
      log = refl;
    })

pub returns-in-Next-clause-went : goal.returns-in-Next-clause-went
returns-in-Next-clause-went c = λ went.
    let k : KernelState = state_of c.args.self.now in
    let law = c.running_revokes_are_their_runners.ensures in
    let next : is_executing (context k c.args.ec) ≡ true = sym c.is_executing.ensures ∙ c.if-not-is_executing.false in
    let steps = entered-steps k c.enter.new.self c.args.ec c.step.new.self c.step.new.bus c.step.result c.enter.ensures.entered c.enter.ensures.state c.step.ensures in
    let decided : IsDecided k c.args.ec Steps = record {
      there = c.requires.there;
      is = goes_deed k c.args.ec next (sym c.in-Next.is ∙ steps.0);
      all = law.all k c.args.ec c.requires.counted.kept c.requires.acts;
      begins = law.begins k c.args.ec;
    } in
    went_on c.args.self.now _ c.args.ec decided c.requires.counted c.requires.acts c.requires.queued c.requires.running steps.1
    (entered-written k c.enter.new.self c.args.ec c.step.new.self c.step.new.bus c.step.result c.enter.ensures.entered c.enter.ensures.state
    c.enter.ensures.written c.step.ensures)
    c.enter.ensures.queues c.enter.ensures.revokes

pub returns-in-Raise-clause-stayed : goal.returns-in-Raise-clause-stayed
returns-in-Raise-clause-stayed c = λ raised is.
    let p = c.args.self.now in
    let k : KernelState = state_of p in
    let q : Parts = record c.enter.new.self { contexts = c.step.new.self; reach = c.step.new.bus } in
    let r : Raised = record { reason = c.in-Raise.reason; q0 = c.in-Raise.q0; q1 = c.in-Raise.q1 } in
    let steps = entered-steps k c.enter.new.self c.args.ec c.step.new.self c.step.new.bus c.step.result c.enter.ensures.entered c.enter.ensures.state c.step.ensures in
    let stays : Stays p q c.args.ec (Some r) = record {
      raised = (sym c.is_executing.ensures ∙ c.if-not-is_executing.false, sym c.in-Raise.is ∙ steps.0);
      state = raise-stays k (state_of q) c.args.ec c.in-Raise.reason c.in-Raise.q0 c.in-Raise.q1 (sym steps.0 ∙ c.in-Raise.is) steps.1;
      log = room-there c.enter.new.self.contexts c.step.new.self c.args.ec c.enter.new.self.reach c.step.new.bus c.step.result _ c.step.ensures c.in-Raise.reason
          c.in-Raise.q0 c.in-Raise.q1 c.in-Raise.is
          ∙ c.enter.ensures.log;
    } in
    subst (λ (o : Option Raised). Stays p q c.args.ec o) (stayed_with (Some r) raised is) stays
