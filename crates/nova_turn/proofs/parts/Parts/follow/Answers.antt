use Rattle.std.proofs.Common.{ap, sym, ◌∙◌}
use Rattle.nova_model.specs.Deeds.{after_item, followed, with_context}
use Rattle.nova_model.specs.State.{Contexts, KernelState, context}
use Rattle.nova_model.specs.declared.transfer.Sequel.{Sequel}
use Rattle.nova_ec.proofs.Steps.{with_ec-same}
use Rattle.nova_turn.specs.Parts.{state_of}
use Rattle.nova_choice.proofs.Waits.{there_at}
use Rattle.nova_turn.proofs.parts.Parts.follow.Goals as goal

pub returns-in-Item-clause-followed : goal.returns-in-Item-clause-followed
returns-in-Item-clause-followed c =
    let k : KernelState = state_of c.args.self.now in
    sym
    (ap (λ (s : Sequel). followed (with_context k c.args.ec (after_item (context k c.args.ec) s)) c.args.ec s) c.in-Item.is
    ∙ ap (λ (cs : Contexts). record k { contexts = cs }) (with_ec-same k.contexts c.args.ec (context k c.args.ec) (there_at k.contexts c.args.ec c.requires.there)))
