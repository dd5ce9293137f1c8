use Rattle.std.proofs.Common.{◌≡◌, refl, ap, sym, ◌∙◌, subst}
use Rattle.std.specs.Prelude.{Option, IsSome, IfSome}
use Rattle.nova_model.specs.Deeds.{removes}
use Rattle.nova_model.specs.Revokes.{Revocation, next_leaf}
use Rattle.nova_model.specs.State.{KernelState}
use Rattle.nova_model.specs.declared.context.EcState.{EcState}
use Rattle.nova_turn.specs.Parts.{state_of}
use Rattle.nova_deeds.proofs.Steps.{recall-deed}
use Rattle.nova_turn.proofs.Foreseen.{revoking_deed}
use Rattle.nova_turn.proofs.Ongoing.{revoke_found}
use Rattle.nova_turn.proofs.parts.Parts.decide_in_state.Goals as goal

pub returns-in-Ready-clause-deed : goal.returns-in-Ready-clause-deed
returns-in-Ready-clause-deed c =
    sym (recall-deed (state_of c.args.self.now) c.args.ec c.requires.next (ap (λ (x : EcState). x.state) (sym c.context-context.ensures.context) ∙ c.in-Ready.is))

pub leaf_deed-requires : goal.leaf_deed-requires
leaf_deed-requires c =
    let state = ap (λ (x : EcState). x.state) (sym c.context-context.ensures.context) ∙ c.in-Revoking.is in
    let found = revoke_found (state_of c.args.self.now) c.args.self.now.revokes c.args.ec c.in-Revoking.field-0 c.in-Revoking.field-1 c.requires.running state in
    record { there = subst (λ (o : Option Revocation). IsSome o) (sym found) refl }

pub returns-in-Revoking-clause-deed : goal.returns-in-Revoking-clause-deed
returns-in-Revoking-clause-deed c =
    let k : KernelState = state_of c.args.self.now in
    let state = ap (λ (x : EcState). x.state) (sym c.context-context.ensures.context) ∙ c.in-Revoking.is in
    let found = revoke_found k c.args.self.now.revokes c.args.ec c.in-Revoking.field-0 c.in-Revoking.field-1 c.requires.running state in
    subst (λ (o : Option Revocation). IfSome o (λ revoke. c.leaf_deed.result ≡ removes (next_leaf revoke k.delegations))) found c.leaf_deed.ensures.deed
    ∙ sym (revoking_deed k c.args.ec c.in-Revoking.field-0 c.in-Revoking.field-1 state)

pub returns-in-Revoking-clause-fits : goal.returns-in-Revoking-clause-fits
returns-in-Revoking-clause-fits c = c.leaf_deed.ensures.fits (state_of c.args.self.now) c.args.ec refl
