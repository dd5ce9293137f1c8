use Rattle.std.proofs.Common.{◌≡◌, ℕ, ap, ◌∙◌, sym, rules}
use Rattle.std.specs.Prelude.{Option, Some}
use Rattle.nova_model.specs.Deliveries.{delivery_between}
use Rattle.nova_model.specs.State.{KernelState}
use Rattle.nova_model.specs.declared.transfer.Sequel.TheVariants.{Replied}
use Rattle.nova_turn.specs.Parts.{state_of}
use Rattle.nova_deeds.proofs.Told.{given_to_caller}
use Rattle.nova_turn.proofs.parts.Parts.given_to.Goals as goal

pub returns-clause-given : goal.returns-clause-given
returns-clause-given c =
    let k : KernelState = state_of c.args.self.now in
    let is : c.args.caller ≡ Some (c.in_ok-caller.caller, c.in_ok-caller.mark) = search rules in
    given_to_caller k c.args.ec c.args.item c.in_ok-caller.caller c.in_ok-caller.mark c.delivery_between.result c.requires.there c.keeps_callers.ensures
    (sym c.requires.caller ∙ is) c.delivery_between.ensures.items
    (c.delivery_between.ensures.delivery
    ∙ ap (λ (told : Option ℕ). delivery_between k c.args.ec c.in_ok-caller.caller c.args.item told (Replied c.in_ok-caller.caller c.in_ok-caller.mark)) c.told_by-told.ensures)
