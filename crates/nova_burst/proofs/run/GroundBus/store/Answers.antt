use Rattle.std.proofs.Common.{◌≡◌, ap, sym, ◌∙◌, subst}
use Rattle.std.specs.Prelude.{Some}
use Rattle.rv_model.specs.Step.{Store}
use Rattle.nova_burst.specs.Copies.{CopiesState, put_at}
use Rattle.nova_burst.specs.Grounds.{AreRead}
use Rattle.nova_burst.proofs.Grounded.{is_store, stored}
use Rattle.nova_burst.proofs.run.GroundBus.store.Goals as goal

pub invariant_of-self : goal.invariant_of-self
invariant_of-self c =
    let s = c.self.inside.copies in
    let store : Store = record { address = c.args.addr; width = c.args.width; value = c.args.value } in
    let went : c.store_at.new.self ≡ put_at s store (Some c.in-Some.frame) = c.in-Some.ensures.taken ∙ ap (put_at s store) c.in-Some.ensures.frame in
    subst (λ (d : CopiesState). AreRead d c.forget.new.slots) (sym went)
    (stored s c.self.inside.slots c.forget.new.slots c.in-Some.frame c.args.addr c.args.width c.args.value c.self.invariant
    (is_store c.args.addr c.args.width c.requires.width c.requires.aligned) c.forget.ensures)
