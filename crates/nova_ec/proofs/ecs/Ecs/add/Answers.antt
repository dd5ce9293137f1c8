use Rattle.std.proofs.Common.{List, ap, subst, sym, arith, length, ◌≡◌, ◌∙◌, ◌++◌, ◌∷◌, []}
use Rattle.std.specs.Prelude.{IfSome}
use Rattle.nova_model.specs.State.{Contexts}
use Rattle.nova_model.specs.Edges.{AreEdges, AreCallers}
use Rattle.nova_ec.specs.Tables.{EcTable, IsNumbered, IsServing, AreNumbered}
use Rattle.nova_ec.specs.Waiting.{AreKnown}
use Rattle.nova_ec.specs.declared.waiters.Waiters.{Waiters}
use Rattle.nova_ec.specs.declared.waiters.Waiters.TheVariants.{Nobody}
use Rattle.nova_ec.proofs.Callers.{callers_more}
use Rattle.nova_ec.proofs.Tables.{edges_more, numbered_more}
use Rattle.nova_ec.proofs.Waiting.{known_more, length-both}
use Rattle.nova_ec.proofs.ecs.Ecs.add.Goals as goal

pub invariant_of-self : goal.invariant_of-self
invariant_of-self c =
    let o = c.self.inside in
    let items : c.push_reserved.new.self.items ≡ o.items.items ++ c.args.ec ∷ [] = c.push_reserved.ensures.items in
    let waiters : c.push_reserved-2.new.self.items ≡ o.waiters.items ++ Nobody ∷ [] = c.push_reserved-2.ensures.items in (
      subst (λ (cs : Contexts). AreEdges cs) (sym c.push_reserved.ensures.items) (edges_more c.self.inside.items.items c.args.ec c.self.invariant.0 c.requires.edge),
      omega arith,
      subst (λ (cs : Contexts). AreNumbered cs) (sym c.push_reserved.ensures.items)
          (numbered_more c.self.inside.items.items c.args.ec c.self.invariant.2
          (subst (λ (t : EcTable). IsNumbered (length t.items) c.args.ec) (sym c.self.view_is) c.requires.number)),
      subst (λ (cs : Contexts). AreCallers cs) (sym c.push_reserved.ensures.items)
          (callers_more c.self.inside.items.items c.args.ec c.self.invariant.3
          (subst (λ (t : EcTable). IfSome c.args.ec (λ x. IsServing t.items x.cpu x.caller)) (sym c.self.view_is) c.requires.caller)),
      omega arith,
      ap (λ (all : List Waiters). length all) waiters ∙ length-both o.items.items o.waiters.items c.args.ec c.self.invariant.5 ∙ sym (ap (λ (cs : Contexts). length cs) items),
      subst (λ (cs : Contexts). AreKnown cs c.push_reserved-2.new.self.items) (sym items)
          (subst (λ (all : List Waiters). AreKnown (o.items.items ++ c.args.ec ∷ []) all) (sym waiters)
          (known_more o.items.items o.waiters.items c.args.ec c.self.invariant.0 c.self.invariant.5 c.requires.edge c.self.invariant.6)),
    )
