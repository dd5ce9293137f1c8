use Rattle.std.proofs.Common.{rules, ◌≡◌, ◌+◌, Some, None, length, vec_len, sym, subst, ap, ◌∙◌, arith, ◌-◌, slice_set}
use Rattle.std.specs.List.{last_or}
use Rattle.nova_order.specs.Blocks.{IsOrder, total, grown}
use Rattle.nova_order.proofs.BlockLemmas.{last_is, order_grown, total_grown, grown_is}
use Rattle.nova_order.proofs.order.Order.grow.Goals as goal

pub invariant_of-self : goal.invariant_of-self
invariant_of-self c =
    let was = c.self.inside.blocks in
    let last = c.in-Some.last.now in
    let len : vec_len was ≡ length was.items = was.ok.0 in
    let is : last_or None was.items ≡ Some last = last_is was.items (vec_len was) last len (search rules) c.in-Some.ensures.value in
    let place = ap (λ n. slice_set was.items (n - 1) (record { cpu = last.cpu; count = last.count + c.args.count })) (sym len) in (
      subst IsOrder place (order_grown was.items last c.args.count is c.self.invariant.0 (search rules)),
      omega (arith, total_grown was.items last c.args.count is, ap total place, c.self.invariant.1),
      c.self.invariant.2,
    )

pub returns-in-Some-clause-grown : goal.returns-in-Some-clause-grown
returns-in-Some-clause-grown c =
    let was = c.self.inside.blocks in
    let last = c.in-Some.last.now in
    let len : vec_len was ≡ length was.items = was.ok.0 in
    let is : last_or None was.items ≡ Some last = last_is was.items (vec_len was) last len (search rules) c.in-Some.ensures.value in
    grown_is was.items c.self.inside.spare (vec_len was) c.args.count last len is ∙ ap (λ list. grown (last_or None list.blocks) c.args.count list) c.self.view_is

pub returns-in-Some-clause-order : goal.returns-in-Some-clause-order
returns-in-Some-clause-order c = (invariant_of-self c).0
