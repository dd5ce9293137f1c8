use Rattle.std.proofs.Common.{rules, arith, ◌≡◌, ◌∙◌, ◌+◌, ◌∷◌, ℕ, ap, sym, subst, filter, length, Some, None}
use Rattle.std.specs.List.{find}
use Rattle.nova_model.specs.Delegations.{from_id, is_from}
use Rattle.nova_model.specs.Forest.{IsForest}
use Rattle.nova_nodes.proofs.Rising.{found_first, found_none, from_0, least_found}
use Rattle.nova_memory.specs.Reach.{ReachState}
use Rattle.nova_memory.proofs.Seen.{all_left, is_joined, none_left, one_further}
use Rattle.nova_memory.proofs.reach.Reach.viewers_of.Goals as goal

pub loop-d-init : goal.loop-d-init
loop-d-init c =
    let list = c.args.self.now.nodes.delegations.list in
    all_left list (filter (is_from 0) list) c.args.frame c.new-viewers.result c.new-viewers.ensures (from_0 list)

pub loop-d-smaller : goal.loop-d-smaller
loop-d-smaller c =
    let f = c.args.self.now.nodes.delegations in
    let forest : IsForest f = subst (λ (r : ReachState). IsForest r.nodes.delegations) c.self.view_is c.in-Some.ensures.sound.forest in
    let least : from_id f.list c.loop-d.id ≡ Some c.in-Some.d = search rules in
    let is : find (is_from c.loop-d.id) f.list ≡ Some c.in-Some.d = sym (least_found c.loop-d.id f.list forest.rising) ∙ least in
    let next : c.in_ok-next.next ≡ c.in-Some.d.id + 1 = search rules in
    let first = ap length (found_first c.loop-d.id f.list c.in-Some.d forest.rising is ∙ ap (λ (n : ℕ). c.in-Some.d ∷ filter (is_from n) f.list) (sym next)) in
    omega (arith, first)

pub loop-d-preserved : goal.loop-d-preserved
loop-d-preserved c =
    let f = c.args.self.now.nodes.delegations in
    let forest : IsForest f = subst (λ (r : ReachState). IsForest r.nodes.delegations) c.self.view_is c.in-Some.ensures.sound.forest in
    let least : from_id f.list c.loop-d.id ≡ Some c.in-Some.d = search rules in
    let is : find (is_from c.loop-d.id) f.list ≡ Some c.in-Some.d = sym (least_found c.loop-d.id f.list forest.rising) ∙ least in
    let next : c.in_ok-next.next ≡ c.in-Some.d.id + 1 = search rules in
    one_further f.list (filter (is_from c.loop-d.id) f.list) (filter (is_from c.in_ok-next.next) f.list) c.args.frame c.loop-d.viewers c.join.new.viewers c.in-Some.d
    c.loop-d.invariant (found_first c.loop-d.id f.list c.in-Some.d forest.rising is ∙ ap (λ (n : ℕ). c.in-Some.d ∷ filter (is_from n) f.list) (sym next))
    (is_joined _ c.join.result c.join.ensures c.if-not-join.false)

pub returns : goal.returns
returns c =
    let f = c.args.self.now.nodes.delegations in
    let forest : IsForest f = subst (λ (r : ReachState). IsForest r.nodes.delegations) c.self.view_is c.from_id.ensures.sound.forest in
    let least : from_id f.list c.loop-d.id ≡ None = search rules in
    let is : find (is_from c.loop-d.id) f.list ≡ None = sym (least_found c.loop-d.id f.list forest.rising) ∙ least in
    none_left f.list (filter (is_from c.loop-d.id) f.list) c.args.frame c.loop-d.viewers c.loop-d.invariant (found_none c.loop-d.id f.list is)
