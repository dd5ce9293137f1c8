use Rattle.std.proofs.Common.{rules, arith, ◌≡◌, ◌++◌, ◌≤◌, ◌<◌, ◌+◌, ◌^◌, ℕ, List, [], ◌∷◌, filter, length, ap, ◌∙◌, sym, subst, None, Some}
use Rattle.std.specs.List.{All}
use Rattle.std.proofs.lemmas.List.Elements.{All-push}
use Rattle.nova_guest.specs.declared.map.Map.{Map}
use Rattle.nova_range.specs.declared.range.Kind.TheVariants.{Mem}
use Rattle.nova_model.specs.Delegations.{first_from}
use Rattle.nova_model.specs.Forest.{IsForest}
use Rattle.nova_model.specs.Views.{map_of, maps_of}
use Rattle.nova_memory.specs.Reach.{ReachState}
use Rattle.nova_memory.proofs.Views.{all_after_0, ends_after, last_map, next_map, one_map}
use Rattle.nova_memory.proofs.reach.Reach.maps.Goals as goal

pub loop-derivation-init : goal.loop-derivation-init
loop-derivation-init c =
    let all = maps_of c.args.pd c.args.self.now.nodes.delegations.list in
    (ap (λ (items : List Map). items ++ filter (ends_after 0) all) c.new-maps.ensures.items ∙ all_after_0 all, search rules)

pub loop-derivation-smaller : goal.loop-derivation-smaller
loop-derivation-smaller c =
    let f = c.args.self.now.nodes.delegations in
    let d = c.in-Some.derivation in
    let left = λ (place : ℕ). length (filter (ends_after place) (maps_of c.args.pd f.list)) in
    let forest : IsForest f = subst (λ (r : ReachState). IsForest r.nodes.delegations) c.self.view_is c.in-Some.ensures.sound.forest in
    let found : first_from f.list Mem c.args.pd c.loop-derivation.place ≡ Some d = search rules in
    let end : c.end_of-place.result ≡ d.base + 2 ^ d.order = search rules in
    let next = ap length (next_map f c.args.pd c.loop-derivation.place d forest found) in
    subst (λ (place : ℕ). left place < left c.loop-derivation.place) (sym end) (omega (arith, next))

pub loop-derivation-preserved : goal.loop-derivation-preserved
loop-derivation-preserved c =
    let f = c.args.self.now.nodes.delegations in
    let d = c.in-Some.derivation in
    let all = maps_of c.args.pd f.list in
    let before = c.loop-derivation.maps.items in
    let forest : IsForest f = subst (λ (r : ReachState). IsForest r.nodes.delegations) c.self.view_is c.in-Some.ensures.sound.forest in
    let found : first_from f.list Mem c.args.pd c.loop-derivation.place ≡ Some d = search rules in
    let pushed : c.push.new.self.items ≡ before ++ map_of d ∷ [] = search rules in
    let end : c.end_of-place.result ≡ d.base + 2 ^ d.order = search rules in
    let order : d.order ≤ 20 = search rules in (
      ap (λ (items : List Map). items ++ filter (ends_after c.end_of-place.result) all) pushed
          ∙ ap (λ (place : ℕ). (before ++ map_of d ∷ []) ++ filter (ends_after place) all) end
          ∙ one_map f c.args.pd c.loop-derivation.place forest before c.loop-derivation.invariant.0 d found,
      subst (λ (items : List Map). All (λ m. m.order ≤ 20) items) (sym pushed)
          (All-push (λ (m : Map). m.order ≤ 20) before (map_of d) c.loop-derivation.invariant.1 order),
    )

pub returns-clause-maps : goal.returns-clause-maps
returns-clause-maps c =
    let f = c.args.self.now.nodes.delegations in
    let forest : IsForest f = subst (λ (r : ReachState). IsForest r.nodes.delegations) c.self.view_is c.first_from.ensures.sound.forest in
    let none : first_from f.list Mem c.args.pd c.loop-derivation.place ≡ None = search rules in
    last_map f c.args.pd c.loop-derivation.place forest c.loop-derivation.maps.items c.loop-derivation.invariant.0 none
