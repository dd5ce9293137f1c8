use Rattle.std.proofs.Common.{rules, arith, ◌≡◌, List, Option, subst, sym, ap, ◌∙◌, IsSome}
use Rattle.std.specs.Prelude.{map, slice_get, IfSome}
use Rattle.nova_model.specs.declared.delegation.Derivation.{Derivation}
use Rattle.nova_nodes.specs.Spaces.{SpaceState, IsIndexed, roomless, shown_room, total_room}
use Rattle.nova_nodes.specs.NodesStates.{IsSound}
use Rattle.nova_nodes.proofs.Copies.{entries_roomless, total_roomless, there_roomless}
use Rattle.nova_nodes.proofs.Indexed.{indexed_same}
use Rattle.nova_nodes.specs.Trails.{IsTrail}
use Rattle.nova_nodes.proofs.nodes.Nodes.copy.Goals as goal

pub invariant_of-result : goal.invariant_of-result
invariant_of-result g c =
    let items : c.in_ok-list.list.list ≡ c.self.inside.list.list = search rules in
    let spaces : c.in_ok-spaces.spaces ≡ map roomless c.self.inside.spaces = search rules in
    let indexed = indexed_same c.self.inside.spaces (map roomless c.self.inside.spaces) c.self.inside.list.list (entries_roomless c.self.inside.spaces) c.self.invariant.1.0 in
    let trail = subst (λ (ds : List Derivation). IsTrail (record { list = ds; next = c.self.inside.next }) c.self.inside.trail) (sym items) c.self.invariant.1.1.1.1 in
    let none : total_room c.in_ok-spaces.spaces ≡ 0 = ap total_room spaces ∙ total_roomless c.self.inside.spaces in
    let fits : c.in_ok-list.list.spare ≡ 0 = search rules in (
      subst (λ (ds : List Derivation). IsSound (record { list = ds; next = c.self.inside.next })) (sym items) c.self.invariant.0,
      (
        subst (λ (ds : List Derivation). IsIndexed c.in_ok-spaces.spaces ds) (sym items)
            (subst (λ (s : List (Option SpaceState)). IsIndexed s c.self.inside.list.list) (sym spaces) indexed),
        (omega arith, (omega arith, trail)),
      ),
    )

pub returns-clause-spaces : goal.returns-clause-spaces
returns-clause-spaces g c = λ pd there.
    let seen : c.args.self.now.rooms ≡ map shown_room c.self.inside.spaces = search rules in
    let spaces : c.in_ok-spaces.spaces ≡ map roomless c.self.inside.spaces = search rules in
    subst (λ (s : List (Option SpaceState)). IfSome (slice_get (map shown_room s) pd) IsSome) (sym spaces)
    (there_roomless c.self.inside.spaces pd (subst (λ rs. IfSome (slice_get rs pd) IsSome) seen there))
