use Rattle.std.proofs.Common.{rules, arith, ◌≡◌, ◌∙◌, List, ap, sym, subst, ◌==◌}
use Rattle.std.specs.Prelude.{map, Some, None}
use Rattle.std.proofs.lemmas.Bool.{eqb-true}
use Rattle.nova_model.specs.Delegations.{Delegations, without, with_id}
use Rattle.nova_model.specs.Forest.{IsChildless}
use Rattle.nova_model.specs.declared.delegation.Derivation.{Derivation}
use Rattle.law_forest.proofs.Members.{found_in}
use Rattle.nova_nodes.specs.Links.{LinkedState}
use Rattle.nova_nodes.specs.Spaces.{IsIndexed, shown_room}
use Rattle.nova_nodes.specs.NodesStates.{IsSound}
use Rattle.nova_nodes.proofs.Joined.{indexed_less}
use Rattle.nova_nodes.proofs.Kept.{nothing_goes, sound_without}
use Rattle.nova_nodes.proofs.Rooms.{shown_more, total_same}
use Rattle.nova_nodes.specs.Trails.{IsTrail}
use Rattle.nova_nodes.proofs.Ways.{trail_less}
use Rattle.nova_nodes.proofs.nodes.Nodes.remove_leaf.Goals as goal

pub returns-in_default-clause-removed : goal.returns-in_default-clause-removed
returns-in_default-clause-removed g c =
    let none : with_id c.args.self.now.delegations.list c.args.id ≡ None = search rules in
    sym (nothing_goes c.args.self.now.delegations c.args.id none)

pub invariant_of-self : goal.invariant_of-self
invariant_of-self g c =
    let list = c.self.inside.list.list in
    let f : Delegations = record { list = list; next = c.self.inside.next } in
    let d = c.in-Some.d in
    let left : c.remove-2.new.self.list ≡ (without f c.args.id).list = ap (λ (l : LinkedState). l.list) c.remove-2.ensures in
    let seen : c.args.self.now.delegations.list ≡ list = search rules in
    let found : with_id list c.args.id ≡ Some d = search rules in
    let there = found_in (λ (a : Derivation). a.id == c.args.id) list d found in
    let id : d.id ≡ c.args.id = eqb-true d.id c.args.id there.1 in
    let sound = sound_without f c.args.id c.self.invariant.0 (subst (λ (ds : List Derivation). IsChildless ds c.args.id) seen c.requires.childless) in
    let indexed = indexed_less c.self.inside.spaces c.remove.new.self f d c.self.invariant.0.forest there.0 c.self.invariant.1.0 c.remove.ensures.here c.remove.ensures.others in
    let trail = subst (λ (ds : List Derivation). IsTrail (record { list = ds; next = c.self.inside.next }) c.self.inside.trail) (sym left)
    (trail_less f c.args.id c.self.inside.trail c.self.invariant.0.forest (subst (λ (ds : List Derivation). IsChildless ds c.args.id) seen c.requires.childless) c.self.invariant.1.1.1.1) in
    let total = total_same c.self.inside.spaces c.remove.new.self c.remove.ensures.rooms in
    let room = c.self.invariant.1.1.0 in
    let spare : c.remove-2.new.self.spare ≡ c.self.inside.list.spare = search rules in
    let same : c.remove-2.new.self.list ≡ (without f d.id).list = left ∙ ap (λ n. (without f n).list) (sym id) in (
      subst (λ (ds : List Derivation). IsSound (record { list = ds; next = c.self.inside.next })) (sym left) sound,
      (subst (λ (ds : List Derivation). IsIndexed c.remove.new.self ds) (sym same) indexed, (omega arith, (omega arith, trail))),
    )

pub returns-clause-removed : goal.returns-clause-removed
returns-clause-removed g c =
    let list = c.self.inside.list.list in
    let left : c.remove-2.new.self.list ≡ (without (record { list = list; next = c.self.inside.next }) c.args.id).list = ap (λ (l : LinkedState). l.list) c.remove-2.ensures in
    let seen : c.args.self.now.delegations ≡ record { list = list; next = c.self.inside.next } = search rules in
    ap (λ (ds : List Derivation). record { list = ds; next = c.self.inside.next }) left ∙ ap (λ (f : Delegations). without f c.args.id) (sym seen)

pub returns-clause-rooms : goal.returns-clause-rooms
returns-clause-rooms g c = λ other.
    let seen : c.args.self.now.rooms ≡ map shown_room c.self.inside.spaces = search rules in
    let same = c.remove.ensures.rooms other in
    shown_more c.args.self.now.rooms c.self.inside.spaces c.remove.new.self other seen (omega arith)
