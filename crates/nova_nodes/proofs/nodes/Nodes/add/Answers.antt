use Rattle.std.proofs.Common.{rules, arith, ◌≡◌, ◌+◌, ◌-◌, ◌∙◌, List, [], ◌∷◌, ◌++◌, ap, subst, sym}
use Rattle.std.specs.Prelude.{map, Some}
use Rattle.nova_model.specs.Delegations.{Delegations, derived, with_id}
use Rattle.nova_model.specs.Forest.{IsFitting}
use Rattle.nova_model.specs.declared.delegation.Derivation.{Derivation}
use Rattle.law_forest.proofs.Forests.{forest_add}
use Rattle.nova_nodes.specs.Spaces.{IsIndexed, shown_room}
use Rattle.nova_nodes.specs.NodesStates.{IsPlaced, IsSound}
use Rattle.nova_nodes.proofs.Found.{with_its_id}
use Rattle.nova_nodes.proofs.Indexed.{entries_apart, last_in}
use Rattle.nova_nodes.proofs.Joined.{indexed_more}
use Rattle.nova_nodes.proofs.Kept.{sound_added}
use Rattle.nova_nodes.proofs.Members.{next_childless, parent_there}
use Rattle.nova_nodes.proofs.Rooms.{shown_at, shown_more, shown_less, room_within, total_changed}
use Rattle.nova_nodes.proofs.Ways.{trail_more}
use Rattle.nova_nodes.proofs.nodes.Nodes.add.Goals as goal

pub push-requires-clause-room : goal.push-requires-clause-room
push-requires-clause-room g c =
    let seen : c.args.self.now.rooms ≡ map shown_room c.self.inside.spaces = search rules in
    let at = shown_at c.args.self.now.rooms c.self.inside.spaces c.args.pd seen in
    let within = room_within c.self.inside.spaces c.args.pd in
    let some = c.requires.room in
    let room = c.self.invariant.1.1.0 in
    omega arith

pub push-requires-clause-childless : goal.push-requires-clause-childless
push-requires-clause-childless g c =
    let f : Delegations = record { list = c.self.inside.list.list; next = c.self.inside.next } in
    next_childless f c.self.invariant.0.forest

pub push-requires-clause-parent : goal.push-requires-clause-parent
push-requires-clause-parent g c =
    let f : Delegations = record { list = c.self.inside.list.list; next = c.self.inside.next } in
    let seen : c.args.self.now.delegations ≡ f = search rules in
    let x = derived f.next c.args.parent c.args.pd c.args.range c.args.rights c.args.target in
    let fits = subst (λ (d : Delegations). IsFitting d (derived d.next c.args.parent c.args.pd c.args.range c.args.rights c.args.target)) seen c.requires.fits in
    parent_there f x c.args.parent c.self.invariant.0.forest fits.parent

pub insert-requires-clause-room : goal.insert-requires-clause-room
insert-requires-clause-room g c =
    let seen : c.args.self.now.rooms ≡ map shown_room c.self.inside.spaces = search rules in
    let at = shown_at c.args.self.now.rooms c.self.inside.spaces c.args.pd seen in
    let some = c.requires.room in
    omega arith

pub insert-requires-clause-apart : goal.insert-requires-clause-apart
insert-requires-clause-apart g c =
    let f : Delegations = record { list = c.self.inside.list.list; next = c.self.inside.next } in
    let seen : c.args.self.now.delegations ≡ f = search rules in
    let fits = subst (λ (d : Delegations). IsFitting d (derived d.next c.args.parent c.args.pd c.args.range c.args.rights c.args.target)) seen c.requires.fits in
    entries_apart c.self.inside.spaces f.list (derived f.next c.args.parent c.args.pd c.args.range c.args.rights c.args.target) c.self.invariant.1.0 fits.apart

pub overflow_sub-self : goal.overflow_sub-self
overflow_sub-self g c =
    let seen : c.args.self.now.rooms ≡ map shown_room c.self.inside.spaces = search rules in
    let at = shown_at c.args.self.now.rooms c.self.inside.spaces c.args.pd seen in
    let within = room_within c.self.inside.spaces c.args.pd in
    let some = c.requires.room in
    let room = c.self.invariant.1.1.0 in
    omega arith

pub invariant_of-self : goal.invariant_of-self
invariant_of-self g c =
    let f : Delegations = record { list = c.self.inside.list.list; next = c.self.inside.next } in
    let x = derived f.next c.args.parent c.args.pd c.args.range c.args.rights c.args.target in
    let seen : c.args.self.now.delegations ≡ f = search rules in
    let fits = subst (λ (d : Delegations). IsFitting d (derived d.next c.args.parent c.args.pd c.args.range c.args.rights c.args.target)) seen c.requires.fits in
    let placed = subst (λ (d : Delegations). IsPlaced (derived d.next c.args.parent c.args.pd c.args.range c.args.rights c.args.target)) seen c.requires.placed in
    let sound = sound_added f x c.self.invariant.0 fits placed in
    let total = total_changed c.self.inside.spaces c.insert.new.self c.args.pd c.insert.ensures.rooms in
    let one = c.insert.ensures.room in
    let room = c.self.invariant.1.1.0 in
    let items : c.push.new.self.list ≡ f.list ++ x ∷ [] = search rules in
    let left : c.push.new.self.spare ≡ c.self.inside.list.spare - 1 = search rules in
    let indexed = indexed_more c.self.inside.spaces c.insert.new.self f.list x c.self.invariant.1.0 c.insert.ensures.here c.insert.ensures.others in (
      subst (λ (ds : List Derivation). IsSound (record { list = ds; next = c.self.inside.next + 1 })) (sym items) sound,
      (subst (λ (ds : List Derivation). IsIndexed c.insert.new.self ds) (sym items) indexed, (omega arith, (omega arith, trail_more c.self.inside.next c.self.inside.list.list c.push.new.self.list c.self.inside.trail c.self.invariant.1.1.1.1))),
    )

pub returns-clause-room : goal.returns-clause-room
returns-clause-room g c =
    let seen : c.args.self.now.rooms ≡ map shown_room c.self.inside.spaces = search rules in
    let one = c.insert.ensures.room in
    shown_less c.args.self.now.rooms c.self.inside.spaces c.insert.new.self c.args.pd seen (omega arith)

pub returns-clause-others : goal.returns-clause-others
returns-clause-others g c = λ other off.
    let seen : c.args.self.now.rooms ≡ map shown_room c.self.inside.spaces = search rules in
    let same = c.insert.ensures.rooms other off in
    shown_more c.args.self.now.rooms c.self.inside.spaces c.insert.new.self other seen (omega arith)

pub returns-clause-there : goal.returns-clause-there
returns-clause-there g c =
    let f : Delegations = record { list = c.self.inside.list.list; next = c.self.inside.next } in
    let x = derived f.next c.args.parent c.args.pd c.args.range c.args.rights c.args.target in
    let seen : c.args.self.now.delegations ≡ f = search rules in
    let fits = subst (λ (d : Delegations). IsFitting d (derived d.next c.args.parent c.args.pd c.args.range c.args.rights c.args.target)) seen c.requires.fits in
    let items : c.push.new.self.list ≡ f.list ++ x ∷ [] = search rules in
    let there = with_its_id (f.list ++ x ∷ []) x (forest_add f x c.self.invariant.0.forest fits).rising (last_in f.list x) in
    ap (λ (ds : List Derivation). with_id ds c.self.inside.next) items ∙ there
    ∙ ap (λ (d : Delegations). Some (derived d.next c.args.parent c.args.pd c.args.range c.args.rights c.args.target)) (sym seen)
