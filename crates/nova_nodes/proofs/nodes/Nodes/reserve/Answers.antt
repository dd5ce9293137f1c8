use Rattle.std.proofs.Common.{rules, arith, ◌≡◌, ◌<◌, ◌+◌, ◌-◌, List, subst, sym}
use Rattle.std.specs.Prelude.{map, max}
use Rattle.nova_model.specs.declared.delegation.Derivation.{Derivation}
use Rattle.nova_nodes.specs.Spaces.{IsIndexed, shown_room, room_at}
use Rattle.nova_nodes.specs.NodesStates.{IsSound}
use Rattle.nova_nodes.proofs.Indexed.{indexed_same}
use Rattle.nova_nodes.proofs.Rooms.{on_err, shown_at, shown_is, shown_all, shown_same, total_changed}
use Rattle.nova_nodes.specs.Trails.{IsTrail}
use Rattle.nova_nodes.proofs.nodes.Nodes.reserve.Goals as goal

pub invariant_of-self-in_err-reserve-2 : goal.invariant_of-self-in_err-reserve-2
invariant_of-self-in_err-reserve-2 g c =
    let items : c.reserve.new.self.list ≡ c.self.inside.list.list = search rules in
    let trail = subst (λ (ds : List Derivation). IsTrail (record { list = ds; next = c.self.inside.next }) c.self.inside.trail) (sym items) c.self.invariant.1.1.1.1 in
    let indexed = indexed_same c.self.inside.spaces c.reserve-2.new.self c.self.inside.list.list c.reserve-2.ensures.entries c.self.invariant.1.0 in
    let total = total_changed c.self.inside.spaces c.reserve-2.new.self c.args.pd c.reserve-2.ensures.others in
    let same : room_at c.reserve-2.new.self c.args.pd ≡ room_at c.self.inside.spaces c.args.pd = search rules in
    let kept : c.reserve.new.self.spare ≡ max c.self.inside.list.spare c.in_ok-spare.spare = search rules in
    let room = c.self.invariant.1.1.0 in (
      subst (λ (ds : List Derivation). IsSound (record { list = ds; next = c.self.inside.next })) (sym items) c.self.invariant.0,
      (subst (λ (ds : List Derivation). IsIndexed c.reserve-2.new.self ds) (sym items) indexed, (omega arith, (omega arith, trail))),
    )

pub returns-in_err-reserve-2-clause-enough : goal.returns-in_err-reserve-2-clause-enough
returns-in_err-reserve-2-clause-enough g c = λ enough.
    let seen : c.args.self.now.rooms ≡ map shown_room c.self.inside.spaces = search rules in
    let at = shown_at c.args.self.now.rooms c.self.inside.spaces c.args.pd seen in
    let room : c.room-room.result ≡ room_at c.self.inside.spaces c.args.pd = search rules in
    let more : c.room-room.result < c.args.n = search rules in
    absurd (omega arith)

pub returns-in_err-reserve-2-clause-rooms : goal.returns-in_err-reserve-2-clause-rooms
returns-in_err-reserve-2-clause-rooms g c =
    let seen : c.args.self.now.rooms ≡ map shown_room c.self.inside.spaces = search rules in
    let same : room_at c.reserve-2.new.self c.args.pd ≡ room_at c.self.inside.spaces c.args.pd = search rules in
    shown_all c.args.self.now.rooms c.self.inside.spaces c.reserve-2.new.self c.args.pd seen (omega arith) c.reserve-2.ensures.others

pub returns-in_err-reserve-2-clause-err : goal.returns-in_err-reserve-2-clause-err
returns-in_err-reserve-2-clause-err g c =
    let seen : c.args.self.now.rooms ≡ map shown_room c.self.inside.spaces = search rules in
    let same : room_at c.reserve-2.new.self c.args.pd ≡ room_at c.self.inside.spaces c.args.pd = search rules in
    on_err c.from_residual-in_err-reserve-2.result (shown_same c.args.self.now.rooms c.self.inside.spaces c.reserve-2.new.self c.args.pd seen same c.reserve-2.ensures.others)

pub invariant_of-self-2 : goal.invariant_of-self-2
invariant_of-self-2 g c =
    let items : c.reserve.new.self.list ≡ c.self.inside.list.list = search rules in
    let trail = subst (λ (ds : List Derivation). IsTrail (record { list = ds; next = c.self.inside.next }) c.self.inside.trail) (sym items) c.self.invariant.1.1.1.1 in
    let indexed = indexed_same c.self.inside.spaces c.reserve-2.new.self c.self.inside.list.list c.reserve-2.ensures.entries c.self.invariant.1.0 in
    let total = total_changed c.self.inside.spaces c.reserve-2.new.self c.args.pd c.reserve-2.ensures.others in
    let room : c.room-room.result ≡ room_at c.self.inside.spaces c.args.pd = search rules in
    let less : c.room-room.result < c.args.n = search rules in
    let then : room_at c.reserve-2.new.self c.args.pd ≡ max (room_at c.self.inside.spaces c.args.pd) c.args.n = search rules in
    let spare : c.in_ok-spare.spare ≡ c.self.inside.spare + (c.args.n - c.room-room.result) = search rules in
    let fits : c.reserve.new.self.spare ≡ max c.self.inside.list.spare c.in_ok-spare.spare = search rules in
    let before = c.self.invariant.1.1.0 in (
      subst (λ (ds : List Derivation). IsSound (record { list = ds; next = c.self.inside.next })) (sym items) c.self.invariant.0,
      (subst (λ (ds : List Derivation). IsIndexed c.reserve-2.new.self ds) (sym items) indexed, (omega arith, (omega arith, trail))),
    )

pub returns-clause-ok : goal.returns-clause-ok
returns-clause-ok g c =
    let after = shown_is c.reserve-2.new.self c.args.pd in
    let then : room_at c.reserve-2.new.self c.args.pd ≡ max (room_at c.self.inside.spaces c.args.pd) c.args.n = search rules in
    omega arith

pub returns-clause-rooms : goal.returns-clause-rooms
returns-clause-rooms g c =
    let seen : c.args.self.now.rooms ≡ map shown_room c.self.inside.spaces = search rules in
    let then : room_at c.reserve-2.new.self c.args.pd ≡ max (room_at c.self.inside.spaces c.args.pd) c.args.n = search rules in
    shown_all c.args.self.now.rooms c.self.inside.spaces c.reserve-2.new.self c.args.pd seen (omega arith) c.reserve-2.ensures.others
