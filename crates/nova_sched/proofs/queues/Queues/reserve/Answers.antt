use Rattle.std.proofs.Common.{rules, arith, ◌≡◌, ◌<◌, ◌+◌, length, map, sym, subst}
use Rattle.std.specs.Prelude.{max, slice_index, slice_index_or}
use Rattle.nova_sched.specs.Queues.{QueuesState}
use Rattle.nova_sched.specs.Lists.{QueueState}
use Rattle.nova_sched.proofs.Changes.{on_ok, room_made, spare_kept, room_stays}
use Rattle.nova_sched.proofs.queues.Queues.reserve.Goals as goal

pub returns-clause-room : goal.returns-clause-room
returns-clause-room c =
    let lt : c.args.cpu < length c.self.inside.queues.items = search rules in
    let reserved : c.max-self-inside.result ≡ max c.self.inside.reserved (c.args.sc + 1) = search rules in
    on_ok c.reserve-2.result c.reserve-2.ensures.ok (λ made. record {
      number = grind (arith, reserved);
      member = room_made c.self.inside.queues.items c.args.cpu c.reserve-2.new.self c.index_mut.result.now lt made;
    })

pub returns-clause-keeps : goal.returns-clause-keeps
returns-clause-keeps c = λ number processor had.
    let reserved : c.max-self-inside.result ≡ max c.self.inside.reserved (c.args.sc + 1) = search rules in
    let is : c.index_mut.result.now ≡ slice_index_or c.self.inside.queues.items c.args.cpu c.index_mut.result.now = c.index_mut.ensures.value in
    let spare = spare_kept c.reserve-2.result c.reserve-2.new.self c.index_mut.result.now c.reserve-2.ensures.ok c.reserve-2.ensures.err in
    let below : number < c.self.inside.reserved = subst (λ (q : QueuesState). number < q.numbers) (sym c.self.view_is) had.number in
    let room : 0 < slice_index (map (λ (x : QueueState). x.spare) c.self.inside.queues.items) processor = subst (λ (q : QueuesState). 0 < slice_index q.rooms processor) (sym c.self.view_is) had.member in record {
      number = grind (arith, reserved, below);
      member = room_stays c.self.inside.queues.items c.args.cpu processor c.reserve-2.new.self c.index_mut.result.now is spare room;
    }
