use Rattle.std.proofs.Common.{rules, arith, ◌≡◌, ℕ, ◌≤◌, ◌<◌, ◌+◌, ◌-◌, ◌++◌, [], ◌∷◌, List, length, length-append, refl, sym, subst, ◌∙◌, ap}
use Rattle.std.specs.Prelude.{vec_capacity, map, slice_index, slice_set, Option, Some}
use Rattle.nova_sched.specs.Queues.{Schedule, new_entry, padded}
use Rattle.nova_sched.specs.Precedence.{AreStamped}
use Rattle.nova_sched.specs.Ready.{IsReady}
use Rattle.nova_sched.specs.declared.queued.Queued.{Queued}
use Rattle.nova_sched.proofs.Readies.{ready_added, ready_queue, room_is, spare_is, stamped_cpus}
use Rattle.nova_sched.proofs.Stamps.{stamps_are_given_once}
use Rattle.nova_sched.specs.Lists.{QueueState, members_at}
use Rattle.nova_sched.proofs.Tables.{queue_at, queues_joined}
use Rattle.nova_sched.proofs.queues.Queues.add.Goals as goal

pub invariant_of-self : goal.invariant_of-self
invariant_of-self c =
    let le : length c.self.inside.entries.items ≤ c.args.sc = search rules in
    let lt : c.args.cpu < length c.self.inside.queues.items = search rules in
    let joins : c.add.new.self.members ≡ members_at c.self.inside.queues.items c.args.cpu ++ c.args.sc ∷ [] =
    ap (λ (q : QueueState). q.members) c.add.ensures ∙ ap (λ (l : List ℕ). l ++ c.args.sc ∷ []) (sym (queue_at c.self.inside.queues.items c.args.cpu c.index_mut.result.now lt c.index_mut.ensures.value)) in
    let s : Schedule = record { entries = c.self.inside.entries.items; next_stamp = c.self.inside.next_stamp; cpus = length c.self.inside.queues.items } in
    let before = c.index_mut.result.now in
    let new : Queued = new_entry c.args.cpu c.args.priority c.args.quantum c.self.inside.next_stamp in
    let are = c.self.invariant.1.1 in
    let items : c.push_reserved.new.self.items ≡ padded c.args.sc c.self.inside.entries.items ++ Some new ∷ [] = c.push_reserved.ensures.items ∙ ap (λ (l : List (Option Queued)). l ++ Some new ∷ []) c.pad.ensures.padded in
    let members : c.add.new.self.members ≡ before.members ++ c.args.sc ∷ [] = ap (λ (q : QueueState). q.members) c.add.ensures in
    let count = ap length members in
    let more = length-append before.members (c.args.sc ∷ []) in
    let was = ap length (queue_at c.self.inside.queues.items c.args.cpu before lt c.index_mut.ensures.value) in
    let spare : c.add.new.self.spare ≡ before.spare - 1 = ap (λ (q : QueueState). q.spare) c.add.ensures in
    let had = spare_is c.self.inside.queues.items c.args.cpu before lt c.index_mut.ensures.value in
    let rooms : c.args.self.now.rooms ≡ map (λ (x : QueueState). x.spare) c.self.inside.queues.items = search rules in
    let some = subst (λ (l : List ℕ). 0 < slice_index l c.args.cpu) rooms c.requires.room.member in
    let its_room = room_is c.self.inside.queues.items c.args.cpu before lt c.index_mut.ensures.value in
    let less = are.room c.args.cpu in
    let after : Schedule = record { entries = c.push_reserved.new.self.items; next_stamp = c.self.inside.next_stamp + 1; cpus = length (slice_set c.self.inside.queues.items c.args.cpu c.add.new.self) } in
    let stamped = stamped_cpus (padded c.args.sc c.self.inside.entries.items ++ Some new ∷ []) (c.self.inside.next_stamp + 1) (length c.self.inside.queues.items) (length (slice_set c.self.inside.queues.items c.args.cpu c.add.new.self))
    (stamps_are_given_once.add s c.args.sc c.args.cpu c.args.priority c.args.quantum le are.stamped) in
    let ready = ready_queue c.self.inside.queues.items c.self.inside.readies.items c.self.inside.readies.items s after c.args.cpu c.add.new.self lt are refl (λ other. refl) (λ other off. omega arith) (omega arith)
    (λ other rs ready. subst (λ (os : List (Option Queued)). IsReady other os rs) (sym items) (ready_added other c.self.inside.entries.items rs c.args.sc new ready refl le))
    (subst (λ (os : List (Option Queued)). AreStamped (record { entries = os; next_stamp = c.self.inside.next_stamp + 1; cpus = length (slice_set c.self.inside.queues.items c.args.cpu c.add.new.self) })) (sym items) stamped) in
    let room : c.self.inside.reserved ≤ vec_capacity c.push_reserved.new.self = search rules in (
      queues_joined c.self.inside.queues.items c.self.inside.entries.items c.pad.new.entries.items c.push_reserved.new.self.items c.args.sc c.args.cpu _ c.add.new.self c.self.invariant.0 le lt
          joins c.pad.ensures.padded c.push_reserved.ensures.items refl,
      (room, ready),
    )
