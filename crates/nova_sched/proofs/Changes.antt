-- What the calls answer and leave, from what is known of the fields.
use Rattle.std.proofs.Common.{◌≡◌, ℕ, zero, suc, ◌<◌, List, [], ◌∷◌, length, refl, ap, ◌∙◌, arith}
use Rattle.std.specs.Prelude.{◌≤◌, Bool, max, map, slice_set, slice_index, slice_index_or, Option, Some, Result, OnOk, OnErr, option_map}
use Rattle.std.specs.declared.result.Result.TheVariants.{Ok, Err}
use Rattle.nova_model.specs.Turn.{is_spent, stamp_after}
use Rattle.nova_sched.specs.Queues.{Schedule, queued_at, next, choose, members, marked, charged_schedule}
use Rattle.nova_sched.specs.Lists.{QueueState, foremost_among, paid}
use Rattle.nova_sched.specs.Best.{foremost}
use Rattle.nova_sched.specs.declared.queued.Queued.{Queued}
use Rattle.nova_sched.specs.declared.queued.Runnable.{Runnable}
use Rattle.nova_sched.proofs.Tables.{among_members}

-- the foremost of a processor's members is its choice
pub chosen : (s : Schedule) (cpu : ℕ) (o : Option Runnable) → o ≡ foremost_among s.entries (members s cpu) → option_map (λ (r : Runnable). r.sc) o ≡ choose s cpu
unfolding next
chosen s cpu o is = ap (option_map (λ (r : Runnable). r.sc)) (is ∙ ap foremost (among_members s.entries cpu))

pub marked_is : (s : Schedule) (sc : ℕ) (runnable : Bool) (e : Queued) → queued_at s sc ≡ Some e →
    record s { entries = slice_set s.entries sc (Some (record e { is_runnable = runnable })) } ≡ marked s sc runnable
marked_is s sc runnable e is = rw is refl

pub charged_is : (s : Schedule) (sc : ℕ) (e after : Queued) (t : Bool) → queued_at s sc ≡ Some e → after ≡ paid e s.next_stamp → is_spent e.budget ≡ t →
    record s { entries = slice_set s.entries sc (Some after); next_stamp = stamp_after t s.next_stamp } ≡ charged_schedule s sc
charged_is s sc e after t is paying spent = rw (is, paying, ← spent) refl

room_set : (queues : List QueueState) (cpu : ℕ) (q : QueueState) → cpu < length queues → 0 < q.spare → 0 < slice_index (map (λ (x : QueueState). x.spare) (slice_set queues cpu q)) cpu
room_set [] cpu q lt room = absurd (omega arith)
room_set (p ∷ queues) zero q lt room = room
room_set (p ∷ queues) (suc cpu) q lt room = room_set queues cpu q (omega arith) room

-- room for one more of a processor
pub room_made : (queues : List QueueState) (cpu : ℕ) (q before : QueueState) → cpu < length queues → q ≡ record before { spare = max before.spare 1 } →
    0 < slice_index (map (λ (x : QueueState). x.spare) (slice_set queues cpu q)) cpu
room_made queues cpu q before lt is =
    room_set queues cpu q lt (let spare : q.spare ≡ max before.spare 1 = ap (λ (x : QueueState). x.spare) is in grind (arith, spare))

-- and where it is refused, no room is lost
pub spare_kept : {E : Type 0} (r : Result (Unit {0}) E) (q before : QueueState) → OnOk r (q ≡ record before { spare = max before.spare 1 }) → OnErr r (q ≡ before) → before.spare ≤ q.spare
spare_kept (Ok x) q before ok err = let spare : q.spare ≡ max before.spare 1 = ap (λ (x : QueueState). x.spare) ok in grind (arith, spare)
spare_kept (Err e) q before ok err = let spare : q.spare ≡ before.spare = ap (λ (x : QueueState). x.spare) err in omega (arith, spare)

-- room of any processor stays
pub room_stays : (queues : List QueueState) (cpu processor : ℕ) (q before : QueueState) → before ≡ slice_index_or queues cpu before → before.spare ≤ q.spare →
    0 < slice_index (map (λ (x : QueueState). x.spare) queues) processor → 0 < slice_index (map (λ (x : QueueState). x.spare) (slice_set queues cpu q)) processor
room_stays [] cpu processor q before is le room = room
room_stays (p ∷ queues) zero zero q before is le room = let spare : before.spare ≡ p.spare = ap (λ (x : QueueState). x.spare) is in omega (arith, spare, le, room)
room_stays (p ∷ queues) zero (suc processor) q before is le room = room
room_stays (p ∷ queues) (suc cpu) zero q before is le room = room
room_stays (p ∷ queues) (suc cpu) (suc processor) q before is le room = room_stays queues cpu processor q before is le room

-- a call that may be refused
pub on_ok : {E A B : Type 0} (r : Result (Unit {0}) E) → OnOk r A → (A → B) → OnOk r B
on_ok (Ok x) a f = f a
on_ok (Err e) a f = tt
