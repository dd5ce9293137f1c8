use Rattle.std.proofs.Common.{Bool, true, false, take, refl, sym, ap, arith}
use Rattle.std.specs.Bool.{OnTrue}
use Rattle.nova_io.proofs.Puts.{room-at, files-put, rooms-put, room-none}
use Rattle.nova_io.proofs.held.put.Goals as goal

OnTrue-weaker : {P Q : Type 0} (b : Bool) → OnTrue b P → (P → Q) → OnTrue b Q
OnTrue-weaker true p f = f p
OnTrue-weaker false p f = tt

pub returns-in-Some-clause-fits : goal.returns-in-Some-clause-fits
returns-in-Some-clause-fits c =
    rw (room-at c.args.files.now c.args.name.now c.in-Some.place c.index-files-place.result (sym c.in-Some.ensures)) c.put.ensures.fits

pub returns-in-Some-clause-bytes : goal.returns-in-Some-clause-bytes
returns-in-Some-clause-bytes c =
    OnTrue-weaker c.put.result c.put.ensures.taken (λ taken.
    files-put c.args.files.now c.args.name.now c.in-Some.place c.index-files-place.result (sym c.in-Some.ensures) _ (take c.args.count c.args.piece.now) refl (ap (λ s. s.bytes) taken))

pub returns-in-Some-clause-rooms : goal.returns-in-Some-clause-rooms
returns-in-Some-clause-rooms c =
    OnTrue-weaker c.put.result c.put.ensures.taken (λ taken.
    rooms-put c.args.files.now c.args.name.now c.in-Some.place c.index-files-place.result (sym c.in-Some.ensures) _ _ refl (ap (λ s. s.room) taken))

pub returns-in-None-clause-fits : goal.returns-in-None-clause-fits
returns-in-None-clause-fits c =
    rw (room-none c.args.files.now c.args.name.now (sym c.in-None.ensures)) (grind (arith, c.is_empty.ensures))
