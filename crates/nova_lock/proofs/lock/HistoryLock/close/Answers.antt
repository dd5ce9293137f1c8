use Rattle.std.proofs.Common.{rules, ap, sym, subst, ℕ, ◌<◌, List, Contains, slice_index_or, map, drop, arith, zero, suc}
use Rattle.nova_lock.specs.Seats.{SeatView, note}
use Rattle.nova_lock.specs.History.{IsFrontOf}
use Rattle.nova_lock.proofs.Notes.{noted}
use Rattle.nova_lock.proofs.lock.HistoryLock.close.Goals as goal

pub finish-requires-clause-all : goal.finish-requires-clause-all
finish-requires-clause-all g c = λ i pos less.
    let d : SeatView g.row.T.Denot = c.take_all-first.result in
    let s : SeatView g.row.T.Denot = slice_index_or c.args.seats.items i d in
    let in-it = noted c.args.seats.items i d pos (search rules) in
    let kept = ap (λ (x : SeatView g.row.T.Denot). x.kept) (c.take_all-first.ensures.first d) in
    (s.front, subst (λ (l : List (ℕ × List ℕ)). Contains l (i, s.front)) (sym kept) (subst (λ (n : ℕ). Contains {X = ℕ × List ℕ} (map note (drop 1 c.args.seats.items)) (n, s.front)) (c.requires.seats.each i d less).number in-it))

by-place : (P : ℕ → Type 0) → P 0 → ((i : ℕ) → 0 < i → P i) → (i : ℕ) → P i
by-place P z p zero = z
by-place P z p (suc i) = p (suc i) (omega arith)

pub returns-clause-fronts : goal.returns-clause-fronts
returns-clause-fronts g c = λ i d less.
    let h = g.T.Historied.history c.finish.result in
    let kept = ap (λ (x : SeatView g.row.T.Denot). x.kept) (c.take_all-first.ensures.first d) in
    let front = ap (λ (x : SeatView g.row.T.Denot). x.front) (c.take_all-first.ensures.first d) in
    by-place (λ j. j < c.args.self.seats → IsFrontOf j (slice_index_or c.args.seats.items j d).front h)
    (λ _. subst (λ (f : List ℕ). IsFrontOf 0 f h) front c.finish.ensures.first)
    (λ j pos l. c.finish.ensures.kept j (slice_index_or c.args.seats.items j d).front
    (rw kept (subst (λ (n : ℕ). Contains {X = ℕ × List ℕ} (map note (drop 1 c.args.seats.items)) (n, (slice_index_or c.args.seats.items j d).front)) (c.requires.seats.each j d l).number (noted c.args.seats.items j d pos (search rules)))))
    i less
