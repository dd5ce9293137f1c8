-- The seats of processors, as workers use them.
use Rattle.std.proofs.Common.{◌≡◌, ℕ, ◌<◌, List, [], ◌∷◌, ◌++◌, take, refl, length, ap, sym, ◌∙◌, subst, arith, All, slice_index_or}
use Rattle.nova_lock.specs.Seats.{LockView, SeatView, IsSeat}
use Rattle.nova_shared.specs.Ran.{Ran, IsCpuSeat, AreCpuSeats}

-- each is one of this lock, of a processor that is there
pub each_there : (l : LockView Ran) (seats : List (SeatView Ran)) → AreCpuSeats l seats → All (λ s. IsCpuSeat l s) seats
each_there l seats h = λ k d less. let s = h.all.each k d (omega (arith, less, h.all.len)) in record {
  lock = s.lock;
  opened = s.opened;
  there = omega (arith, s.number, less, h.all.len, h.cpus);
}

seat_kept : (l : LockView Ran) (i : ℕ) (s t : SeatView Ran) → t ≡ record s { front = t.front } → IsSeat l i s → IsSeat l i t
seat_kept l i s t e h = subst (λ (x : SeatView Ran). IsSeat l i x) (sym e) (record { lock = h.lock; opened = h.opened; number = h.number; first = h.first })

-- a use changes the front of a seat alone
pub still_seats : (l : LockView Ran) (old new : List (SeatView Ran)) → length new ≡ length old
    → ((i : ℕ) (d : SeatView Ran) → i < length old → slice_index_or new i d ≡ record (slice_index_or old i d) { front = (slice_index_or new i d).front })
    → AreCpuSeats l old → AreCpuSeats l new
still_seats l old new same kept h = record {
  all = record {
    some = h.all.some;
    len = same ∙ h.all.len;
    each = λ i d less. seat_kept l i (slice_index_or old i d) (slice_index_or new i d) (kept i d (omega (arith, less, h.all.len))) (h.all.each i d less);
  };
  cpus = h.cpus;
}

take_front : {A : Type 0} (xs ys : List A) → take (length xs) (xs ++ ys) ≡ xs
take_front [] ys = refl
take_front (x ∷ xs) ys = ap (λ (l : List _). x ∷ l) (take_front xs ys)

-- the seats as they were written back
pub still_written : (l : LockView Ran) (new rest : List (SeatView Ran)) (n : ℕ) → n ≡ length new → AreCpuSeats l new → AreCpuSeats l (take n (new ++ rest))
still_written l new rest n same h = subst (AreCpuSeats l) (sym (ap (λ (m : ℕ). take m (new ++ rest)) same ∙ take_front new rest)) h
