-- What a lock and its seats are to their users.
use Rattle.std.specs.Prelude.{◌≡◌, ◌<◌, ◌≤◌, List, [], ℕ, length, slice_index_or, Option, Some, Contains}
use Rattle.nova_lock.specs.History.{entries, IsFrontOf}
use Rattle.atomic_table.specs.Seated.{TableId}

-- a seat: its lock, with the value that this was made of, its number and its front; and of seat 0 how many seats were made, and the numbers
-- and fronts of those that it took in
pub record SeatView (T : Type 0) : Type 0 where
  pub lock : TableId
  pub opened : Option T
  pub number : ℕ
  pub front : List ℕ
  pub made : ℕ
  pub kept : List (ℕ × List ℕ)

-- a lock: the value that it was made of, and how many seats it has
pub record LockView (T : Type 0) : Type 0 where
  pub id : TableId
  pub opened : T
  pub seats : ℕ

-- the seat is one of this lock
pub record IsSeatOf {T : Type 0} (l : LockView T) (s : SeatView T) : Type 0 where
  pub lock : s.lock ≡ l.id
  pub opened : s.opened ≡ Some l.opened

-- it is the seat of number `n`
pub record IsSeat {T : Type 0} (l : LockView T) (n : ℕ) (s : SeatView T) : Type 0 where
  pub lock : s.lock ≡ l.id
  pub opened : s.opened ≡ Some l.opened
  pub number : s.number ≡ n
  pub first : n ≡ 0 → (s.made ≡ l.seats) × (s.kept ≡ [])

-- all seats of the lock in order, of which there is at least one
pub record AreSeats {T : Type 0} (l : LockView T) (seats : List (SeatView T)) : Type 0 where
  pub some : 0 < l.seats
  pub len : length seats ≡ l.seats
  pub each : (i : ℕ) (d : SeatView T) → i < l.seats → IsSeat l i (slice_index_or seats i d)

-- what seat 0 keeps of a seat that it takes in
abbrev pub note : {T : Type 0} → SeatView T → ℕ × List ℕ
note s = (s.number, s.front)

-- what is known of the value at the end, after seat 0 took in all others
pub record Ends {T O : Type 0} (opening : T → O) (history : T → List ℕ) (l : LockView T) (s : SeatView T) (x : T) : Type 0 where
  pub opens : opening x ≡ opening l.opened
  pub first : IsFrontOf 0 s.front (history x)
  pub kept : (n : ℕ) (f : List ℕ) → Contains s.kept (n, f) → IsFrontOf n f (history x)
  pub others : (n : ℕ) → l.seats ≤ n → entries n (history x) ≡ 0
