-- The ticket lock of `nova_lock`: its two words, where each thread is in its use of the lock, and a move for each call that the code makes on a word. Words are numbers without a bound
-- here. `draw` makes the call at Outside, `wait` those at Looks and Parks, `pass` that at Holds, and `heed` those at Stored and Wakes. That a thread that stored loads `ticket` next, and then
-- wakes all exactly where it finds another number than that of the ticket that it has served, the code's proof enforces: Stored is the phase Passed of its view, which only that load ends. That
-- the other moves are the code's calls, in this order, is read.
use Rattle.std.specs.Prelude.{◌≡◌, ◌≢◌, ◌<◌, ◌⊎◌, ℕ, ◌+◌, ◌==◌, if◌then◌else◌, List, [], ◌∷◌, Option, Some, None}

-- Outside: it doesn't use the lock. Looks t: it drew ticket t, and loads `serving` next. Parks t found: it loaded another ticket than its own, and parks next. Sleeps t found: it parked
-- while `serving` was still `found`. Holds t: its ticket is served. Stored t: it has ticket t + 1 served, and loads `ticket` next. Wakes t: it saw that further
-- tickets were drawn, and wakes all next.
pub data Place : Type 0 where
  Outside : Place
  Looks : ℕ → Place
  Parks : ℕ → ℕ → Place
  Sleeps : ℕ → ℕ → Place
  Holds : ℕ → Place
  Stored : ℕ → Place
  Wakes : ℕ → Place

pub record Lock : Type 0 where
  pub ticket : ℕ
  pub serving : ℕ
  pub places : ℕ → Place

abbrev pub put : (ℕ → Place) → ℕ → Place → ℕ → Place
put places i p j = if i == j then p else places j

-- a sleeper that is woken loads `serving` again
abbrev pub woken : Place → Place
woken (Sleeps t found) = Looks t
woken p = p

-- the next call of thread i, which is at this place; a sleeper makes none
abbrev pub called : Lock → ℕ → Place → Lock
called l i Outside = record l { ticket = l.ticket + 1; places = put l.places i (Looks l.ticket) }
called l i (Looks t) = record l { places = put l.places i (if l.serving == t then Holds t else Parks t l.serving) }
called l i (Parks t found) = record l { places = put l.places i (if l.serving == found then Sleeps t found else Looks t) }
called l i (Sleeps t found) = l
called l i (Holds t) = record l { serving = t + 1; places = put l.places i (Stored t) }
called l i (Stored t) = record l { places = put l.places i (if l.ticket == t + 1 then Outside else Wakes t) }
called l i (Wakes t) = record l { places = put (λ j. woken (l.places j)) i Outside }

-- thread i returns from a park though none woke it
abbrev pub roused : Lock → ℕ → Place → Lock
roused l i (Sleeps t found) = record l { places = put l.places i (Looks t) }
roused l i p = l

-- a thread makes its next call, or its sleep ends without a wake
pub data Move : Type 0 where
  Calls : ℕ → Move
  Rouses : ℕ → Move

abbrev pub moved : Lock → Move → Lock
moved l (Calls i) = called l i (l.places i)
moved l (Rouses i) = roused l i (l.places i)

abbrev pub begun : Lock
begun = record { ticket = 0; serving = 0; places = λ i. Outside }

abbrev pub after : Lock → List Move → Lock
after l [] = l
after l (m ∷ ms) = after (moved l m) ms

-- the ticket of a thread that waits for the lock or holds it
abbrev pub ticket_of : Place → Option ℕ
ticket_of (Looks t) = Some t
ticket_of (Parks t found) = Some t
ticket_of (Sleeps t found) = Some t
ticket_of (Holds t) = Some t
ticket_of other = None

-- Some thread is about to wake all: that is its next call, or it has had the next ticket served and a further one is drawn, which its load of `ticket` will show it.
pub record IsOwed (l : Lock) : Type 0 where
  pub thread : ℕ
  pub ticket : ℕ
  pub owes : (l.places thread ≡ Wakes ticket) ⊎ ((l.places thread ≡ Stored ticket) × (ticket + 1 < l.ticket))

-- some thread uses the lock and doesn't sleep: its next call is to come
pub record HasAwake (l : Lock) : Type 0 where
  pub thread : ℕ
  pub awake : (t found : ℕ) → l.places thread ≢ Sleeps t found
  pub inside : l.places thread ≢ Outside
