-- The rule of the lock, and what its steps tell. Tickets are counted without a bound; the words have them modulo 2 ^ 64.
use Rattle.std.specs.Prelude.{◌≡◌, ◌≢◌, ◌+◌, ◌%◌, ◌^◌, ◌<◌, ◌≤◌, ◌⊎◌, List, [], ◌∷◌, ℕ, Bool, true, false, ◌==◌, length, MatchBool, Contains, Some}
use mathlib.Core.Option.{Option, none, some}
use lib.ListN.{get_elem?}
use Rattle.atomic_table.specs.Table.{State, Me, Step}
use Rattle.nova_lock.specs.declared.view.View.{View}
use Rattle.nova_lock.specs.declared.view.Phase.{Phase}
use Rattle.nova_lock.specs.declared.view.Phase.TheVariants.{Idle, Waiting, Called, Passed, Spent}
use Rattle.nova_lock.specs.History.{Adds, entries, IsFrontOf}

-- a seat in line: it drew a ticket, and did not give the value back
abbrev pub is_queued : Phase → Bool
is_queued Idle = false
is_queued Waiting = true
is_queued Called = true
is_queued Passed = false
is_queued Spent = false

-- how many of those in line it is
abbrev pub weight : Phase → ℕ
weight Idle = 0
weight Waiting = 1
weight Called = 1
weight Passed = 0
weight Spent = 0

module _ {T : Type 0} where
  -- how many seats are in line
  abbrev pub queued : List (View T) → ℕ
  queued [] = 0
  queued (v ∷ vs) = weight v.phase + queued vs

  -- two seats in line have different tickets
  abbrev pub Apart : View T → View T → Type 0
  Apart v w = is_queued v.phase ≡ true → is_queued w.phase ≡ true → v.ticket ≢ w.ticket

  -- the ticket of a seat in line is served, or is yet to be; the seat that is served has the value, and its history is the present one
  abbrev pub Lines : ℕ → ℕ → List ℕ → List (Option T) → View T → Phase → Type 0
  Lines ticket serving now homes v Idle = Unit {0}
  Lines ticket serving now homes v Waiting = (serving ≤ v.ticket) × (v.ticket < ticket)
  Lines ticket serving now homes v Called = (v.ticket ≡ serving) × (serving < ticket) × (v.found ≡ now) × (homes ≡ none ∷ [])
  Lines ticket serving now homes v Passed = Unit {0}
  Lines ticket serving now homes v Spent = Unit {0}

  -- the seat i, unless it was taken in: its number is i, it knows the value that the lock was made of, and its front is one of the present
  -- history
  pub record IsInPlace (ticket serving : ℕ) (now : List ℕ) (homes : List (Option T)) (k : T) (i : ℕ) (v : View T) : Type 0 where
    pub opened : v.phase ≢ Spent → v.opened ≡ Some k
    pub line : Lines ticket serving now homes v v.phase
    pub numbered : v.phase ≢ Spent → v.number ≡ i
    pub fronts : v.phase ≢ Spent → IsFrontOf v.number v.front now

  -- seat 0 knows how many seats were made, and what the seats that it took in had seen
  pub record IsFirst (views : List (View T)) (now : List ℕ) (v : View T) : Type 0 where
    pub made : v.made ≡ length views
    pub alive : v.phase ≢ Spent
    pub kept : (n : ℕ) (f : List ℕ) → Contains v.kept (n, f) → IsFrontOf n f now × ((w : View T) × (get_elem? views n ≡ some w) × (w.phase ≡ Spent))

  -- a seat that passed looked at the word `ticket`, knows what it found there, and owes nothing more
  abbrev pub Heeds : Step T → Me T (View T) → ℕ → Me T (View T) → Type 0
  Heeds st me found next = (st.word ≡ 0) × (me.0.phase ≡ Passed) × (next ≡ (record me.0 { phase = Idle; drawn = found }, me.1))

  module _ {O : Type 0} (opening : T → O) (history : T → List ℕ) (uses : T → ℕ) where
    -- the value at home, or the seat that has it
    abbrev pub Placed : ℕ → List ℕ → T → State T (View T) → Type 0
    Placed serving now k s = ((x : T) × (s.homes ≡ some x ∷ []) × (opening x ≡ opening k) × (history x ≡ now) × (uses x ≡ serving % 2 ^ 64))
        ⊎ ((i : ℕ) × (v : View T) × (get_elem? s.views i ≡ some v) × (v.phase ≡ Called))

    -- the rule: the numbers that the words have modulo 2 ^ 64, and the present history
    pub record IsSound (k : T) (s : State T (View T)) : Type 0 where
      pub ticket : ℕ
      pub serving : ℕ
      pub now : List ℕ
      pub words : s.words ≡ ticket % 2 ^ 64 ∷ serving % 2 ^ 64 ∷ []
      pub count : ticket ≡ serving + queued s.views
      pub few : length s.views ≤ 2 ^ 32
      pub in_place : (i : ℕ) (v : View T) → get_elem? s.views i ≡ some v → IsInPlace ticket serving now s.homes k i v
      pub apart : (i j : ℕ) (v w : View T) → i ≢ j → get_elem? s.views i ≡ some v → get_elem? s.views j ≡ some w → Apart v w
      pub placed : Placed serving now k s
      pub first : (v : View T) → get_elem? s.views 0 ≡ some v → IsFirst s.views now v
      pub unmade : (i : ℕ) → length s.views ≤ i → entries i now ≡ 0

    -- the seat has the value in hand, as the lock found it
    pub record Holds (me : Me T (View T)) (x : T) : Type 0 where
      pub hand : me.1 ≡ (0, x) ∷ []
      pub phase : me.0.phase ≡ Called
      pub found : me.0.found ≡ history x
      pub opens : (k : T) → me.0.opened ≡ Some k → opening x ≡ opening k
      pub counted : uses x ≡ me.0.ticket % 2 ^ 64
      pub fronts : IsFrontOf me.0.number me.0.front (history x)

    -- the ticket that was drawn
    abbrev pub Draws : Step T → Me T (View T) → ℕ → Me T (View T) → Type 0
    Draws st me found next = (t : ℕ) × (t % 2 ^ 64 ≡ found) × (next ≡ (record me.0 { phase = Waiting; ticket = t }, me.1))

    -- the seat took the value
    pub record Took (me next : Me T (View T)) : Type 0 where
      pub value : T
      pub next_is : next ≡ (record me.0 { phase = Called; found = history value }, (0, value) ∷ me.1)
      pub holds : Holds next value

    -- where the ticket is served the value is taken, else nothing changes
    abbrev pub Looks : Step T → Me T (View T) → ℕ → Me T (View T) → Type 0
    Looks st me found next = MatchBool (found == me.0.ticket % 2 ^ 64) (Took me next) (next ≡ me)

    -- the value came home, its history is the new front, and the seat owes a look
    abbrev pub GaveBack : Me T (View T) → Me T (View T) → Type 0
    GaveBack me next = (x : T) → me.1 ≡ (0, x) ∷ [] → next ≡ (record me.0 { phase = Passed; front = history x }, [])

    -- so it did, where the seat's ticket was served
    abbrev pub Passes : Step T → Me T (View T) → ℕ → Me T (View T) → Type 0
    Passes st me found next = (found ≡ me.0.ticket % 2 ^ 64) × GaveBack me next

    -- the seat has the value in hand, after its use
    pub record Gives (me : Me T (View T)) (x : T) : Type 0 where
      pub hand : me.1 ≡ (0, x) ∷ []
      pub phase : me.0.phase ≡ Called
      pub opens : (k : T) → me.0.opened ≡ Some k → opening x ≡ opening k
      pub counted : uses x ≡ (me.0.ticket + 1) % 2 ^ 64
      pub added : Adds me.0.number me.0.found (history x)

    -- what a call did to the value x, which it left as y
    module _ {C A : Type 0} (number : C → ℕ) (did : O → C → List ℕ → List ℕ → C → A → Type 0) where
      pub record Acted (x y : T) (call next : C) (answer : A) : Type 0 where
        pub did_it : did (opening x) call (history x) (history y) next answer
        pub opens : opening y ≡ opening x
        pub counted : uses y ≡ (uses x + 1) % 2 ^ 64
        pub added : Adds (number call) (history x) (history y)

    -- what is known of the value at the end
    pub record Closes (k : T) (v : View T) (x : T) : Type 0 where
      pub opens : opening x ≡ opening k
      pub first : IsFrontOf 0 v.front (history x)
      pub kept : (n : ℕ) (f : List ℕ) → Contains v.kept (n, f) → IsFrontOf n f (history x)
      pub others : (n : ℕ) → v.made ≤ n → entries n (history x) ≡ 0
