-- The order of entries, and the lesser of two.
use Rattle.std.proofs.Common.{◌≡◌, ℕ, refl, ap, ap₂, sym, subst, inl, inr, arith}
use Rattle.std.specs.Prelude.{◌⊎◌, ◌==◌, ◌&&◌, ◌||◌, nat_lt, Bool, true, false, if◌then◌else◌, Option, Some, None}
use Rattle.nova_model.specs.declared.times.Due.{Due}
use Rattle.nova_model.specs.declared.times.Due.TheVariants.{Alarm, Deadline}
use Rattle.nova_times.specs.Entries.{comes_first, lesser, number, precedes, rank}
use Rattle.nova_times.specs.declared.entry.Entry.{Entry}

pub not_itself : (a : Entry) → precedes a a ≡ false
not_itself a = grind arith

-- by a first number, and then by what follows: what isn't behind a second, which isn't behind a third, isn't behind the third either
back_then : (a b c : ℕ) (p q r : Bool) → (p ≡ false → q ≡ false → r ≡ false) → (nat_lt b a || ((b == a) && p)) ≡ false → (nat_lt c b || ((c == b) && q)) ≡ false →
    (nat_lt c a || ((c == a) && r)) ≡ false
back_then a b c false false r next h k = let last = next refl refl in grind (arith, h, k, last)
back_then a b c false true r next h k = grind (arith, h, k)
back_then a b c true false r next h k = grind (arith, h, k)
back_then a b c true true r next h k = grind (arith, h, k)

back_last : (a b c : ℕ) → nat_lt b a ≡ false → nat_lt c b ≡ false → nat_lt c a ≡ false
back_last a b c h k = grind (arith, h, k)

back_due : (a b c : Due) → comes_first b a ≡ false → comes_first c b ≡ false → comes_first c a ≡ false
back_due a b c h k = back_then (rank a) (rank b) (rank c) (nat_lt (number b) (number a)) (nat_lt (number c) (number b)) (nat_lt (number c) (number a)) (back_last (number a) (number b) (number c)) h k

pub back : (a b c : Entry) → precedes b a ≡ false → precedes c b ≡ false → precedes c a ≡ false
back a b c h k = back_then a.at b.at c.at (comes_first b.due a.due) (comes_first c.due b.due) (comes_first c.due a.due) (back_due a.due b.due c.due) h k

-- what precedes another is not behind it
turn_then : (a b : ℕ) (p q : Bool) → (p ≡ true → q ≡ false) → (nat_lt a b || ((a == b) && p)) ≡ true → (nat_lt b a || ((b == a) && q)) ≡ false
turn_then a b true q next h = let last = next refl in grind (arith, h, last)
turn_then a b false q next h = grind (arith, h)

turn_last : (a b : ℕ) → nat_lt a b ≡ true → nat_lt b a ≡ false
turn_last a b h = grind (arith, h)

turn_due : (a b : Due) → comes_first a b ≡ true → comes_first b a ≡ false
turn_due a b h = turn_then (rank a) (rank b) (nat_lt (number a) (number b)) (nat_lt (number b) (number a)) (turn_last (number a) (number b)) h

pub ahead : (a b : Entry) → precedes a b ≡ true → precedes b a ≡ false
ahead a b h = turn_then a.at b.at (comes_first a.due b.due) (comes_first b.due a.due) (turn_due a.due b.due) h

-- two of which neither stands before the other are one
record AreEqual (a b : ℕ) (p q : Bool) : Type 0 where
  same : a ≡ b
  before : p ≡ false
  behind : q ≡ false

equal_then : (a b : ℕ) (p q : Bool) → (nat_lt a b || ((a == b) && p)) ≡ false → (nat_lt b a || ((b == a) && q)) ≡ false → AreEqual a b p q
equal_then a b p q h k =
    let same : a ≡ b = grind (arith, h, k) in record {
      same = same;
      before = by_bool p (grind (arith, h, same));
      behind = by_bool q (grind (arith, k, same));
    }
  where
    by_bool : (t : Bool) → t ≡ false → t ≡ false
    by_bool t e = e

-- an alarm or an execution context of a number is one
same_due : (a b : Due) → rank a ≡ rank b → number a ≡ number b → a ≡ b
same_due (Alarm a) (Alarm b) h k = ap Alarm k
same_due (Alarm a) (Deadline b) h k = absurd (omega arith)
same_due (Deadline a) (Alarm b) h k = absurd (omega arith)
same_due (Deadline a) (Deadline b) h k = ap Deadline k

same_of : (a b : Due) → comes_first a b ≡ false → comes_first b a ≡ false → a ≡ b
same_of a b h k =
    let rest = equal_then (rank a) (rank b) (nat_lt (number a) (number b)) (nat_lt (number b) (number a)) h k in
    let less = rest.before in
    let more = rest.behind in
    same_due a b rest.same (grind (arith, less, more))

pub equal : (a b : Entry) → precedes a b ≡ false → precedes b a ≡ false → a ≡ b
equal a b h k =
    let outer = equal_then a.at b.at (comes_first a.due b.due) (comes_first b.due a.due) h k in
    let made : ℕ → Due → Entry = λ at what. record { at = at; due = what } in
    ap₂ made outer.same (same_of a.due b.due outer.before outer.behind)

-- NO LATER

-- an entry is there, and another does not precede it
abbrev pub NoLater : Option Entry → Entry → Type 0
NoLater None e = ⊥
NoLater (Some q) e = precedes e q ≡ false

pub no_later_self : (o : Option Entry) (e : Entry) → o ≡ Some e → NoLater o e
no_later_self o e h = subst (λ (x : Option Entry). NoLater x e) (sym h) (not_itself e)

pub no_later_through : (r o : Option Entry) (e : Entry) → NoLater o e → ((q : Entry) → o ≡ Some q → NoLater r q) → NoLater r e
no_later_through r None e h next = absurd h
no_later_through None (Some q) e h next = next q refl
no_later_through (Some p) (Some q) e h next = back p q e (next q refl) h

pub lesser_in : (a b : Option Entry) (e : Entry) → lesser a b ≡ Some e → (a ≡ Some e) ⊎ (b ≡ Some e)
lesser_in None b e h = inr h
lesser_in (Some p) None e h = inl h
lesser_in (Some p) (Some q) e h = by_test (precedes q p) h
  where
    by_test : (t : Bool) → (if t then Some q else Some p) ≡ Some e → (Some p ≡ Some e) ⊎ (Some q ≡ Some e)
    by_test true k = inr k
    by_test false k = inl k

pub lesser_left : (a b : Option Entry) (e : Entry) → NoLater a e → NoLater (lesser a b) e
lesser_left None b e h = absurd h
lesser_left (Some p) None e h = h
lesser_left (Some p) (Some q) e h = by_test (precedes q p) refl
  where
    by_test : (t : Bool) → precedes q p ≡ t → NoLater (if t then Some q else Some p) e
    by_test true k = back q p e (ahead q p k) h
    by_test false k = h

pub lesser_right : (a b : Option Entry) (e : Entry) → NoLater b e → NoLater (lesser a b) e
lesser_right None b e h = h
lesser_right (Some p) None e h = absurd h
lesser_right (Some p) (Some q) e h = by_test (precedes q p) refl
  where
    by_test : (t : Bool) → precedes q p ≡ t → NoLater (if t then Some q else Some p) e
    by_test true k = h
    by_test false k = back p q e k h

-- two that are no later than one another are one
pub same_least : (r s : Option Entry) → ((e : Entry) → r ≡ Some e → NoLater s e) → ((e : Entry) → s ≡ Some e → NoLater r e) → r ≡ s
same_least None None h k = refl
same_least (Some p) None h k = absurd (h p refl)
same_least None (Some q) h k = absurd (k q refl)
same_least (Some p) (Some q) h k = ap Some (equal p q (h p refl) (k q refl))
