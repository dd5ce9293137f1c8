-- What each move keeps.
use Rattle.std.proofs.Common.{◌≡◌, ℕ, ◌<◌, ◌≤◌, ◌+◌, List, [], ◌∷◌, inl, inr, refl, sym, ap, ◌∙◌, arith}
use Rattle.std.specs.Prelude.{◌≢◌, ◌⊎◌, Bool, true, false, ◌==◌, if◌then◌else◌, Option, Some, None}
use Rattle.std.proofs.lemmas.Bool.{eqb-true, eqb-false}
use Rattle.law_waking.specs.Lock.{Place, Outside, Looks, Parks, Sleeps, Holds, Stored, Wakes, Lock, Move, Calls, Rouses, HasAwake, IsOwed, after, called, ticket_of, moved, begun, put, woken, roused}

-- PLACES

-- the ticket whose next one a thread has had served
abbrev owing_of : Place → Option ℕ
owing_of (Stored t) = Some t
owing_of (Wakes t) = Some t
owing_of other = None

decide : (i j : ℕ) (P : Type 0) → (i ≡ j → P) → (i ≢ j → P) → P
decide i j P same other = by_test (i == j) refl
  where
    by_test : (t : Bool) → (i == j) ≡ t → P
    by_test true is = same (eqb-true i j is)
    by_test false is = other (eqb-false i j is)

put_itself : (places : ℕ → Place) (i j : ℕ) (p : Place) → i ≡ j → put places i p j ≡ p
put_itself places i j p same = let one : (i == j) ≡ true = grind arith in ap (λ (t : Bool). if t then p else places j) one

put_other : (places : ℕ → Place) (i j : ℕ) (p : Place) → i ≢ j → put places i p j ≡ places j
put_other places i j p other = by_test (i == j) refl
  where
    by_test : (t : Bool) → (i == j) ≡ t → (if t then p else places j) ≡ places j
    by_test true is = absurd (other (eqb-true i j is))
    by_test false is = refl

pub record IsSound (l : Lock) : Type 0 where
  few : l.serving ≤ l.ticket
  line : (i t : ℕ) → ticket_of (l.places i) ≡ Some t → (l.serving ≤ t) × (t < l.ticket)
  apart : (i j t : ℕ) → ticket_of (l.places i) ≡ Some t → ticket_of (l.places j) ≡ Some t → i ≡ j
  all : (t : ℕ) → l.serving ≤ t → t < l.ticket → (i : ℕ) × (ticket_of (l.places i) ≡ Some t)
  holds : (i t : ℕ) → l.places i ≡ Holds t → t ≡ l.serving
  parks : (i t found : ℕ) → l.places i ≡ Parks t found → found ≢ t
  sleeps : (i t found : ℕ) → l.places i ≡ Sleeps t found → found ≢ t
  past : (i t : ℕ) → owing_of (l.places i) ≡ Some t → t < l.serving
  owed : (i t found : ℕ) → l.places i ≡ Sleeps t found → found ≢ l.serving → IsOwed l

-- ONE THREAD MOVES

record MayMove (l : Lock) (i : ℕ) (p : Place) (ticket serving : ℕ) : Type 0 where
  few : serving ≤ ticket
  later : l.ticket ≤ ticket
  rises : l.serving ≤ serving
  line : (t : ℕ) → ticket_of p ≡ Some t → (serving ≤ t) × (t < ticket)
  others : (j t : ℕ) → i ≢ j → ticket_of (l.places j) ≡ Some t → serving ≤ t
  apart : (j t : ℕ) → i ≢ j → ticket_of p ≡ Some t → ticket_of (l.places j) ≢ Some t
  all : (t : ℕ) → serving ≤ t → t < ticket → (ticket_of p ≡ Some t) ⊎ ((j : ℕ) × (i ≢ j) × (ticket_of (l.places j) ≡ Some t))
  holds : (t : ℕ) → p ≡ Holds t → t ≡ serving
  held : (j t : ℕ) → i ≢ j → l.places j ≡ Holds t → t ≡ serving
  parks : (t found : ℕ) → p ≡ Parks t found → found ≢ t
  sleeps : (t found : ℕ) → p ≡ Sleeps t found → found ≢ t
  past : (t : ℕ) → owing_of p ≡ Some t → t < serving
  owed : (j t found : ℕ) → put l.places i p j ≡ Sleeps t found → found ≢ serving → IsOwed (record { ticket = ticket; serving = serving; places = put l.places i p })

one_moves : (l : Lock) (i : ℕ) (p : Place) (ticket serving : ℕ) → IsSound l → MayMove l i p ticket serving → IsSound (record { ticket = ticket; serving = serving; places = put l.places i p })
one_moves l i p ticket serving s may = record {
  few = may.few;
  line = λ j t at. decide i j _
      (λ same. may.line t (ap ticket_of (sym (here j same)) ∙ at))
      (λ other. let its = ap ticket_of (sym (there j other)) ∙ at in (may.others j t other its, (let below = (s.line j t its).1 in let later = may.later in omega arith)));
  apart = λ j k t first second. decide i j _
      (λ same. decide i k _ (λ too. sym same ∙ too) (λ other. absurd (may.apart k t other (ap ticket_of (sym (here j same)) ∙ first) (ap ticket_of (sym (there k other)) ∙ second))))
      (λ other. decide i k _ (λ same. absurd (may.apart j t other (ap ticket_of (sym (here k same)) ∙ second) (ap ticket_of (sym (there j other)) ∙ first)))
      (λ too. s.apart j k t (ap ticket_of (sym (there j other)) ∙ first) (ap ticket_of (sym (there k too)) ∙ second)));
  all = λ t least below. elim (may.all t least below) [
    | inl its ↦ (i, ap ticket_of (here i refl) ∙ its)
    | inr found ↦ (found.0, ap ticket_of (there found.0 found.1) ∙ found.2)
  ];
  holds = λ j t at. decide i j _ (λ same. may.holds t (sym (here j same) ∙ at)) (λ other. may.held j t other (sym (there j other) ∙ at));
  parks = λ j t found at. decide i j _ (λ same. may.parks t found (sym (here j same) ∙ at)) (λ other. s.parks j t found (sym (there j other) ∙ at));
  sleeps = λ j t found at. decide i j _ (λ same. may.sleeps t found (sym (here j same) ∙ at)) (λ other. s.sleeps j t found (sym (there j other) ∙ at));
  past = λ j t at. decide i j _ (λ same. may.past t (ap owing_of (sym (here j same)) ∙ at))
      (λ other. let old = s.past j t (ap owing_of (sym (there j other)) ∙ at) in let rises = may.rises in omega arith);
  owed = may.owed;
}
  where
    here : (j : ℕ) → i ≡ j → put l.places i p j ≡ p
    here j same = put_itself l.places i j p same

    there : (j : ℕ) → i ≢ j → put l.places i p j ≡ l.places j
    there j other = put_other l.places i j p other

-- a thread that is to wake all has had a ticket served
owes_one : (l : Lock) (owed : IsOwed l) → owing_of (l.places owed.thread) ≡ Some owed.ticket
owes_one l owed = elim owed.owes [
  | inl wakes ↦ ap owing_of wakes
  | inr stored ↦ ap owing_of stored.0
]

-- it is so still where another thread moves
owed_on : (l : Lock) (i : ℕ) (p : Place) (ticket serving : ℕ) → owing_of (l.places i) ≡ None → l.ticket ≤ ticket → IsOwed l →
    IsOwed (record { ticket = ticket; serving = serving; places = put l.places i p })
owed_on l i p ticket serving none later owed = record {
  thread = owed.thread;
  ticket = owed.ticket;
  owes = elim owed.owes [
    | inl wakes ↦ inl (still ∙ wakes)
    | inr stored ↦ inr (still ∙ stored.0, (let beyond = stored.1 in omega arith))
  ];
}
  where
    apart : i ≢ owed.thread
    apart same = let its = owes_one l owed in let both : None ≡ Some owed.ticket = sym none ∙ ap (λ (n : ℕ). owing_of (l.places n)) same ∙ its in cc

    still : put l.places i p owed.thread ≡ l.places owed.thread
    still = put_other l.places i owed.thread p apart

-- the same of a thread that is in line with the same ticket before and after
record IsInLine (l : Lock) (i t : ℕ) (p : Place) : Type 0 where
  before : ticket_of (l.places i) ≡ Some t
  owes : owing_of (l.places i) ≡ None
  now : ticket_of p ≡ Some t
  none : owing_of p ≡ None
  holds : (u : ℕ) → p ≡ Holds u → u ≡ l.serving
  parks : (u found : ℕ) → p ≡ Parks u found → found ≢ u
  sleeps : (u found : ℕ) → p ≡ Sleeps u found → (found ≢ u) × (found ≡ l.serving)

stays_in_line : (l : Lock) (i t : ℕ) (p : Place) → IsSound l → IsInLine l i t p → IsSound (record { ticket = l.ticket; serving = l.serving; places = put l.places i p })
stays_in_line l i t p s its = one_moves l i p l.ticket l.serving s (record {
  few = s.few;
  later = omega arith;
  rises = omega arith;
  line = λ u at. s.line i u (its.before ∙ sym its.now ∙ at);
  others = λ j u other at. (s.line j u at).0;
  apart = λ j u other at too. other (s.apart i j u (its.before ∙ sym its.now ∙ at) too);
  all = λ u least below. let found = s.all u least below in decide i found.0 _
      (λ same. inl (its.now ∙ sym its.before ∙ ap (λ (n : ℕ). ticket_of (l.places n)) same ∙ found.1))
      (λ other. inr (found.0, other, found.1));
  holds = its.holds;
  held = λ j u other at. s.holds j u at;
  parks = its.parks;
  sleeps = λ u found at. (its.sleeps u found at).0;
  past = λ u at. absurd (let both : None ≡ Some u = sym its.none ∙ at in cc);
  owed = λ j u found at stale. decide i j _
      (λ same. absurd (stale (its.sleeps u found (sym (put_itself l.places i j p same) ∙ at)).1))
      (λ other. owed_on l i p l.ticket l.serving its.owes (omega arith) (s.owed j u found (sym (put_other l.places i j p other) ∙ at) stale));
})

-- EACH MOVE

same_two : (t u f g : ℕ) → Parks t f ≡ Parks u g → (t ≡ u) × (f ≡ g)
same_two t u f g is = (ap ticket_in is, ap found_in is)
  where
    ticket_in : Place → ℕ
    ticket_in (Parks a b) = a
    ticket_in other = 0

    found_in : Place → ℕ
    found_in (Parks a b) = b
    found_in other = 0

same_sleep : (t u f g : ℕ) → Sleeps t f ≡ Sleeps u g → (t ≡ u) × (f ≡ g)
same_sleep t u f g is = (ap ticket_in is, ap found_in is)
  where
    ticket_in : Place → ℕ
    ticket_in (Sleeps a b) = a
    ticket_in other = 0

    found_in : Place → ℕ
    found_in (Sleeps a b) = b
    found_in other = 0

same_hold : (t u : ℕ) → Holds t ≡ Holds u → t ≡ u
same_hold t u is = ap ticket_in is
  where
    ticket_in : Place → ℕ
    ticket_in (Holds a) = a
    ticket_in other = 0

draws : (l : Lock) (i : ℕ) → IsSound l → l.places i ≡ Outside → IsSound (record { ticket = l.ticket + 1; serving = l.serving; places = put l.places i (Looks l.ticket) })
draws l i s at = one_moves l i (Looks l.ticket) (l.ticket + 1) l.serving s (record {
  few = let few = s.few in omega arith;
  later = omega arith;
  rises = omega arith;
  line = λ u is. let same : l.ticket ≡ u = cc in let few = s.few in (omega arith, omega arith);
  others = λ j u other is. (s.line j u is).0;
  apart = λ j u other is too. let same : l.ticket ≡ u = cc in let below = (s.line j u too).1 in omega arith;
  all = λ u least below. by_test u least below (u == l.ticket) refl;
  holds = λ u is. absurd cc;
  held = λ j u other is. s.holds j u is;
  parks = λ u found is. absurd cc;
  sleeps = λ u found is. absurd cc;
  past = λ u is. absurd cc;
  owed = λ j u found is stale. decide i j _
      (λ same. absurd (let none = sym (put_itself l.places i j (Looks l.ticket) same) ∙ is in cc))
      (λ other. owed_on l i (Looks l.ticket) (l.ticket + 1) l.serving (ap owing_of at) (omega arith) (s.owed j u found (sym (put_other l.places i j (Looks l.ticket) other) ∙ is) stale));
})
  where
    by_test : (u : ℕ) → l.serving ≤ u → u < l.ticket + 1 → (t : Bool) → (u == l.ticket) ≡ t → (Some l.ticket ≡ Some u) ⊎ ((j : ℕ) × (i ≢ j) × (ticket_of (l.places j) ≡ Some u))
    by_test u least below true is = let same : u ≡ l.ticket = eqb-true u l.ticket is in inl (ap (λ (n : ℕ). Some n) (sym same))
    by_test u least below false is =
        let other : u ≢ l.ticket = eqb-false u l.ticket is in
        let found = s.all u least (grind arith) in
        inr (found.0, (λ same. let both : None ≡ Some u = ap ticket_of (sym at) ∙ ap (λ (n : ℕ). ticket_of (l.places n)) same ∙ found.1 in cc), found.1)

looks : (l : Lock) (i t : ℕ) → IsSound l → l.places i ≡ Looks t →
    IsSound (record { ticket = l.ticket; serving = l.serving; places = put l.places i (if l.serving == t then Holds t else Parks t l.serving) })
looks l i t s at = by_test (l.serving == t) refl
  where
    by_test : (b : Bool) → (l.serving == t) ≡ b → IsSound (record { ticket = l.ticket; serving = l.serving; places = put l.places i (if b then Holds t else Parks t l.serving) })
    by_test true is = stays_in_line l i t (Holds t) s (record {
      before = ap ticket_of at;
      owes = ap owing_of at;
      now = refl;
      none = refl;
      holds = λ u same. sym (same_hold t u same) ∙ sym (eqb-true l.serving t is);
      parks = λ u found same. absurd cc;
      sleeps = λ u found same. absurd cc;
    })
    by_test false is = stays_in_line l i t (Parks t l.serving) s (record {
      before = ap ticket_of at;
      owes = ap owing_of at;
      now = refl;
      none = refl;
      holds = λ u same. absurd cc;
      parks = λ u found same. (λ eq. let two = same_two t u l.serving found same in eqb-false l.serving t is (two.1 ∙ eq ∙ sym two.0));
      sleeps = λ u found same. absurd cc;
    })

parks : (l : Lock) (i t found : ℕ) → IsSound l → l.places i ≡ Parks t found →
    IsSound (record { ticket = l.ticket; serving = l.serving; places = put l.places i (if l.serving == found then Sleeps t found else Looks t) })
parks l i t found s at = by_test (l.serving == found) refl
  where
    by_test : (b : Bool) → (l.serving == found) ≡ b → IsSound (record { ticket = l.ticket; serving = l.serving; places = put l.places i (if b then Sleeps t found else Looks t) })
    by_test true is = stays_in_line l i t (Sleeps t found) s (record {
      before = ap ticket_of at;
      owes = ap owing_of at;
      now = refl;
      none = refl;
      holds = λ u same. absurd cc;
      parks = λ u f same. absurd cc;
      sleeps = λ u f same. let two = same_sleep t u found f same in (
        (λ eq. s.parks i t found at (two.1 ∙ eq ∙ sym two.0)),
        sym two.1 ∙ sym (eqb-true l.serving found is),
      );
    })
    by_test false is = stays_in_line l i t (Looks t) s (record {
      before = ap ticket_of at;
      owes = ap owing_of at;
      now = refl;
      none = refl;
      holds = λ u same. absurd cc;
      parks = λ u f same. absurd cc;
      sleeps = λ u f same. absurd cc;
    })

rouses : (l : Lock) (i : ℕ) (p : Place) → IsSound l → l.places i ≡ p → IsSound (roused l i p)
rouses l i (Sleeps t found) s at = stays_in_line l i t (Looks t) s (record {
  before = ap ticket_of at;
  owes = ap owing_of at;
  now = refl;
  none = refl;
  holds = λ u same. absurd cc;
  parks = λ u f same. absurd cc;
  sleeps = λ u f same. absurd cc;
})
rouses l i p s at = s

stores : (l : Lock) (i t : ℕ) → IsSound l → l.places i ≡ Holds t → IsSound (record { ticket = l.ticket; serving = t + 1; places = put l.places i (Stored t) })
stores l i t s at = one_moves l i (Stored t) l.ticket (t + 1) s (record {
  few = let below = (s.line i t (ap ticket_of at)).1 in omega arith;
  later = omega arith;
  rises = let same = s.holds i t at in omega arith;
  line = λ u is. absurd cc;
  others = λ j u other is. later j u other is (t == u) refl;
  apart = λ j u other is. absurd cc;
  all = λ u least below. let same = s.holds i t at in let found = s.all u (omega arith) below in
      inr (found.0, (λ is. let both : Some t ≡ Some u = ap ticket_of (sym at) ∙ ap (λ (n : ℕ). ticket_of (l.places n)) is ∙ found.1 in let one : t ≡ u = cc in absurd (omega arith)), found.1);
  holds = λ u is. absurd cc;
  held = λ j u other is. absurd (let one = s.holds i t at in let two = s.holds j u is in
      other (s.apart i j t (ap ticket_of at) (ap ticket_of is ∙ ap (λ (n : ℕ). Some n) (two ∙ sym one))));
  parks = λ u found is. absurd cc;
  sleeps = λ u found is. absurd cc;
  past = λ u is. let same : t ≡ u = cc in omega arith;
  owed = λ j u found is stale. record { thread = i; ticket = t; owes = inr (put_itself l.places i i (Stored t) refl, beyond j u found is) };
})
  where
    later : (j u : ℕ) → i ≢ j → ticket_of (l.places j) ≡ Some u → (b : Bool) → (t == u) ≡ b → t + 1 ≤ u
    later j u other is true same = absurd (other (s.apart i j t (ap ticket_of at) (is ∙ ap (λ (n : ℕ). Some n) (sym (eqb-true t u same)))))
    later j u other is false same =
        let apart : t ≢ u = eqb-false t u same in
        let least = (s.line j u is).0 in
        let one = s.holds i t at in grind arith

    -- a thread that sleeps has a later ticket
    beyond : (j u found : ℕ) → put l.places i (Stored t) j ≡ Sleeps u found → t + 1 < l.ticket
    beyond j u found is = decide i j _
        (λ same. absurd (let none = sym (put_itself l.places i j (Stored t) same) ∙ is in cc))
        (λ other.
        let its = ap ticket_of (sym (put_other l.places i j (Stored t) other) ∙ is) in
        let least = later j u other its (t == u) refl in
        let below = (s.line j u its).1 in omega arith)

sees : (l : Lock) (i t : ℕ) → IsSound l → l.places i ≡ Stored t →
    IsSound (record { ticket = l.ticket; serving = l.serving; places = put l.places i (if l.ticket == t + 1 then Outside else Wakes t) })
sees l i t s at = by_test (l.ticket == t + 1) refl
  where
    all : (p : Place) → (u : ℕ) → l.serving ≤ u → u < l.ticket → (ticket_of p ≡ Some u) ⊎ ((j : ℕ) × (i ≢ j) × (ticket_of (l.places j) ≡ Some u))
    all p u least below = let found = s.all u least below in
        inr (found.0, (λ same. let both : None ≡ Some u = ap ticket_of (sym at) ∙ ap (λ (n : ℕ). ticket_of (l.places n)) same ∙ found.1 in cc), found.1)

    by_test : (b : Bool) → (l.ticket == t + 1) ≡ b → IsSound (record { ticket = l.ticket; serving = l.serving; places = put l.places i (if b then Outside else Wakes t) })
    by_test true is = one_moves l i Outside l.ticket l.serving s (record {
      few = s.few;
      later = omega arith;
      rises = omega arith;
      line = λ u same. absurd cc;
      others = λ j u other line. (s.line j u line).0;
      apart = λ j u other line. absurd cc;
      all = all Outside;
      holds = λ u same. absurd cc;
      held = λ j u other same. s.holds j u same;
      parks = λ u found same. absurd cc;
      sleeps = λ u found same. absurd cc;
      past = λ u same. absurd cc;
      owed = λ j u found sleeps stale. decide i j _
          (λ same. absurd (let none = sym (put_itself l.places i j Outside same) ∙ sleeps in cc))
          (λ other.
          let line = s.line j u (ap ticket_of (sym (put_other l.places i j Outside other) ∙ sleeps)) in
          let past = s.past i t (ap owing_of at) in
          let last : l.ticket ≡ t + 1 = eqb-true l.ticket (t + 1) is in
          let least = line.0 in let below = line.1 in absurd (omega arith));
    })
    by_test false is = one_moves l i (Wakes t) l.ticket l.serving s (record {
      few = s.few;
      later = omega arith;
      rises = omega arith;
      line = λ u same. absurd cc;
      others = λ j u other line. (s.line j u line).0;
      apart = λ j u other line. absurd cc;
      all = all (Wakes t);
      holds = λ u same. absurd cc;
      held = λ j u other same. s.holds j u same;
      parks = λ u found same. absurd cc;
      sleeps = λ u found same. absurd cc;
      past = λ u same. s.past i u (ap owing_of at ∙ same);
      owed = λ j u found sleeps stale. record { thread = i; ticket = t; owes = inl (put_itself l.places i i (Wakes t) refl) };
    })

-- all that sleep look again
woken_line : (p : Place) → ticket_of (woken p) ≡ ticket_of p
woken_line (Sleeps t found) = refl
woken_line p = refl

woken_owing : (p : Place) → owing_of (woken p) ≡ owing_of p
woken_owing (Sleeps t found) = refl
woken_owing p = refl

woken_holds : (p : Place) (t : ℕ) → woken p ≡ Holds t → p ≡ Holds t
woken_holds (Sleeps u found) t is = absurd cc
woken_holds p t is = is

woken_parks : (p : Place) (t found : ℕ) → woken p ≡ Parks t found → p ≡ Parks t found
woken_parks (Sleeps u f) t found is = absurd cc
woken_parks p t found is = is

woken_sleeps : (p : Place) (t found : ℕ) → woken p ≢ Sleeps t found
woken_sleeps (Sleeps u f) t found is = cc
woken_sleeps Outside t found is = cc
woken_sleeps (Looks u) t found is = cc
woken_sleeps (Parks u f) t found is = cc
woken_sleeps (Holds u) t found is = cc
woken_sleeps (Stored u) t found is = cc
woken_sleeps (Wakes u) t found is = cc

all_woken : (l : Lock) → IsSound l → IsSound (record { ticket = l.ticket; serving = l.serving; places = λ j. woken (l.places j) })
all_woken l s = record {
  few = s.few;
  line = λ i t at. s.line i t (sym (woken_line (l.places i)) ∙ at);
  apart = λ i j t first second. s.apart i j t (sym (woken_line (l.places i)) ∙ first) (sym (woken_line (l.places j)) ∙ second);
  all = λ t least below. let found = s.all t least below in (found.0, woken_line (l.places found.0) ∙ found.1);
  holds = λ i t at. s.holds i t (woken_holds (l.places i) t at);
  parks = λ i t found at. s.parks i t found (woken_parks (l.places i) t found at);
  sleeps = λ i t found at. absurd (woken_sleeps (l.places i) t found at);
  past = λ i t at. s.past i t (sym (woken_owing (l.places i)) ∙ at);
  owed = λ i t found at stale. absurd (woken_sleeps (l.places i) t found at);
}

wakes : (l : Lock) (i t : ℕ) → IsSound l → l.places i ≡ Wakes t → IsSound (record { ticket = l.ticket; serving = l.serving; places = put (λ j. woken (l.places j)) i Outside })
wakes l i t s at =
    let m : Lock = record { ticket = l.ticket; serving = l.serving; places = λ j. woken (l.places j) } in
    let r : IsSound m = all_woken l s in
    one_moves m i Outside l.ticket l.serving r (record {
      few = s.few;
      later = omega arith;
      rises = omega arith;
      line = λ u same. absurd cc;
      others = λ j u other line. (r.line j u line).0;
      apart = λ j u other line. absurd cc;
      all = λ u least below. let found = r.all u least below in
          inr (found.0, (λ same. let both : None ≡ Some u = ap (λ (p : Place). ticket_of (woken p)) (sym at) ∙ ap (λ (n : ℕ). ticket_of (m.places n)) same ∙ found.1 in cc), found.1);
      holds = λ u same. absurd cc;
      held = λ j u other same. r.holds j u same;
      parks = λ u found same. absurd cc;
      sleeps = λ u found same. absurd cc;
      past = λ u same. absurd cc;
      owed = λ j u found sleeps stale. decide i j _
          (λ same. absurd (let none = sym (put_itself m.places i j Outside same) ∙ sleeps in cc))
          (λ other. absurd (woken_sleeps (l.places j) u found (sym (put_other m.places i j Outside other) ∙ sleeps)));
    })

calls : (l : Lock) (i : ℕ) (p : Place) → IsSound l → l.places i ≡ p → IsSound (called l i p)
calls l i Outside s at = draws l i s at
calls l i (Looks t) s at = looks l i t s at
calls l i (Parks t found) s at = parks l i t found s at
calls l i (Sleeps t found) s at = s
calls l i (Holds t) s at = stores l i t s at
calls l i (Stored t) s at = sees l i t s at
calls l i (Wakes t) s at = wakes l i t s at

moves_keep : (l : Lock) (m : Move) → IsSound l → IsSound (moved l m)
moves_keep l (Calls i) s = calls l i (l.places i) s refl
moves_keep l (Rouses i) s = rouses l i (l.places i) s refl

opens : IsSound begun
opens = record {
  few = omega arith;
  line = λ i t at. absurd cc;
  apart = λ i j t first second. absurd cc;
  all = λ t least below. absurd (omega arith);
  holds = λ i t at. absurd cc;
  parks = λ i t found at. absurd cc;
  sleeps = λ i t found at. absurd cc;
  past = λ i t at. absurd cc;
  owed = λ i t found at stale. absurd cc;
}

keeps : (l : Lock) (ms : List Move) → IsSound l → IsSound (after l ms)
keeps l [] s = s
keeps l (m ∷ ms) s = keeps (moved l m) ms (moves_keep l m s)

-- THE LAWS

pub whoever_is_served : (ms : List Move) (i t found : ℕ) → (after begun ms).places i ≡ Sleeps t found → (after begun ms).serving ≡ t → IsOwed (after begun ms)
whoever_is_served ms i t found at serves =
    let s = keeps begun ms opens in s.owed i t found at (λ same. s.sleeps i t found at (same ∙ serves))

owing_awake : (l : Lock) (i t : ℕ) → owing_of (l.places i) ≡ Some t → HasAwake l
owing_awake l i t owes = record {
  thread = i;
  awake = λ u found is. let none = ap owing_of is in cc;
  inside = λ is. let none = ap owing_of is in cc;
}

owed_awake : (l : Lock) → IsOwed l → HasAwake l
owed_awake l owed = owing_awake l owed.thread owed.ticket (owes_one l owed)

-- the thread that is served
served_awake : (l : Lock) (j : ℕ) (p : Place) → IsSound l → l.places j ≡ p → ticket_of p ≡ Some l.serving → HasAwake l
served_awake l j (Looks t) s at line = record { thread = j; awake = λ u found is. let both = sym at ∙ is in cc; inside = λ is. let both = sym at ∙ is in cc }
served_awake l j (Parks t f) s at line = record { thread = j; awake = λ u found is. let both = sym at ∙ is in cc; inside = λ is. let both = sym at ∙ is in cc }
served_awake l j (Holds t) s at line = record { thread = j; awake = λ u found is. let both = sym at ∙ is in cc; inside = λ is. let both = sym at ∙ is in cc }
served_awake l j (Sleeps t found) s at line =
    let same : t ≡ l.serving = cc in owed_awake l (s.owed j t found at (λ is. s.sleeps j t found at (is ∙ sym same)))
served_awake l j Outside s at line = absurd cc
served_awake l j (Stored t) s at line = absurd cc
served_awake l j (Wakes t) s at line = absurd cc

in_line : (l : Lock) (i t : ℕ) → IsSound l → ticket_of (l.places i) ≡ Some t → HasAwake l
in_line l i t s at =
    let line = s.line i t at in
    let least = line.0 in
    let below = line.1 in
    let first = s.all l.serving (omega arith) (omega arith) in
    served_awake l first.0 (l.places first.0) s refl first.1

inside_awake : (l : Lock) (i : ℕ) (p : Place) → IsSound l → l.places i ≡ p → p ≢ Outside → HasAwake l
inside_awake l i Outside s at inside = absurd (inside refl)
inside_awake l i (Stored t) s at inside = owing_awake l i t (ap owing_of at)
inside_awake l i (Wakes t) s at inside = owing_awake l i t (ap owing_of at)
inside_awake l i (Looks t) s at inside = in_line l i t s (ap ticket_of at)
inside_awake l i (Parks t found) s at inside = in_line l i t s (ap ticket_of at)
inside_awake l i (Sleeps t found) s at inside = in_line l i t s (ap ticket_of at)
inside_awake l i (Holds t) s at inside = in_line l i t s (ap ticket_of at)

pub some_thread_is_awake : (ms : List Move) (i : ℕ) → (after begun ms).places i ≢ Outside → HasAwake (after begun ms)
some_thread_is_awake ms i inside = inside_awake (after begun ms) i ((after begun ms).places i) (keeps begun ms opens) refl inside
