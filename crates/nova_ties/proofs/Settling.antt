-- What comes of joining sides: the ties are respected, and no sides are joined that needn't be.
use Rattle.std.proofs.Common.{◌≡◌, ◌≢◌, ◌⊎◌, ◌<◌, ◌≤◌, ◌+◌, ◌++◌, ℕ, zero, suc, List, [], ◌∷◌, length, take, drop, set, get_or, refl, sym, ap, ap₂, ◌∙◌, subst, inl, inr, arith}
use Rattle.std.specs.Prelude.{◌==◌, ◌||◌, ◌&&◌, Bool, true, false, not, if◌then◌else◌, max, min, Option, Some, None, find, map, IfNone, IfSome}
use Rattle.std.proofs.lemmas.Bool.{and_parts, cases_eq, cases_lt, eq-eqb, eqb-false, eqb-true, ne_eqb, not-false, not-true, or_cases, or_parts}
use Rattle.std.proofs.lemmas.List.{append_assoc, at_drop_all, at_drop_more, drop-set-lt, drop_more, take_more_set}
use Rattle.std.proofs.lemmas.List.Elements.{Contains-append_right, Contains-get_or}
use Rattle.std.proofs.lemmas.Option.{same_Some}
use Rattle.nova_ties.specs.Ties.{AreLeast, AreRespected, IsCoarser, IsStuck, Respects, is_met, is_respected, is_stuck, label_in, met, renamed, settled}
use Rattle.nova_ties.specs.declared.tie.Tie.{Tie}

-- THE TEST OF A TIE

pub respects_from : (label : ℕ → ℕ) (t : Tie) → is_respected label t ≡ true → Respects label t
respects_from label t is some = elim (or_cases (label t.from == 0) ((label t.to == label t.from) || (not t.strict && (label t.to == 0))) is) [
  | inl none ↦ absurd (some (eqb-true (label t.from) 0 none))
  | inr more ↦ elim (or_cases (label t.to == label t.from) (not t.strict && (label t.to == 0)) more) [
    | inl same ↦ inl (eqb-true (label t.to) (label t.from) same)
    | inr both ↦
        let parts = and_parts (not t.strict) (label t.to == 0) both in
        inr (not-true t.strict parts.0, eqb-true (label t.to) 0 parts.1)
  ]
]

-- what is known of a tie that isn't respected
pub record IsBroken (label : ℕ → ℕ) (t : Tie) : Type 0 where
  pub from : label t.from ≢ 0
  pub apart : label t.to ≢ label t.from
  pub to : (t.strict ≡ true) ⊎ (label t.to ≢ 0)

pub broken_from : (label : ℕ → ℕ) (t : Tie) → is_respected label t ≡ false → IsBroken label t
broken_from label t is =
    let outer = or_parts (label t.from == 0) ((label t.to == label t.from) || (not t.strict && (label t.to == 0))) is in
    let inner = or_parts (label t.to == label t.from) (not t.strict && (label t.to == 0)) outer.1 in
    record { from = eqb-false (label t.from) 0 outer.0; apart = eqb-false (label t.to) (label t.from) inner.0; to = by_strict t.strict refl inner.1 }
  where
    by_strict : (b : Bool) → t.strict ≡ b → (not b && (label t.to == 0)) ≡ false → (b ≡ true) ⊎ (label t.to ≢ 0)
    by_strict true is none = inl refl
    by_strict false is none = inr (eqb-false (label t.to) 0 none)

pub respected_from : (label : ℕ → ℕ) (t : Tie) → Respects label t → is_respected label t ≡ true
respected_from label t holds = by_test (is_respected label t) refl
  where
    no : IsBroken label t → ⊥
    no b = elim (holds b.from) [
      | inl same ↦ b.apart same
      | inr weak ↦ elim b.to [
        | inl strict ↦ absurd (let false_is_true : false ≡ true = sym weak.0 ∙ strict in cc)
        | inr some ↦ some weak.1
      ]
    ]

    by_test : (b : Bool) → is_respected label t ≡ b → b ≡ true
    by_test true is = refl
    by_test false is = absurd (no (broken_from label t is))

-- ONE TIE

renamed_none : (old new : ℕ) → old ≢ 0 → renamed old new 0 ≡ 0
renamed_none old new some = ap (λ (b : Bool). if b then new else 0) (ne_eqb 0 old (λ same. some (sym same)))

renamed_it : (old new : ℕ) → renamed old new old ≡ new
renamed_it old new = ap (λ (b : Bool). if b then new else old) (eq-eqb old old refl)

renamed_other : (old new label : ℕ) → label ≢ old → renamed old new label ≡ label
renamed_other old new label other = ap (λ (b : Bool). if b then new else label) (ne_eqb label old other)

renamed_own : (a b : ℕ) → renamed b a a ≡ a
renamed_own a b = elim (cases_eq a b) [
  | inl same ↦ ap (renamed b a) same ∙ renamed_it b a
  | inr other ↦ renamed_other b a a other
]

renamed_some : (old new label : ℕ) → new ≢ 0 → label ≢ 0 → renamed old new label ≢ 0
renamed_some old new label some its = elim (cases_eq label old) [
  | inl same ↦ λ none. some (sym (ap (renamed old new) same ∙ renamed_it old new) ∙ none)
  | inr other ↦ λ none. its (sym (renamed_other old new label other) ∙ none)
]

-- what a table has of renamed labels
renamed_in : (old new : ℕ) → old ≢ 0 → (labels : List ℕ) (n : ℕ) → label_in (map (renamed old new) labels) n ≡ renamed old new (label_in labels n)
renamed_in old new some [] n = sym (renamed_none old new some)
renamed_in old new some (l ∷ labels) zero = refl
renamed_in old new some (l ∷ labels) (suc n) = renamed_in old new some labels n

-- the two domains of a tie, in either order
abbrev AreOf : Tie → ℕ → ℕ → Type 0
AreOf t stay go = ((stay ≡ t.from) × (go ≡ t.to)) ⊎ ((stay ≡ t.to) × (go ≡ t.from))

-- the labels respected the tie, and stay; or the side of one of its domains takes the lesser label, that of the other
data IsMet (old : List ℕ) (t : Tie) (new : List ℕ) : Type 0 where
  Stays : is_respected (label_in old) t ≡ true → new ≡ old → IsMet old t new
  Joins : (stay go : ℕ) → AreOf t stay go → label_in old stay ≢ 0 → label_in old go ≢ 0 → label_in old stay ≤ label_in old go →
      ((n : ℕ) → label_in new n ≡ renamed (label_in old go) (label_in old stay) (label_in old n)) → IsMet old t new

-- the labels of which the lesser of two stays
abbrev joined_labels : List ℕ → Tie → List ℕ
joined_labels labels t = map (renamed (max (label_in labels t.from) (label_in labels t.to)) (min (label_in labels t.from) (label_in labels t.to))) labels

met_is : (old : List ℕ) (t : Tie) → is_met old t ≡ true → IsMet old t (met old t)
met_is old t is = by_tests (is_respected (label_in old) t) refl (label_in old t.to == 0) refl is
  where
    by_order : label_in old t.from ≢ 0 → label_in old t.to ≢ 0 → (label_in old t.from < label_in old t.to) ⊎ (label_in old t.to ≤ label_in old t.from) → IsMet old t (joined_labels old t)
    by_order from to (inl before) =
        let most : max (label_in old t.from) (label_in old t.to) ≡ label_in old t.to = omega (arith, before) in
        let least : min (label_in old t.from) (label_in old t.to) ≡ label_in old t.from = omega (arith, before) in
        subst (IsMet old t) (sym (ap₂ (λ (x y : ℕ). map (renamed x y) old) most least))
        (Joins t.from t.to (inl (refl, refl)) from to (omega (arith, before)) (renamed_in (label_in old t.to) (label_in old t.from) to old))
    by_order from to (inr after) =
        let most : max (label_in old t.from) (label_in old t.to) ≡ label_in old t.from = omega (arith, after) in
        let least : min (label_in old t.from) (label_in old t.to) ≡ label_in old t.to = omega (arith, after) in
        subst (IsMet old t) (sym (ap₂ (λ (x y : ℕ). map (renamed x y) old) most least))
        (Joins t.to t.from (inr (refl, refl)) to from after (renamed_in (label_in old t.from) (label_in old t.to) from old))

    by_tests : (r : Bool) → is_respected (label_in old) t ≡ r → (z : Bool) → (label_in old t.to == 0) ≡ z → (r || not z) ≡ true → IsMet old t (if r || z then old else joined_labels old t)
    by_tests true r z n is = Stays r refl
    by_tests false r true n is = absurd (cc)
    by_tests false r false n is = by_order (broken_from (label_in old) t r).from (eqb-false (label_in old t.to) 0 n) (cases_lt (label_in old t.from) (label_in old t.to))

met_respects : (old new : List ℕ) (t : Tie) → IsMet old t new → Respects (label_in new) t
met_respects old new t (Stays is same) = subst (λ (l : List ℕ). Respects (label_in l) t) (sym same) (respects_from (label_in old) t is)
met_respects old new t (Joins stay go of first second lesser all) = λ some. inl (by_order of)
  where
    one : label_in new go ≡ label_in new stay
    one = all go ∙ renamed_it (label_in old go) (label_in old stay) ∙ sym (all stay ∙ renamed_own (label_in old stay) (label_in old go))

    by_order : AreOf t stay go → label_in new t.to ≡ label_in new t.from
    by_order (inl both) = sym (ap (label_in new) both.1) ∙ one ∙ ap (label_in new) both.0
    by_order (inr both) = sym (ap (label_in new) both.0) ∙ sym one ∙ ap (label_in new) both.1

-- a domain that had no label has none, and a domain that had one has one
met_none : (old new : List ℕ) (t : Tie) → IsMet old t new → (n : ℕ) → label_in old n ≡ 0 → label_in new n ≡ 0
met_none old new t (Stays is same) n none = ap (λ (l : List ℕ). label_in l n) same ∙ none
met_none old new t (Joins stay go of first second lesser all) n none = all n ∙ ap (renamed (label_in old go) (label_in old stay)) none ∙ renamed_none (label_in old go) (label_in old stay) second

met_some : (old new : List ℕ) (t : Tie) → IsMet old t new → (n : ℕ) → label_in old n ≢ 0 → label_in new n ≢ 0
met_some old new t (Stays is same) n some = λ none. some (sym (ap (λ (l : List ℕ). label_in l n) same) ∙ none)
met_some old new t (Joins stay go of first second lesser all) n some = λ none. renamed_some (label_in old go) (label_in old stay) (label_in old n) first some (sym (all n) ∙ none)

met_zero : (old new : List ℕ) (t : Tie) → IsMet old t new → (n : ℕ) → (label_in new n == 0) ≡ (label_in old n == 0)
met_zero old new t m n = elim (cases_eq (label_in old n) 0) [
  | inl none ↦ eq-eqb (label_in new n) 0 (met_none old new t m n none) ∙ sym (eq-eqb (label_in old n) 0 none)
  | inr some ↦ ne_eqb (label_in new n) 0 (met_some old new t m n some) ∙ sym (ne_eqb (label_in old n) 0 some)
]

met_joined : (old new : List ℕ) (t : Tie) → IsMet old t new → (m n : ℕ) → label_in old m ≡ label_in old n → label_in new m ≡ label_in new n
met_joined old new t (Stays is same) m n h = ap (λ (l : List ℕ). label_in l m) same ∙ h ∙ sym (ap (λ (l : List ℕ). label_in l n) same)
met_joined old new t (Joins stay go of first second lesser all) m n h = all m ∙ ap (renamed (label_in old go) (label_in old stay)) h ∙ sym (all n)

met_coarser : (old new : List ℕ) (t : Tie) → IsMet old t new → IsCoarser (label_in new) (label_in old)
met_coarser old new t m = record { sides = met_some old new t m; joined = λ p n some h. met_joined old new t m p n h }

-- ties that were respected are so still
met_keeps : (old new : List ℕ) (t u : Tie) → IsMet old t new → Respects (label_in old) u → Respects (label_in new) u
met_keeps old new t u m holds some = elim (holds (λ none. some (met_none old new t m u.from none))) [
  | inl same ↦ inl (met_joined old new t m u.to u.from same)
  | inr weak ↦ inr (weak.0, met_none old new t m u.to weak.1)
]

-- labels that respect the tie, and join what was joined, join what is joined now
met_finest : (old new : List ℕ) (t : Tie) (label : ℕ → ℕ) → IsMet old t new → Respects label t → IsCoarser label (label_in old) → IsCoarser label (label_in new)
met_finest old new t label (Stays is same) holds c = subst (λ (l : List ℕ). IsCoarser label (label_in l)) (sym same) c
met_finest old new t label (Joins stay go of first second lesser all) holds c = record {
  sides = λ n some. c.sides n (λ none. some (all n ∙ ap (renamed b a) none ∙ renamed_none b a second));
  joined = λ m n some h. by_places m n (λ none. some (all m ∙ ap (renamed b a) none ∙ renamed_none b a second)) (sym (all m) ∙ h ∙ all n) (cases_eq (label_in old m) b) (cases_eq (label_in old n) b);
}
  where
    a : ℕ
    a = label_in old stay

    b : ℕ
    b = label_in old go

    tied : label_in old t.from ≢ 0 → label_in old t.to ≢ 0 → label t.to ≡ label t.from
    tied from to = elim (holds (c.sides t.from from)) [
      | inl same ↦ same
      | inr weak ↦ absurd (c.sides t.to to weak.1)
    ]

    by_order : AreOf t stay go → label go ≡ label stay
    by_order (inl both) =
        ap label both.1 ∙ tied (subst (λ (n : ℕ). label_in old n ≢ 0) both.0 first) (subst (λ (n : ℕ). label_in old n ≢ 0) both.1 second) ∙ sym (ap label both.0)
    by_order (inr both) =
        ap label both.1 ∙ sym (tied (subst (λ (n : ℕ). label_in old n ≢ 0) both.1 second) (subst (λ (n : ℕ). label_in old n ≢ 0) both.0 first)) ∙ sym (ap label both.0)

    one : label go ≡ label stay
    one = by_order of

    by_places : (m n : ℕ) → label_in old m ≢ 0 → renamed b a (label_in old m) ≡ renamed b a (label_in old n) → (label_in old m ≡ b) ⊎ (label_in old m ≢ b) → (label_in old n ≡ b) ⊎ (label_in old n ≢ b) →
        label m ≡ label n
    by_places m n some h (inl p) (inl q) = c.joined m n some (p ∙ sym q)
    by_places m n some h (inl p) (inr q) =
        let its : a ≡ label_in old n = sym (ap (renamed b a) p ∙ renamed_it b a) ∙ h ∙ renamed_other b a (label_in old n) q in
        c.joined m go some p ∙ one ∙ c.joined stay n first its
    by_places m n some h (inr p) (inl q) =
        let its : label_in old m ≡ a = sym (renamed_other b a (label_in old m) p) ∙ h ∙ ap (renamed b a) q ∙ renamed_it b a in
        c.joined m stay some its ∙ sym one ∙ c.joined go n second (sym q)
    by_places m n some h (inr p) (inr q) =
        c.joined m n some (sym (renamed_other b a (label_in old m) p) ∙ h ∙ renamed_other b a (label_in old n) q)

-- a side has the least label of its own before
least_itself : (label : ℕ → ℕ) → AreLeast label label
least_itself label = record { had = λ n some. (n, refl, refl); least = λ m n same. omega (arith, same) }

met_least : (old new : List ℕ) (t : Tie) → IsMet old t new → AreLeast (label_in new) (label_in old)
met_least old new t (Stays is same) = subst (λ (l : List ℕ). AreLeast (label_in l) (label_in old)) (sym same) (least_itself (label_in old))
met_least old new t (Joins stay go of first second lesser all) = record {
  had = λ n some. by_place n (cases_eq (label_in old n) (label_in old go));
  least = λ m n same. by_label m n same (cases_eq (label_in old m) (label_in old go));
}
  where
    goes : (n : ℕ) → label_in old n ≡ label_in old go → label_in new n ≡ label_in old stay
    goes n is = all n ∙ ap (renamed (label_in old go) (label_in old stay)) is ∙ renamed_it (label_in old go) (label_in old stay)

    by_place : (n : ℕ) → (label_in old n ≡ label_in old go) ⊎ (label_in old n ≢ label_in old go) → (m : ℕ) × (label_in new m ≡ label_in new n) × (label_in old m ≡ label_in new n)
    by_place n (inl is) = (stay, all stay ∙ renamed_own (label_in old stay) (label_in old go) ∙ sym (goes n is), sym (goes n is))
    by_place n (inr other) = (n, refl, sym (all n ∙ renamed_other (label_in old go) (label_in old stay) (label_in old n) other))

    by_label : (m n : ℕ) → label_in new m ≡ label_in new n → (label_in old m ≡ label_in old go) ⊎ (label_in old m ≢ label_in old go) → label_in new n ≤ label_in old m
    by_label m n same (inl is) =
        let its : label_in new n ≡ label_in old stay = sym same ∙ goes m is in
        omega (arith, its, is, lesser)
    by_label m n same (inr other) =
        let its : label_in new n ≡ label_in old m = sym same ∙ all m ∙ renamed_other (label_in old go) (label_in old stay) (label_in old m) other in
        omega (arith, its)

-- ALL TIES

pub settled_on : (t : Tie) (ties : List Tie) (labels : List ℕ) → is_met labels t ≡ true → settled (t ∷ ties) labels ≡ settled ties (met labels t)
unfolding settled
settled_on t ties labels is = ap (λ (b : Bool). if b then settled ties (met labels t) else (labels, Some t)) is

pub settled_off : (t : Tie) (ties : List Tie) (labels : List ℕ) → is_met labels t ≡ false → settled (t ∷ ties) labels ≡ (labels, Some t)
unfolding settled
settled_off t ties labels is = ap (λ (b : Bool). if b then settled ties (met labels t) else (labels, Some t)) is

pub settled_end : (labels : List ℕ) → settled [] labels ≡ (labels, None)
unfolding settled
settled_end labels = refl

-- where a tie can't be respected the labels stay
pub unmet_stays : (t : Tie) (labels : List ℕ) → is_met labels t ≡ false → met labels t ≡ labels
unmet_stays t labels is =
    let parts = or_parts (is_respected (label_in labels) t) (not (label_in labels t.to == 0)) is in
    ap (λ (b : Bool). if is_respected (label_in labels) t || b then labels else joined_labels labels t) (not-false (label_in labels t.to == 0) parts.1)
    ∙ by_test (is_respected (label_in labels) t)
  where
    by_test : (b : Bool) → (if b || true then labels else joined_labels labels t) ≡ labels
    by_test true = refl
    by_test false = refl

pub record Settles (ties : List Tie) (old : List ℕ) (r : List ℕ × Option Tie) : Type 0 where
  pub keeps : (u : Tie) → Respects (label_in old) u → Respects (label_in r.0) u
  pub respected : r.1 ≡ None → AreRespected (label_in r.0) ties
  pub zero : (n : ℕ) → (label_in r.0 n == 0) ≡ (label_in old n == 0)
  pub joined : IsCoarser (label_in r.0) (label_in old)
  pub finest : (label : ℕ → ℕ) → AreRespected label ties → IsCoarser label (label_in old) → IsCoarser label (label_in r.0)
  pub stuck : (t : Tie) → r.1 ≡ Some t → IsStuck ties (label_in old) t
  pub least : AreLeast (label_in r.0) (label_in old)

coarser_itself : (label : ℕ → ℕ) → IsCoarser label label
coarser_itself label = record { sides = λ n some. some; joined = λ m n some same. same }

coarser_along : (a b c : ℕ → ℕ) → IsCoarser c b → IsCoarser b a → IsCoarser c a
coarser_along a b c upper lower = record {
  sides = λ n some. upper.sides n (lower.sides n some);
  joined = λ m n some same. upper.joined m n (lower.sides m some) (lower.joined m n some same);
}

least_along : (a b c : ℕ → ℕ) → IsCoarser c b → AreLeast c b → AreLeast b a → AreLeast c a
least_along a b c coarser upper lower = record {
  had = λ n some. by_upper n some (upper.had n some);
  least = λ m n same. let more = upper.least m n same in let less = lower.least m m refl in omega (arith, more, less);
}
  where
    by_upper : (n : ℕ) → c n ≢ 0 → ((m : ℕ) × (c m ≡ c n) × (b m ≡ c n)) → (m : ℕ) × (c m ≡ c n) × (a m ≡ c n)
    by_upper n some u =
        let l = lower.had u.0 (λ none. some (sym u.2 ∙ none)) in
        (l.0, coarser.joined l.0 u.0 (λ none. some (sym (l.1 ∙ u.2) ∙ none)) l.1 ∙ u.1, l.2 ∙ u.2)

-- WHICH TIE IS STUCK

find_on : (test : Tie → Bool) (t : Tie) (ties : List Tie) → test t ≡ false → find test (t ∷ ties) ≡ find test ties
find_on test t ties is = ap (λ (b : Bool). if b then Some t else find test ties) is

find_here : (test : Tie → Bool) (t : Tie) (ties : List Tie) → test t ≡ true → find test (t ∷ ties) ≡ Some t
find_here test t ties is = ap (λ (b : Bool). if b then Some t else find test ties) is

find_alike : (one other : Tie → Bool) (ties : List Tie) → ((t : Tie) → one t ≡ other t) → find one ties ≡ find other ties
find_alike one other [] same = refl
find_alike one other (t ∷ ties) same = ap₂ (λ (b : Bool) (o : Option Tie). if b then Some t else o) (same t) (find_alike one other ties same)

-- whether one is depends on which domains are trusted alone
stuck_alike : (one other : ℕ → ℕ) → ((n : ℕ) → (one n == 0) ≡ (other n == 0)) → (t : Tie) → is_stuck one t ≡ is_stuck other t
stuck_alike one other same t = ap₂ (λ (from to : Bool). t.strict && (not from && to)) (same t.from) (same t.to)

-- what labels respect isn't stuck, and neither is what can be met
respected_free : (label : ℕ → ℕ) (t : Tie) → Respects label t → is_stuck label t ≡ false
respected_free label t holds = by_tests t.strict refl (label t.from == 0) refl (label t.to == 0) refl
  where
    no : t.strict ≡ true → label t.from ≢ 0 → label t.to ≡ 0 → (label t.to ≡ label t.from) ⊎ ((t.strict ≡ false) × (label t.to ≡ 0)) → ⊥
    no strict some none (inl same) = some (sym same ∙ none)
    no strict some none (inr weak) = absurd (let true_is_false : true ≡ false = sym strict ∙ weak.0 in cc)

    by_tests : (s : Bool) → t.strict ≡ s → (f : Bool) → (label t.from == 0) ≡ f → (z : Bool) → (label t.to == 0) ≡ z → (s && (not f && z)) ≡ false
    by_tests false s f is z none = refl
    by_tests true s true is z none = refl
    by_tests true s false is false none = refl
    by_tests true s false is true none =
        let some = eqb-false (label t.from) 0 is in
        absurd (no s some (eqb-true (label t.to) 0 none) (holds some))

met_free : (old new : List ℕ) (t : Tie) → IsMet old t new → is_stuck (label_in old) t ≡ false
met_free old new t m = sym (stuck_alike (label_in new) (label_in old) (met_zero old new t m) t) ∙ respected_free (label_in new) t (met_respects old new t m)

-- the tie at which it stops
stops : (t : Tie) (ties : List Tie) (old : List ℕ) → is_met old t ≡ false → IsStuck (t ∷ ties) (label_in old) t
stops t ties old is =
    let parts = or_parts (is_respected (label_in old) t) (not (label_in old t.to == 0)) is in
    let broken = broken_from (label_in old) t parts.0 in
    let none = eqb-true (label_in old t.to) 0 (not-false (label_in old t.to == 0) parts.1) in
    let strict = is_strict broken none in
    record {
      there = Contains-get_or (t ∷ ties) 0 t (omega arith);
      sided = broken.from;
      trusted = none;
      strict = strict;
      first = find_here (is_stuck (label_in old)) t ties (by_parts strict (ne_eqb (label_in old t.from) 0 broken.from) (eq-eqb (label_in old t.to) 0 none));
      no = λ label all c its. by_one label (c.sides t.from broken.from) (all.0 (c.sides t.from broken.from)) strict its;
    }
  where
    by_parts : t.strict ≡ true → (label_in old t.from == 0) ≡ false → (label_in old t.to == 0) ≡ true → is_stuck (label_in old) t ≡ true
    by_parts strict from to = ap (λ (s : Bool). s && (not (label_in old t.from == 0) && (label_in old t.to == 0))) strict ∙ ap₂ (λ (f z : Bool). not f && z) from to

    is_strict : IsBroken (label_in old) t → label_in old t.to ≡ 0 → t.strict ≡ true
    is_strict broken none = elim broken.to [
      | inl strict ↦ strict
      | inr some ↦ absurd (some none)
    ]

    by_one : (label : ℕ → ℕ) → label t.from ≢ 0 → (label t.to ≡ label t.from) ⊎ ((t.strict ≡ false) × (label t.to ≡ 0)) → t.strict ≡ true → label t.to ≡ 0 → ⊥
    by_one label some (inl same) strict its = some (sym same ∙ its)
    by_one label some (inr weak) strict its = absurd (let true_is_false : true ≡ false = sym strict ∙ weak.0 in cc)

-- a tie that is stuck later is stuck
stuck_later : (t u : Tie) (ties : List Tie) (old : List ℕ) → is_met old t ≡ true → IsStuck ties (label_in (met old t)) u → IsStuck (t ∷ ties) (label_in old) u
stuck_later t u ties old is s =
    let m = met_is old t is in
    record {
      there = Contains-append_right (t ∷ []) ties u s.there;
      sided = λ none. s.sided (met_none old (met old t) t m u.from none);
      trusted = was m (cases_eq (label_in old u.to) 0);
      strict = s.strict;
      first = find_on (is_stuck (label_in old)) t ties (met_free old (met old t) t m)
          ∙ sym (find_alike (is_stuck (label_in (met old t))) (is_stuck (label_in old)) ties (stuck_alike (label_in (met old t)) (label_in old) (met_zero old (met old t) t m)))
          ∙ s.first;
      no = λ label all c. s.no label all.1 (met_finest old (met old t) t label m all.0 c);
    }
  where
    was : IsMet old t (met old t) → (label_in old u.to ≡ 0) ⊎ (label_in old u.to ≢ 0) → label_in old u.to ≡ 0
    was m (inl none) = none
    was m (inr some) = absurd (met_some old (met old t) t m u.to some s.trusted)

pub settles : (ties : List Tie) (old : List ℕ) → Settles ties old (settled ties old)
unfolding settled
settles [] old = record {
  keeps = λ u holds. holds;
  respected = λ none. tt;
  zero = λ n. refl;
  joined = coarser_itself (label_in old);
  finest = λ label all c. c;
  stuck = λ t is. absurd (let no : ◌≡◌ {A = Option Tie} None (Some t) = is in cc);
  least = least_itself (label_in old);
}
settles (t ∷ ties) old = by_test (is_met old t) refl (settles ties (met old t))
  where
    by_test : (b : Bool) → is_met old t ≡ b → Settles ties (met old t) (settled ties (met old t)) → Settles (t ∷ ties) old (if b then settled ties (met old t) else (old, Some t))
    by_test true is later =
        let m = met_is old t is in
        record {
          keeps = λ u holds. later.keeps u (met_keeps old (met old t) t u m holds);
          respected = λ none. (later.keeps t (met_respects old (met old t) t m), later.respected none);
          zero = λ n. later.zero n ∙ met_zero old (met old t) t m n;
          joined = coarser_along (label_in old) (label_in (met old t)) (label_in (settled ties (met old t)).0) later.joined (met_coarser old (met old t) t m);
          finest = λ label all c. later.finest label all.1 (met_finest old (met old t) t label m all.0 c);
          stuck = λ u stops_. stuck_later t u ties old is (later.stuck u stops_);
          least = least_along (label_in old) (label_in (met old t)) (label_in (settled ties (met old t)).0) later.joined later.least (met_least old (met old t) t m);
        }
    by_test false is later = record {
      keeps = λ u holds. holds;
      respected = λ none. absurd (let no : ◌≡◌ {A = Option Tie} (Some t) None = none in cc);
      zero = λ n. refl;
      joined = coarser_itself (label_in old);
      finest = λ label all c. c;
      stuck = λ u same. subst (IsStuck (t ∷ ties) (label_in old)) (same_Some t u same) (stops t ties old is);
      least = least_itself (label_in old);
    }

pub settles_as : (ties : List Tie) (old new : List ℕ) (r : Option Tie) → new ≡ (settled ties old).0 → r ≡ (settled ties old).1 → Settles ties old (new, r)
settles_as ties old new r labels stuck =
    subst (λ (o : Option Tie). Settles ties old (new, o)) (sym stuck) (subst (λ (l : List ℕ). Settles ties old (l, (settled ties old).1)) (sym labels) (settles ties old))

pub none_if : (r : Option Tie) (P : Type 0) → (r ≡ None → P) → IfNone r P
none_if None P h = h refl
none_if (Some t) P h = tt

pub some_if : (r : Option Tie) (P : Tie → Type 0) → ((t : Tie) → r ≡ Some t → P t) → IfSome r P
some_if None P h = tt
some_if (Some t) P h = h t refl

-- ALONG A LOOP

pub step_on : (ties : List Tie) (labels start : List ℕ) (i : ℕ) (d : Tie) → i < length ties → settled (drop i ties) labels ≡ settled ties start → is_met labels (get_or ties i d) ≡ true →
    settled (drop (i + 1) ties) (met labels (get_or ties i d)) ≡ settled ties start
step_on ties labels start i d below left is =
    sym (at_drop_more (λ (l : List Tie). settled l labels) ties i d below ∙ settled_on (get_or ties i d) (drop (i + 1) ties) labels is) ∙ left

pub step_off : (ties : List Tie) (labels start : List ℕ) (i : ℕ) (d : Tie) → i < length ties → settled (drop i ties) labels ≡ settled ties start → is_met labels (get_or ties i d) ≡ false →
    settled ties start ≡ (labels, Some (get_or ties i d))
step_off ties labels start i d below left is =
    sym left ∙ at_drop_more (λ (l : List Tie). settled l labels) ties i d below ∙ settled_off (get_or ties i d) (drop (i + 1) ties) labels is

pub step_end : (ties : List Tie) (labels start : List ℕ) (i : ℕ) → length ties ≤ i → settled (drop i ties) labels ≡ settled ties start → settled ties start ≡ (labels, None)
step_end ties labels start i all left = sym left ∙ at_drop_all (λ (l : List Tie). settled l labels) ties i all ∙ settled_end labels

pub renamed_more : (f : ℕ → ℕ) (labels all : List ℕ) (i x : ℕ) → i < length labels → x ≡ f (get_or labels i 0) → take i labels ++ map f (drop i labels) ≡ all →
    take (i + 1) (set labels i x) ++ map f (drop (i + 1) (set labels i x)) ≡ all
renamed_more f labels all i x below is left =
    ap (λ (l : List ℕ). l ++ map f (drop (i + 1) (set labels i x))) (take_more_set labels i x below)
    ∙ append_assoc (take i labels) (x ∷ []) (map f (drop (i + 1) (set labels i x)))
    ∙ ap (λ (l : List ℕ). take i labels ++ (x ∷ map f l)) (drop-set-lt (i + 1) labels i x (omega arith))
    ∙ ap (λ (y : ℕ). take i labels ++ (y ∷ map f (drop (i + 1) labels))) is
    ∙ sym (ap (λ (l : List ℕ). take i labels ++ map f l) (drop_more labels i 0 below))
    ∙ left

pub step_stops : (ties : List Tie) (labels start new : List ℕ) (i : ℕ) (d : Tie) → i < length ties → settled (drop i ties) labels ≡ settled ties start → is_met labels (get_or ties i d) ≡ false →
    new ≡ met labels (get_or ties i d) → new ≡ (settled ties start).0
step_stops ties labels start new i d below left is after =
    after ∙ unmet_stays (get_or ties i d) labels is ∙ sym (ap (λ (r : List ℕ × Option Tie). r.0) (step_off ties labels start i d below left is))
