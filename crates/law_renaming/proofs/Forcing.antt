-- Pairs are forced: each renaming under which guests and inputs agree has them, and where all but the frames is equal they make them agree.
use Rattle.std.proofs.Common.{◌≡◌, ℕ, zero, suc, ◌+◌, ◌^◌, ◌<◌, ◌⊎◌, List, [], ◌∷◌, ◌++◌, ap, ap₂, sym, ◌∙◌, subst, subst₂, refl, inl, inr, arith}
use Rattle.std.specs.Prelude.{Bool, true, false, ◌==◌, ◌&&◌, ◌||◌, Option, Some, None}
use Rattle.std.specs.Cmp.Lexicographic.{bytes_decides, same_text}
use Rattle.std.proofs.lemmas.Bool.{and_from, and_parts, eq-eqb, eqb-true}
use Rattle.std.proofs.lemmas.List.Folds.{list_any-append}
use Rattle.rv_model.specs.Registers.{Registers}
use Rattle.nova_range.specs.declared.rights.Rights.{Rights}
use Rattle.nova_range.specs.declared.mtd.Mtd.{Mtd}
use Rattle.nova_guest.specs.declared.guest.GuestState.{GuestState}
use Rattle.nova_guest.specs.declared.guest.GuestState.TheVariants.{Fresh, Ready, Exit, Waiting, Dead}
use Rattle.nova_guest.specs.declared.input.Input.{Input}
use Rattle.nova_guest.specs.declared.input.Input.TheVariants.{Own, Reply, Recall, Given, Taken, Foreign, Sent, Died}
use Rattle.nova_guest.specs.declared.map.Map.{Map}
use Rattle.law_renaming.specs.Forced.{alike_input, alike_inputs, alike_map, alike_maps, among, input_pairs, inputs_pairs, is_pair, maps_pairs, paired, same_bytes, same_flag, same_numbers, same_registers, same_state}
use Rattle.law_renaming.specs.Renamings.{InputAgrees, InputsAgree, MapAgrees, MapsAgree, Renames}

-- TESTS
pub or_parts : (x y : Bool) → (x || y) ≡ true → (x ≡ true) ⊎ (y ≡ true)
or_parts true y h = inl refl
or_parts false y h = inr h

pub or_left : (x y : Bool) → x ≡ true → (x || y) ≡ true
or_left x y h = rw h refl

pub or_right : (x y : Bool) → y ≡ true → (x || y) ≡ true
or_right true y h = refl
or_right false y h = h

pub numbers_same : (xs ys : List ℕ) → same_numbers xs ys ≡ true → ys ≡ xs
numbers_same xs ys h = sym (same_text xs ys (sym h))

pub eq_self : (x : ℕ) → x == x ≡ true
eq_self x = eq-eqb x x refl

pub numbers_self : (xs : List ℕ) → same_numbers xs xs ≡ true
numbers_self xs = (bytes_decides xs xs).1 refl

pub flags_same : (a b : Bool) → same_flag a b ≡ true → b ≡ a
flags_same true true h = refl
flags_same true false h = absurd (cc)
flags_same false true h = absurd (cc)
flags_same false false h = refl

pub flags_self : (a : Bool) → same_flag a a ≡ true
flags_self true = refl
flags_self false = refl

pub states_same : (s t : GuestState) → same_state s t ≡ true → t ≡ s
states_same Fresh Fresh h = refl
states_same Ready Ready h = refl
states_same (Exit reason q0 q1) (Exit r a b) h =
    let first = and_parts (reason == r) ((q0 == a) && (q1 == b)) h in
    let rest = and_parts (q0 == a) (q1 == b) first.1 in
    rw (eqb-true reason r first.0, eqb-true q0 a rest.0, eqb-true q1 b rest.1) refl
states_same Waiting Waiting h = refl
states_same Dead Dead h = refl
states_same s t h = absurd (cc)

pub states_self : (s : GuestState) → same_state s s ≡ true
states_self Fresh = refl
states_self Ready = refl
states_self (Exit reason q0 q1) = and_from _ _ (eq_self reason) (and_from _ _ (eq_self q0) (eq_self q1))
states_self Waiting = refl
states_self Dead = refl

pub registers_same : (r s : Registers) → same_registers r s ≡ true → s ≡ r
registers_same r s h =
    let both = and_parts (r.pc == s.pc) (same_numbers r.x s.x) h in
    ap₂ (λ (pc : ℕ) (x : List ℕ). record { pc = pc; x = x }) (sym (eqb-true r.pc s.pc both.0)) (numbers_same r.x s.x both.1)

pub registers_self : (r : Registers) → same_registers r r ≡ true
registers_self r = and_from _ _ (eq_self r.pc) (numbers_self r.x)

pub bytes_same : (xs ys : Option (List ℕ)) → same_bytes xs ys ≡ true → ys ≡ xs
bytes_same None None h = refl
bytes_same (Some xs) (Some ys) h = ap (λ (zs : List ℕ). Some zs) (numbers_same xs ys h)
bytes_same None (Some ys) h = absurd (cc)
bytes_same (Some xs) None h = absurd (cc)

pub bytes_self : (xs : Option (List ℕ)) → same_bytes xs xs ≡ true
bytes_self None = refl
bytes_self (Some xs) = numbers_self xs

rights_same : (r s : Rights) → r.0 == s.0 ≡ true → s ≡ r
rights_same r s h = ap (λ (bits : ℕ). record { 0 = bits }) (sym (eqb-true r.0 s.0 h))

mtd_same : (r s : Mtd) → r.0 == s.0 ≡ true → s ≡ r
mtd_same r s h = ap (λ (bits : ℕ). record { 0 = bits }) (sym (eqb-true r.0 s.0 h))

-- PAIRS
abbrev pub AreIn : (ℕ → ℕ → Bool) → List (ℕ × ℕ) → Type 0
AreIn r pairs = (a b : ℕ) → among pairs a b ≡ true → Renames r a b

pub none_in : (r : ℕ → ℕ → Bool) → AreIn r []
none_in r a b h = absurd (cc)

pub left_in : (r : ℕ → ℕ → Bool) (ps qs : List (ℕ × ℕ)) → AreIn r (ps ++ qs) → AreIn r ps
left_in r ps qs all a b h = all a b (list_any-append (is_pair a b) ps qs ∙ or_left _ _ h)

pub right_in : (r : ℕ → ℕ → Bool) (ps qs : List (ℕ × ℕ)) → AreIn r (ps ++ qs) → AreIn r qs
right_in r ps qs all a b h = all a b (list_any-append (is_pair a b) ps qs ∙ or_right _ _ h)

pub both_in : (r : ℕ → ℕ → Bool) (ps qs : List (ℕ × ℕ)) → AreIn r ps → AreIn r qs → AreIn r (ps ++ qs)
both_in r ps qs left right a b h = elim (or_parts (among ps a b) (among qs a b) (sym (list_any-append (is_pair a b) ps qs) ∙ h)) [
  | inl here ↦ left a b here
  | inr there ↦ right a b there
]

pub is_this : (r : ℕ → ℕ → Bool) (x y a b : ℕ) → is_pair a b (x, y) ≡ true → Renames r x y → Renames r a b
is_this r x y a b h stands = let both = and_parts (x == a) (y == b) h in subst₂ (Renames r) (eqb-true x a both.0) (eqb-true y b both.1) stands

pub paired_in : (r : ℕ → ℕ → Bool) (n x y : ℕ) → ((i : ℕ) → i < n → Renames r (x + i) (y + i)) → AreIn r (paired n x y)
paired_in r zero x y stand a b h = absurd (cc)
paired_in r (suc n) x y stand a b h = elim (or_parts (is_pair a b (x, y)) (among (paired n (x + 1) (y + 1)) a b) h) [
  | inl here ↦ is_this r x y a b here (subst₂ (Renames r) (omega arith) (omega arith) (stand 0 (omega arith)))
  | inr there ↦ paired_in r n (x + 1) (y + 1) (λ i within. subst₂ (Renames r) (omega arith) (omega arith) (stand (suc i) (omega (arith, within)))) a b there
]

pub in_paired : (r : ℕ → ℕ → Bool) (n x y i : ℕ) → i < n → AreIn r (paired n x y) → Renames r (x + i) (y + i)
in_paired r zero x y i within all = absurd (omega arith)
in_paired r (suc n) x y zero within all =
    subst₂ (Renames r) (omega arith) (omega arith) (all x y (or_left _ _ (and_from _ _ (eq_self x) (eq_self y))))
in_paired r (suc n) x y (suc i) within all =
    subst₂ (Renames r) (omega arith) (omega arith) (in_paired r n (x + 1) (y + 1) i (omega (arith, within)) (λ a b h. all a b (or_right _ _ h)))

-- MAPS
pub maps_forced : (r : ℕ → ℕ → Bool) (ms ns : List Map) → MapsAgree r ms ns → AreIn r (maps_pairs ms ns)
maps_forced r [] [] same = none_in r
maps_forced r [] (n ∷ ns) same = absurd same
maps_forced r (m ∷ ms) [] same = absurd same
maps_forced r (m ∷ ms) (n ∷ ns) same =
    both_in r (paired (2 ^ m.order) m.frame n.frame) (maps_pairs ms ns) (paired_in r (2 ^ m.order) m.frame n.frame same.0.frames) (maps_forced r ms ns same.1)

map_alike : (r : ℕ → ℕ → Bool) (m n : Map) → MapAgrees r m n → alike_map m n ≡ true
map_alike r m n same = rw (same.base, same.order, same.rights) (and_from _ _ (eq_self m.base) (and_from _ _ (eq_self m.order) (eq_self m.rights.0)))

pub maps_alike : (r : ℕ → ℕ → Bool) (ms ns : List Map) → MapsAgree r ms ns → alike_maps ms ns ≡ true
maps_alike r [] [] same = refl
maps_alike r [] (n ∷ ns) same = absurd same
maps_alike r (m ∷ ms) [] same = absurd same
maps_alike r (m ∷ ms) (n ∷ ns) same = and_from (alike_map m n) (alike_maps ms ns) (map_alike r m n same.0) (maps_alike r ms ns same.1)

map_made : (r : ℕ → ℕ → Bool) (m n : Map) → alike_map m n ≡ true → AreIn r (paired (2 ^ m.order) m.frame n.frame) → MapAgrees r m n
map_made r m n h all =
    let first = and_parts (m.base == n.base) ((m.order == n.order) && (m.rights.0 == n.rights.0)) h in
    let rest = and_parts (m.order == n.order) (m.rights.0 == n.rights.0) first.1 in record {
      base = sym (eqb-true m.base n.base first.0);
      order = sym (eqb-true m.order n.order rest.0);
      rights = rights_same m.rights n.rights rest.1;
      frames = λ i within. in_paired r (2 ^ m.order) m.frame n.frame i within all;
    }

pub maps_made : (r : ℕ → ℕ → Bool) (ms ns : List Map) → alike_maps ms ns ≡ true → AreIn r (maps_pairs ms ns) → MapsAgree r ms ns
maps_made r [] [] h all = tt
maps_made r [] (n ∷ ns) h all = absurd (cc)
maps_made r (m ∷ ms) [] h all = absurd (cc)
maps_made r (m ∷ ms) (n ∷ ns) h all =
    let both = and_parts (alike_map m n) (alike_maps ms ns) h in (
      map_made r m n both.0 (left_in r (paired (2 ^ m.order) m.frame n.frame) (maps_pairs ms ns) all),
      maps_made r ms ns both.1 (right_in r (paired (2 ^ m.order) m.frame n.frame) (maps_pairs ms ns) all),
    )

-- INPUTS
pub input_forced : (r : ℕ → ℕ → Bool) (i j : Input) → InputAgrees r i j → AreIn r (input_pairs i j)
input_forced r (Given base order rights frame contents) j same =
    subst (λ (x : Input). AreIn r (input_pairs (Given base order rights frame contents) x)) (sym same.1) (paired_in r (2 ^ order) frame same.0 same.2)
input_forced r (Foreign frame offset width value) j same =
    subst (λ (x : Input). AreIn r (input_pairs (Foreign frame offset width value) x)) (sym same.1)
    (λ a b h. elim (or_parts (is_pair a b (frame, same.0)) false h) [
      | inl here ↦ is_this r frame same.0 a b here same.2
      | inr there ↦ absurd (cc)
    ])
input_forced r Own j same = none_in r
input_forced r Sent j same = none_in r
input_forced r Died j same = none_in r
input_forced r Recall j same = none_in r
input_forced r (Reply mtd words) j same = none_in r
input_forced r (Taken base order) j same = none_in r

pub inputs_forced : (r : ℕ → ℕ → Bool) (is js : List Input) → InputsAgree r is js → AreIn r (inputs_pairs is js)
inputs_forced r [] [] same = none_in r
inputs_forced r [] (j ∷ js) same = absurd same
inputs_forced r (i ∷ is) [] same = absurd same
inputs_forced r (i ∷ is) (j ∷ js) same = both_in r (input_pairs i j) (inputs_pairs is js) (input_forced r i j same.0) (inputs_forced r is js same.1)

input_self : (i : Input) → alike_input i i ≡ true
input_self Own = refl
input_self Sent = refl
input_self Died = refl
input_self Recall = refl
input_self (Reply mtd words) = and_from _ _ (eq_self mtd.0) (numbers_self words)
input_self (Given base order rights frame contents) = and_from _ _ (eq_self base) (and_from _ _ (eq_self order) (and_from _ _ (eq_self rights.0) (numbers_self contents)))
input_self (Taken base order) = and_from _ _ (eq_self base) (eq_self order)
input_self (Foreign frame offset width value) = and_from _ _ (eq_self offset) (and_from _ _ (eq_self width) (eq_self value))

pub input_alike : (r : ℕ → ℕ → Bool) (i j : Input) → InputAgrees r i j → alike_input i j ≡ true
input_alike r (Given base order rights frame contents) j same = rw same.1 (input_self (Given base order rights frame contents))
input_alike r (Foreign frame offset width value) j same = rw same.1 (input_self (Foreign frame offset width value))
input_alike r Own j same = rw same refl
input_alike r Sent j same = rw same refl
input_alike r Died j same = rw same refl
input_alike r Recall j same = rw same refl
input_alike r (Reply mtd words) j same = rw same (input_self (Reply mtd words))
input_alike r (Taken base order) j same = rw same (input_self (Taken base order))

pub inputs_alike : (r : ℕ → ℕ → Bool) (is js : List Input) → InputsAgree r is js → alike_inputs is js ≡ true
inputs_alike r [] [] same = refl
inputs_alike r [] (j ∷ js) same = absurd same
inputs_alike r (i ∷ is) [] same = absurd same
inputs_alike r (i ∷ is) (j ∷ js) same = and_from (alike_input i j) (alike_inputs is js) (input_alike r i j same.0) (inputs_alike r is js same.1)

given_made : (r : ℕ → ℕ → Bool) (base order frame b o new : ℕ) (rights s : Rights) (contents c : List ℕ) → alike_input (Given base order rights frame contents) (Given b o s new c) ≡ true →
    AreIn r (paired (2 ^ order) frame new) → InputAgrees r (Given base order rights frame contents) (Given b o s new c)
given_made r base order frame b o new rights s contents c h all =
    let first = and_parts (base == b) ((order == o) && ((rights.0 == s.0) && same_numbers contents c)) h in
    let second = and_parts (order == o) ((rights.0 == s.0) && same_numbers contents c) first.1 in
    let third = and_parts (rights.0 == s.0) (same_numbers contents c) second.1 in (
      new,
      rw (eqb-true base b first.0, eqb-true order o second.0, rights_same rights s third.0, numbers_same contents c third.1) refl,
      λ i within. in_paired r (2 ^ order) frame new i within all,
    )

foreign_made : (r : ℕ → ℕ → Bool) (frame offset width value new o w v : ℕ) → alike_input (Foreign frame offset width value) (Foreign new o w v) ≡ true →
    AreIn r ((frame, new) ∷ []) → InputAgrees r (Foreign frame offset width value) (Foreign new o w v)
foreign_made r frame offset width value new o w v h all =
    let first = and_parts (offset == o) ((width == w) && (value == v)) h in
    let rest = and_parts (width == w) (value == v) first.1 in (
      new,
      rw (eqb-true offset o first.0, eqb-true width w rest.0, eqb-true value v rest.1) refl,
      all frame new (or_left _ _ (and_from _ _ (eq_self frame) (eq_self new))),
    )

pub input_made : (r : ℕ → ℕ → Bool) (i j : Input) → alike_input i j ≡ true → AreIn r (input_pairs i j) → InputAgrees r i j
input_made r Own Own h all = refl
input_made r Sent Sent h all = refl
input_made r Died Died h all = refl
input_made r Recall Recall h all = refl
input_made r (Reply mtd words) (Reply m ws) h all =
    let both = and_parts (mtd.0 == m.0) (same_numbers words ws) h in ap₂ Reply (mtd_same mtd m both.0) (numbers_same words ws both.1)
input_made r (Given base order rights frame contents) (Given b o s new c) h all = given_made r base order frame b o new rights s contents c h all
input_made r (Taken base order) (Taken b o) h all =
    let both = and_parts (base == b) (order == o) h in ap₂ Taken (sym (eqb-true base b both.0)) (sym (eqb-true order o both.1))
input_made r (Foreign frame offset width value) (Foreign new o w v) h all = foreign_made r frame offset width value new o w v h all
input_made r i j h all = absurd (cc)

pub inputs_made : (r : ℕ → ℕ → Bool) (is js : List Input) → alike_inputs is js ≡ true → AreIn r (inputs_pairs is js) → InputsAgree r is js
inputs_made r [] [] h all = tt
inputs_made r [] (j ∷ js) h all = absurd (cc)
inputs_made r (i ∷ is) [] h all = absurd (cc)
inputs_made r (i ∷ is) (j ∷ js) h all =
    let both = and_parts (alike_input i j) (alike_inputs is js) h in
    (input_made r i j both.0 (left_in r (input_pairs i j) (inputs_pairs is js) all), inputs_made r is js both.1 (right_in r (input_pairs i j) (inputs_pairs is js) all))
