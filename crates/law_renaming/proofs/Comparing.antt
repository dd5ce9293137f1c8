-- Guests and inputs can agree under some renaming just where the pairs that they force make them agree; and the verdict on them is that which holds.
use Rattle.std.proofs.Common.{◌≡◌, ℕ, zero, suc, ◌<◌, ◌≤◌, ◌⊎◌, List, [], ◌∷◌, length, take, ap, sym, ◌∙◌, subst, subst₂, refl, inl, inr, arith}
use Rattle.std.specs.Prelude.{Bool, true, false, ◌==◌, ◌&&◌, ◌||◌, min, if◌then◌else◌}
use Rattle.std.specs.List.{All, list_all}
use Rattle.std.proofs.Math.Seq.{take-length}
use Rattle.std.proofs.lemmas.Bool.{and_from, and_parts, cases_lt, eqb-true}
use Rattle.nova_guest.specs.Cells.{cell_at}
use Rattle.nova_guest.specs.declared.cell.Cell.{Cell}
use Rattle.nova_guest.specs.declared.guest.Guest.{Guest}
use Rattle.nova_guest.specs.declared.input.Input.{Input}
use Rattle.law_renaming.specs.Forced.{agree, alike, alike_inputs, alike_maps, among, forced, has_same_bytes, inputs_pairs, is_one_to_one, is_pair, maps_pairs, new_pairs, once, same_flag, same_registers, same_state, same_bytes, suits}
use Rattle.law_renaming.specs.Renamings.{CellsAgree, InputFits, GuestsAgree, InputsAgree, IsOneToOne, Renames}
use Rattle.law_renaming.specs.Verdicts.{AreDifferent, AreEqual, CantAgree, IsAgreement, IsVerdict, Verdict, Equal, Views, Differ, agree_first, compared, most}
use Rattle.law_renaming.proofs.Forcing.{AreIn, both_in, bytes_same, bytes_self, eq_self, flags_same, flags_self, inputs_alike, inputs_forced, inputs_made, left_in, maps_alike, maps_forced, maps_made, or_left, or_parts, or_right, registers_same, registers_self, right_in, states_same, states_self}
use Rattle.law_renaming.proofs.Runs.{EndsAgree, alone_agrees}
use Rattle.law_renaming.proofs.Spaces.{same_frame}

-- A TEST OF ALL PAIRS
pub each_pair : (t : ℕ × ℕ → Bool) (ps : List (ℕ × ℕ)) → list_all t ps ≡ true → (a b : ℕ) → among ps a b ≡ true → t (a, b) ≡ true
each_pair t [] all a b h = absurd (cc)
each_pair t (p ∷ ps) all a b h =
    let both = and_parts (t p) (list_all t ps) all in elim (or_parts (is_pair a b p) (among ps a b) h) [
      | inl here ↦ let same = and_parts (p.0 == a) (p.1 == b) here in subst₂ (λ (x y : ℕ). t (x, y) ≡ true) (eqb-true p.0 a same.0) (eqb-true p.1 b same.1) both.0
      | inr there ↦ each_pair t ps both.1 a b there
    ]

pub all_pairs : (t : ℕ × ℕ → Bool) (ps : List (ℕ × ℕ)) → ((a b : ℕ) → among ps a b ≡ true → t (a, b) ≡ true) → list_all t ps ≡ true
all_pairs t [] each = refl
all_pairs t (p ∷ ps) each =
    and_from (t p) (list_all t ps) (each p.0 p.1 (or_left _ _ (and_from _ _ (eq_self p.0) (eq_self p.1)))) (all_pairs t ps (λ a b h. each a b (or_right _ _ h)))

pairs_suit : (ps : List (ℕ × ℕ)) → is_one_to_one ps ≡ true → (a b c d : ℕ) → Renames (among ps) a b → Renames (among ps) c d → suits (a, b) (c, d) ≡ true
pairs_suit ps h a b c d ab cd = each_pair (suits (a, b)) ps (each_pair (λ p. list_all (suits p) ps) ps h a b ab) c d cd

one_made : (ps : List (ℕ × ℕ)) → is_one_to_one ps ≡ true → IsOneToOne (among ps)
one_made ps h = record {
  to = λ a b c ab ac. eqb-true b c (flags_same (a == a) (b == c) (pairs_suit ps h a b a c ab ac) ∙ eq_self a);
  from = λ a b c ac bc. eqb-true a b (sym (flags_same (a == b) (c == c) (pairs_suit ps h a c b c ac bc)) ∙ eq_self c);
}

one_found : (r : ℕ → ℕ → Bool) (ps : List (ℕ × ℕ)) → IsOneToOne r → AreIn r ps → is_one_to_one ps ≡ true
one_found r ps one all =
    all_pairs (λ p. list_all (suits p) ps) ps (λ a b ab. all_pairs (suits (a, b)) ps (λ c d cd.
    ap (same_flag (a == c)) (same_frame r one a b c d (all a b ab) (all c d cd)) ∙ flags_self (a == c)))

-- WHAT IS FORCED MAKES THEM AGREE, if anything does
pub guests_made : (r : ℕ → ℕ → Bool) (u v : Guest) → alike u v ≡ true → AreIn r (maps_pairs u.maps v.maps) → CellsAgree r u.cells v.cells → GuestsAgree r u v
guests_made r u v h maps cells =
    let regs = and_parts (same_registers u.regs v.regs) (same_state u.state v.state && (same_flag u.recall v.recall && alike_maps u.maps v.maps)) h in
    let state = and_parts (same_state u.state v.state) (same_flag u.recall v.recall && alike_maps u.maps v.maps) regs.1 in
    let recall = and_parts (same_flag u.recall v.recall) (alike_maps u.maps v.maps) state.1 in record {
      regs = registers_same u.regs v.regs regs.0;
      state = states_same u.state v.state state.0;
      recall = flags_same u.recall v.recall recall.0;
      maps = maps_made r u.maps v.maps recall.1 maps;
      cells = cells;
    }

pub agree_made : (u v : Guest) (is js : List Input) → agree u v is js ≡ true → IsAgreement (among (forced u v is js)) u v is js
unfolding agree
agree_made u v is js h = record {
  one = one_made pairs third.0;
  guests = guests_made (among pairs) u v first.0 (left_in (among pairs) (maps_pairs u.maps v.maps) (inputs_pairs is js) all)
      (λ a b pair. bytes_same (cell_at u.cells a) (cell_at v.cells b) (each_pair (has_same_bytes u.cells v.cells) pairs third.1 a b pair));
  inputs = inputs_made (among pairs) is js second.0 (right_in (among pairs) (maps_pairs u.maps v.maps) (inputs_pairs is js) all);
}
  where
    pairs : List (ℕ × ℕ)
    pairs = forced u v is js

    all : AreIn (among pairs) pairs
    all a b stands = stands

    first : (alike u v ≡ true) × ((alike_inputs is js && (is_one_to_one pairs && list_all (has_same_bytes u.cells v.cells) pairs)) ≡ true)
    first = and_parts (alike u v) (alike_inputs is js && (is_one_to_one pairs && list_all (has_same_bytes u.cells v.cells) pairs)) h

    second : (alike_inputs is js ≡ true) × ((is_one_to_one pairs && list_all (has_same_bytes u.cells v.cells) pairs) ≡ true)
    second = and_parts (alike_inputs is js) (is_one_to_one pairs && list_all (has_same_bytes u.cells v.cells) pairs) first.1

    third : (is_one_to_one pairs ≡ true) × (list_all (has_same_bytes u.cells v.cells) pairs ≡ true)
    third = and_parts (is_one_to_one pairs) (list_all (has_same_bytes u.cells v.cells) pairs) second.1

pub forced_all : (r : ℕ → ℕ → Bool) (u v : Guest) (is js : List Input) → IsAgreement r u v is js → AreIn r (forced u v is js)
forced_all r u v is js same = both_in r (maps_pairs u.maps v.maps) (inputs_pairs is js) (maps_forced r u.maps v.maps same.guests.maps) (inputs_forced r is js same.inputs)

pub alike_found : (r : ℕ → ℕ → Bool) (u v : Guest) → GuestsAgree r u v → alike u v ≡ true
alike_found r u v same =
    and_from _ _ (ap (same_registers u.regs) same.regs ∙ registers_self u.regs)
    (and_from _ _ (ap (same_state u.state) same.state ∙ states_self u.state)
    (and_from _ _ (ap (same_flag u.recall) same.recall ∙ flags_self u.recall) (maps_alike r u.maps v.maps same.maps)))

cells_alike : (r : ℕ → ℕ → Bool) (us vs : List Cell) (ps : List (ℕ × ℕ)) → AreIn r ps → CellsAgree r us vs → list_all (has_same_bytes us vs) ps ≡ true
cells_alike r us vs ps all same =
    all_pairs (has_same_bytes us vs) ps (λ a b pair. subst (λ (c : _). same_bytes (cell_at us a) c ≡ true) (sym (same a b (all a b pair))) (bytes_self (cell_at us a)))

pub agree_found : (r : ℕ → ℕ → Bool) (u v : Guest) (is js : List Input) → IsAgreement r u v is js → agree u v is js ≡ true
unfolding agree
agree_found r u v is js same =
    let all = forced_all r u v is js same in
    and_from _ _ (alike_found r u v same.guests) (and_from _ _ (inputs_alike r is js same.inputs)
    (and_from _ _ (one_found r (forced u v is js) same.one all) (cells_alike r u.cells v.cells (forced u v is js) all same.guests.cells)))

pub cant_agree : (u v : Guest) (is js : List Input) → agree u v is js ≡ false → CantAgree u v is js
cant_agree u v is js fails r same = let holds = agree_found r u v is js same in absurd (cc)

-- EACH PAIR ONCE
or_true : (x : Bool) → (x || true) ≡ true
or_true true = refl
or_true false = refl

or_none : (x : Bool) → (x || false) ≡ x
or_none true = refl
or_none false = refl

shuffled : (x n s m : Bool) → (n || (x || m)) ≡ (s || (x || m)) → ((x || n) || m) ≡ ((x || s) || m)
shuffled true n s m h = refl
shuffled false n s m h = h

pub new_among : (met ps : List (ℕ × ℕ)) (a b : ℕ) → (among (new_pairs met ps) a b || among met a b) ≡ (among ps a b || among met a b)
new_among met [] a b = refl
new_among met (p ∷ ps) a b = by_met (among met p.0 p.1) refl (is_pair a b p) refl (new_among met ps a b) (new_among (p ∷ met) ps a b)
  where
    by_met : (t : Bool) → among met p.0 p.1 ≡ t → (x : Bool) → is_pair a b p ≡ x → (among (new_pairs met ps) a b || among met a b) ≡ (among ps a b || among met a b) →
        (among (new_pairs (p ∷ met) ps) a b || (is_pair a b p || among met a b)) ≡ (among ps a b || (is_pair a b p || among met a b)) →
        (among (if t then new_pairs met ps else p ∷ new_pairs (p ∷ met) ps) a b || among met a b) ≡ ((is_pair a b p || among ps a b) || among met a b)
    by_met false is x here same more = shuffled (is_pair a b p) (among (new_pairs (p ∷ met) ps) a b) (among ps a b) (among met a b) more
    by_met true is false here same more = same ∙ (rw here refl)
    by_met true is true here same more =
        let both = and_parts (p.0 == a) (p.1 == b) here in
        let there : among met a b ≡ true = subst₂ (λ (x y : ℕ). among met x y ≡ true) (eqb-true p.0 a both.0) (eqb-true p.1 b both.1) is in
        rw there (or_true (among (new_pairs met ps) a b) ∙ sym (or_true (is_pair a b p || among ps a b)))

once_among : (ps : List (ℕ × ℕ)) → among (once ps) ≡ among ps
once_among ps = λ i a b. (sym (or_none (among (once ps) a b)) ∙ (new_among [] ps a b ∙ or_none (among ps a b))) i

-- THE GREATEST NUMBER OF FIRST INPUTS
most_short : (u v : Guest) (is js : List Input) (n : ℕ) → most u v is js n ≤ n
most_short u v is js zero = omega arith
most_short u v is js (suc n) = by_test (agree_first u v is js (suc n)) (most_short u v is js n)
  where
    by_test : (t : Bool) → most u v is js n ≤ n → (if t then suc n else most u v is js n) ≤ suc n
    by_test true less = omega arith
    by_test false less = omega (arith, less)

most_agree : (u v : Guest) (is js : List Input) (n : ℕ) → agree u v [] [] ≡ true → agree_first u v is js (most u v is js n) ≡ true
most_agree u v is js zero none = none
most_agree u v is js (suc n) none = by_test (agree_first u v is js (suc n)) refl (most_agree u v is js n none)
  where
    by_test : (t : Bool) → agree_first u v is js (suc n) ≡ t → agree_first u v is js (most u v is js n) ≡ true →
        agree_first u v is js (if t then suc n else most u v is js n) ≡ true
    by_test true is less = is
    by_test false is less = less

most_last : (u v : Guest) (is js : List Input) (n k : ℕ) → most u v is js n < k → k ≤ n → agree_first u v is js k ≡ false
most_last u v is js zero k past within = absurd (omega (arith, past, within))
most_last u v is js (suc n) k past within = by_test (agree_first u v is js (suc n)) refl (most_last u v is js n k) past within
  where
    by_test : (t : Bool) → agree_first u v is js (suc n) ≡ t → (most u v is js n < k → k ≤ n → agree_first u v is js k ≡ false) →
        (if t then suc n else most u v is js n) < k → k ≤ suc n → agree_first u v is js k ≡ false
    by_test true is less past within = absurd (omega (arith, past, within))
    by_test false fails less past within = elim (cases_lt n k) [
      | inl last ↦ let e : suc n ≡ k = omega (arith, last, within) in subst (λ (m : ℕ). agree_first u v is js m ≡ false) e fails
      | inr before ↦ less past (omega (arith, before))
    ]

-- THE VERDICT
inputs_many : (r : ℕ → ℕ → Bool) (is js : List Input) → InputsAgree r is js → length is ≡ length js
inputs_many r [] [] same = refl
inputs_many r [] (j ∷ js) same = absurd same
inputs_many r (i ∷ is) [] same = absurd same
inputs_many r (i ∷ is) (j ∷ js) same = ap suc (inputs_many r is js same.1)

least_left : (a b : ℕ) → min a b ≤ a
least_left a b = grind arith

least_right : (a b : ℕ) → min a b ≤ b
least_right a b = grind arith

below_least : (n a b : ℕ) → n < a → n < b → suc n ≤ min a b
below_least n a b under below = grind arith

equal_holds : (u v : Guest) (is js : List Input) → agree u v is js ≡ true → AreEqual u v is js (length is) (once (forced u v is js))
equal_holds u v is js holds = record {
  agreement = subst (λ (r : ℕ → ℕ → Bool). IsAgreement r u v is js) (sym (once_among (forced u v is js))) (agree_made u v is js holds);
  least = λ r same a b pair. forced_all r u v is js same a b (sym (ap (λ (q : ℕ → ℕ → Bool). q a b) (once_among (forced u v is js))) ∙ pair);
  first = refl;
  second = inputs_many (among (forced u v is js)) is js (agree_made u v is js holds).inputs;
}

differ_holds : (u v : Guest) (is js : List Input) → agree u v [] [] ≡ true → agree u v is js ≡ false → AreDifferent u v is js (most u v is js (min (length is) (length js)))
differ_holds u v is js begin fails = record {
  first = omega (arith, short, least_left (length is) (length js));
  second = omega (arith, short, least_right (length is) (length js));
  agree = (forced u v (take n is) (take n js), agree_made u v (take n is) (take n js) holds);
  ends = λ under below. cant_agree u v (take (suc n) is) (take (suc n) js)
      (most_last u v is js (min (length is) (length js)) (suc n) (omega arith) (below_least n (length is) (length js) under below));
  more = by_first (cases_lt n (length is)) (cases_lt n (length js));
}
  where
    n : ℕ
    n = most u v is js (min (length is) (length js))

    short : n ≤ min (length is) (length js)
    short = most_short u v is js (min (length is) (length js))

    holds : agree_first u v is js n ≡ true
    holds = most_agree u v is js (min (length is) (length js)) begin

    by_first : (n < length is) ⊎ (length is ≤ n) → (n < length js) ⊎ (length js ≤ n) → (n < length is) ⊎ (n < length js)
    by_first (inl under) other = inl under
    by_first (inr past) (inl below) = inr below
    by_first (inr past) (inr over) =
        let e : n ≡ length is = omega (arith, past, short, least_left (length is) (length js)) in
        let d : n ≡ length js = omega (arith, over, short, least_right (length is) (length js)) in
        let all : agree u v is js ≡ true = subst₂ (λ (xs ys : List Input). agree u v xs ys ≡ true)
        (ap (λ (m : ℕ). take m is) e ∙ take-length is) (ap (λ (m : ℕ). take m js) d ∙ take-length js) holds in
        absurd (cc)

pub verdict_holds : (u v : Guest) (is js : List Input) → IsVerdict u v is js (compared u v is js)
verdict_holds u v is js = by_tests (agree u v [] []) refl (agree u v is js) refl
  where
    by_tests : (begin : Bool) → agree u v [] [] ≡ begin → (all : Bool) → agree u v is js ≡ all →
        IsVerdict u v is js (if begin then (if all then Equal (length is) (once (forced u v is js)) else Differ (most u v is js (min (length is) (length js)))) else Views)
    by_tests false fails all h = cant_agree u v [] [] fails
    by_tests true holds true h = equal_holds u v is js h
    by_tests true holds false h = differ_holds u v is js holds h

-- EQUAL SIDES END EQUAL
pub equal_ends : (u v : Guest) (is js : List Input) (inputs : ℕ) (pairs : List (ℕ × ℕ)) → compared u v is js ≡ Equal inputs pairs → All InputFits is → EndsAgree (among pairs) u v is js
equal_ends u v is js inputs pairs h fit =
    let equal : AreEqual u v is js inputs pairs = subst (λ (x : Verdict). IsVerdict u v is js x) h (verdict_holds u v is js) in
    alone_agrees (among pairs) equal.agreement.one u v equal.agreement.guests is js fit equal.agreement.inputs
