-- Stir counts that rise: their numbers stay, and those that rise one after another have risen together.
use Rattle.std.proofs.Common.{◌≡◌, ℕ, zero, suc, ◌+◌, ◌<◌, ◌≤◌, ◌==◌, List, [], ◌∷◌, ◌++◌, length, refl, ap, ap₂, sym, ◌∙◌, subst, arith}
use Rattle.std.specs.Prelude.{Bool, true, false, not, ◌&&◌, ◌||◌, Option, Some, None, option_map, drop, slice_get, slice_index_or, slice_set, IfSome}
use Rattle.std.specs.List.{list_any}
use Rattle.std.proofs.lemmas.List.{drop_more}
use Rattle.nova_model.specs.State.{entry}
use Rattle.law_forest.proofs.Plain.{and_false as none_true, and_true as both_true}
use Rattle.nova_deeds.specs.StirCounts.{count_in, risen, risen_from}
use Rattle.nova_deeds.specs.StirCounts.{numbers_from, risen_at}

-- NUMBERS

-- a further entry
numbers_more : (n : ℕ) (counts more : List (Option ℕ)) → numbers_from n (counts ++ more) ≡ numbers_from n counts ++ numbers_from (n + length counts) more
numbers_more n [] more = ap (λ (m : ℕ). numbers_from m more) (let e : n ≡ n + 0 = omega arith in e)
numbers_more n (None ∷ counts) more =
    numbers_more (n + 1) counts more
    ∙ ap (λ (m : ℕ). numbers_from (n + 1) counts ++ numbers_from m more) (let e : n + 1 + length counts ≡ n + suc (length counts) = omega arith in e)
numbers_more n (Some count ∷ counts) more =
    ap (λ (ms : List ℕ). n ∷ ms)
    (numbers_more (n + 1) counts more
    ∙ ap (λ (m : ℕ). numbers_from (n + 1) counts ++ numbers_from m more) (let e : n + 1 + length counts ≡ n + suc (length counts) = omega arith in e))

pub numbers_some : (counts : List (Option ℕ)) (count : ℕ) → numbers_from 0 (counts ++ Some count ∷ []) ≡ numbers_from 0 counts ++ length counts ∷ []
numbers_some counts count =
    numbers_more 0 counts (Some count ∷ [])
    ∙ ap (λ (m : ℕ). numbers_from 0 counts ++ m ∷ []) (let e : 0 + length counts ≡ length counts = omega arith in e)

append_none : (ns : List ℕ) → ns ++ [] ≡ ns
append_none [] = refl
append_none (n ∷ ns) = ap (λ (ms : List ℕ). n ∷ ms) (append_none ns)

pub numbers_none : (counts : List (Option ℕ)) → numbers_from 0 (counts ++ None ∷ []) ≡ numbers_from 0 counts
numbers_none counts = numbers_more 0 counts (None ∷ []) ∙ append_none (numbers_from 0 counts)

pub numbers_risen : (stirs : ℕ → Bool) (n : ℕ) (counts : List (Option ℕ)) → numbers_from n (risen_from stirs n counts) ≡ numbers_from n counts
numbers_risen stirs n [] = refl
numbers_risen stirs n (None ∷ counts) = numbers_risen stirs (n + 1) counts
numbers_risen stirs n (Some count ∷ counts) = ap (λ (ms : List ℕ). n ∷ ms) (numbers_risen stirs (n + 1) counts)

abbrev is_in : ℕ → List ℕ → Bool
is_in g ns = list_any (λ m. m == g) ns

-- those from n on are no less than n, and each is there once
none_below : (g n : ℕ) (counts : List (Option ℕ)) → g < n → is_in g (numbers_from n counts) ≡ false
none_below g n [] low = refl
none_below g n (None ∷ counts) low = none_below g (n + 1) counts (omega (arith, low))
none_below g n (Some count ∷ counts) low =
    ap₂ (λ (t u : Bool). t || u) (let e : (n == g) ≡ false = grind (arith, low) in e) (none_below g (n + 1) counts (omega (arith, low)))

pub once : (n i m : ℕ) (rest : List ℕ) (counts : List (Option ℕ)) → drop i (numbers_from n counts) ≡ m ∷ rest → is_in m rest ≡ false
once n zero m rest [] is = absurd cc
once n (suc i) m rest [] is = absurd cc
once n i m rest (None ∷ counts) is = once (n + 1) i m rest counts is
once n zero m rest (Some count ∷ counts) is =
    let same : n ≡ m = cc in
    let others : numbers_from (n + 1) counts ≡ rest = cc in
    subst (λ (ns : List ℕ). is_in m ns ≡ false) others (none_below m (n + 1) counts (omega (arith, same)))
once n (suc i) m rest (Some count ∷ counts) is = once (n + 1) i m rest counts is

-- COUNTS

risen_none : (o : Option ℕ) → option_map (risen false) o ≡ o
risen_none None = refl
risen_none (Some count) = refl

pub risen_calm : (stirs : ℕ → Bool) (n : ℕ) (counts : List (Option ℕ)) → ((m : ℕ) → n ≤ m → stirs m ≡ false) → risen_from stirs n counts ≡ counts
risen_calm stirs n [] calm = refl
risen_calm stirs n (count ∷ counts) calm =
    ap₂ (λ (c : Option ℕ) (cs : List (Option ℕ)). c ∷ cs)
    (ap (λ (t : Bool). option_map (risen t) count) (calm n (omega arith)) ∙ risen_none count)
    (risen_calm stirs (n + 1) counts (λ m h. calm m (omega (arith, h))))

-- what rises is a matter of the numbers that have a count
pub risen_same : (stirs others : ℕ → Bool) (n : ℕ) (counts : List (Option ℕ)) → ((m : ℕ) → is_in m (numbers_from n counts) ≡ true → stirs m ≡ others m) →
    risen_from stirs n counts ≡ risen_from others n counts
risen_same stirs others n [] same = refl
risen_same stirs others n (None ∷ counts) same = ap (λ (cs : List (Option ℕ)). None ∷ cs) (risen_same stirs others (n + 1) counts same)
risen_same stirs others n (Some count ∷ counts) same =
    ap₂ (λ (t : Bool) (cs : List (Option ℕ)). Some (risen t count) ∷ cs)
    (same n (ap (λ (t : Bool). t || is_in n (numbers_from (n + 1) counts)) (let e : (n == n) ≡ true = grind arith in e)))
    (risen_same stirs others (n + 1) counts (λ m there. same m (ap (λ (t : Bool). (n == m) || t) there ∙ or_true (n == m))))
  where
    or_true : (t : Bool) → (t || true) ≡ true
    or_true true = refl
    or_true false = refl

-- each count
pub risen_entry : (stirs : ℕ → Bool) (n i : ℕ) (counts : List (Option ℕ)) →
    entry (slice_get (risen_from stirs n counts) i) ≡ option_map (risen (stirs (n + i))) (entry (slice_get counts i))
risen_entry stirs n i [] = refl
risen_entry stirs n zero (count ∷ counts) = ap (λ (m : ℕ). option_map (risen (stirs m)) count) (let e : n ≡ n + 0 = omega arith in e)
risen_entry stirs n (suc i) (count ∷ counts) =
    risen_entry stirs (n + 1) i counts
    ∙ ap (λ (m : ℕ). option_map (risen (stirs m)) (entry (slice_get counts i))) (let e : n + 1 + i ≡ n + suc i = omega arith in e)

-- a count that is written anew
set_risen : (n g m count : ℕ) (counts : List (Option ℕ)) → m ≡ n + g → entry (slice_get counts g) ≡ Some count →
    slice_set counts g (Some (count + 1)) ≡ risen_from (λ k. k == m) n counts
set_risen n g m count [] is there = absurd cc
set_risen n zero m count (o ∷ counts) is there =
    ap₂ (λ (c : Option ℕ) (cs : List (Option ℕ)). c ∷ cs)
    (sym (ap₂ (λ (t : Bool) (c : Option ℕ). option_map (risen t) c) (let e : (n == m) ≡ true = grind (arith, is) in e) there))
    (sym (risen_calm (λ k. k == m) (n + 1) counts (λ k h. let e : (k == m) ≡ false = grind (arith, is, h) in e)))
set_risen n (suc g) m count (o ∷ counts) is there =
    ap₂ (λ (c : Option ℕ) (cs : List (Option ℕ)). c ∷ cs)
    (sym (ap (λ (t : Bool). option_map (risen t) o) (let e : (n == m) ≡ false = grind (arith, is) in e) ∙ risen_none o))
    (set_risen (n + 1) g m count counts (let e : m ≡ n + 1 + g = omega (arith, is) in e) there)

pub set_risen_at : (g count : ℕ) (counts : List (Option ℕ)) → entry (slice_get counts g) ≡ Some count →
    slice_set counts g (Some (count + 1)) ≡ risen_at g counts
set_risen_at g count counts there = set_risen 0 g g count counts (omega arith) there

unset_risen : (n g m : ℕ) (counts : List (Option ℕ)) → m ≡ n + g → entry (slice_get counts g) ≡ None → risen_from (λ k. k == m) n counts ≡ counts
unset_risen n g m [] is there = refl
unset_risen n zero m (o ∷ counts) is there =
    ap₂ (λ (c : Option ℕ) (cs : List (Option ℕ)). c ∷ cs)
    (ap (option_map (risen (n == m))) there ∙ sym there)
    (risen_calm (λ k. k == m) (n + 1) counts (λ k h. let e : (k == m) ≡ false = grind (arith, is, h) in e))
unset_risen n (suc g) m (o ∷ counts) is there =
    ap₂ (λ (c : Option ℕ) (cs : List (Option ℕ)). c ∷ cs)
    (ap (λ (t : Bool). option_map (risen t) o) (let e : (n == m) ≡ false = grind (arith, is) in e) ∙ risen_none o)
    (unset_risen (n + 1) g m counts (let e : m ≡ n + 1 + g = omega (arith, is) in e) there)

pub unset_risen_at : (g : ℕ) (counts : List (Option ℕ)) → entry (slice_get counts g) ≡ None → counts ≡ risen_at g counts
unset_risen_at g counts there = sym (unset_risen 0 g g counts (omega arith) there)

pub within : (counts : List (Option ℕ)) (g count : ℕ) → entry (slice_get counts g) ≡ Some count → g < length counts
within [] g count there = absurd cc
within (o ∷ counts) zero count there = omega arith
within (o ∷ counts) (suc g) count there = let h = within counts g count there in omega (arith, h)

-- ONE AFTER ANOTHER

-- all that rise, but for those that are still to come
abbrev pub but : (ℕ → Bool) → List ℕ → ℕ → Bool
but stirs left g = stirs g && not (is_in g left)

or_false : (t : Bool) → (t || false) ≡ t
or_false true = refl
or_false false = refl

pub but_all : (stirs : ℕ → Bool) (counts : List (Option ℕ)) → counts ≡ risen_from (but stirs (drop 0 (numbers_from 0 counts))) 0 counts
but_all stirs counts =
    sym (risen_same (but stirs (numbers_from 0 counts)) (λ m. false) 0 counts
    (λ m there. ap (λ (t : Bool). stirs m && not t) there ∙ none_true (stirs m))
    ∙ risen_calm (λ m. false) 0 counts (λ m h. refl))

pub but_none : (stirs : ℕ → Bool) (counts : List (Option ℕ)) (i : ℕ) → length (numbers_from 0 counts) ≤ i →
    risen_from (but stirs (drop i (numbers_from 0 counts))) 0 counts ≡ risen_from stirs 0 counts
but_none stirs counts i all =
    ap (λ (left : List ℕ). risen_from (but stirs left) 0 counts) (dropped (numbers_from 0 counts) i all)
    ∙ risen_same (but stirs []) stirs 0 counts (λ m there. both_true (stirs m))
  where
    dropped : (ns : List ℕ) (j : ℕ) → length ns ≤ j → drop j ns ≡ []
    dropped [] zero h = refl
    dropped [] (suc j) h = refl
    dropped (n ∷ ns) zero h = absurd (omega (arith, h))
    dropped (n ∷ ns) (suc j) h = dropped ns j (omega (arith, h))

-- the next count has not risen yet
pub next_entry : (stirs : ℕ → Bool) (counts : List (Option ℕ)) (m : ℕ) (rest : List ℕ) →
    entry (slice_get (risen_from (but stirs (m ∷ rest)) 0 counts) m) ≡ entry (slice_get counts m)
next_entry stirs counts m rest =
    risen_entry (but stirs (m ∷ rest)) 0 m counts
    ∙ ap (λ (t : Bool). option_map (risen t) (entry (slice_get counts m)))
    (ap (λ (t : Bool). stirs (0 + m) && not (t || is_in (0 + m) rest)) (let e : (m == 0 + m) ≡ true = grind arith in e) ∙ none_true (stirs (0 + m)))
    ∙ risen_none (entry (slice_get counts m))

-- two that do not meet rise together
risen_both : (P Q R : ℕ → Bool) (n : ℕ) (counts : List (Option ℕ)) → ((m : ℕ) (o : Option ℕ) → option_map (risen (Q m)) (option_map (risen (P m)) o) ≡ option_map (risen (R m)) o) →
    risen_from Q n (risen_from P n counts) ≡ risen_from R n counts
risen_both P Q R n [] all = refl
risen_both P Q R n (o ∷ counts) all = ap₂ (λ (c : Option ℕ) (cs : List (Option ℕ)). c ∷ cs) (all n o) (risen_both P Q R (n + 1) counts all)

twice : (t u v : Bool) → (t && u) ≡ false → (t || u) ≡ v → (o : Option ℕ) → option_map (risen u) (option_map (risen t) o) ≡ option_map (risen v) o
twice true true v apart is o = absurd cc
twice true false v apart is o = risen_none (option_map (risen true) o) ∙ ap (λ (b : Bool). option_map (risen b) o) is
twice false u v apart is o = ap (option_map (risen u)) (risen_none o) ∙ ap (λ (b : Bool). option_map (risen b) o) is

pub next_risen : (stirs : ℕ → Bool) (counts : List (Option ℕ)) (m : ℕ) (rest : List ℕ) → stirs m ≡ true → is_in m rest ≡ false →
    risen_at m (risen_from (but stirs (m ∷ rest)) 0 counts) ≡ risen_from (but stirs rest) 0 counts
next_risen stirs counts m rest stirred alone =
    risen_both (but stirs (m ∷ rest)) (λ k. k == m) (but stirs rest) 0 counts (λ k. by_test k (k == m) refl)
  where
    by_test : (k : ℕ) (t : Bool) → (k == m) ≡ t → (o : Option ℕ) →
        option_map (risen (k == m)) (option_map (risen (but stirs (m ∷ rest) k)) o) ≡ option_map (risen (but stirs rest k)) o
    by_test k true same o =
        let is : m ≡ k = grind (arith, same) in
        let s = ap stirs (sym is) ∙ stirred in
        let a = ap (λ (g : ℕ). is_in g rest) (sym is) ∙ alone in
        let e : (m == k) ≡ true = grind (arith, same) in
        twice (stirs k && not ((m == k) || is_in k rest)) (k == m) (stirs k && not (is_in k rest)) (rw (s, a, e) refl) (rw (s, a, e, same) refl) o
    by_test k false same o =
        let e : (m == k) ≡ false = grind (arith, same) in
        twice (stirs k && not ((m == k) || is_in k rest)) (k == m) (stirs k && not (is_in k rest)) (rw (same, e) (none_true (stirs k && not (is_in k rest))))
        (rw (same, e) (or_false (stirs k && not (is_in k rest)))) o

-- and the count of one for which it is no input stays
pub next_calm : (stirs : ℕ → Bool) (counts : List (Option ℕ)) (m : ℕ) (rest : List ℕ) → stirs m ≡ false →
    risen_from (but stirs (m ∷ rest)) 0 counts ≡ risen_from (but stirs rest) 0 counts
next_calm stirs counts m rest calm = risen_same (but stirs (m ∷ rest)) (but stirs rest) 0 counts (λ k there. by_test k (m == k) refl)
  where
    by_test : (k : ℕ) (t : Bool) → (m == k) ≡ t → but stirs (m ∷ rest) k ≡ but stirs rest k
    by_test k true same =
        let is : m ≡ k = grind (arith, same) in
        let s = ap stirs (sym is) ∙ calm in
        rw s refl
    by_test k false same = rw same refl

-- the count whose turn it is, of all numbers
pub next_count : (stirs : ℕ → Bool) (counts now : List (Option ℕ)) (ns : List ℕ) (i most : ℕ) → ns ≡ numbers_from 0 counts → i < length ns →
    now ≡ risen_from (but stirs (drop i (numbers_from 0 counts))) 0 counts → 0 < most →
    IfSome (entry (slice_get counts (slice_index_or ns i 0))) (λ n. n < most) → count_in (entry (slice_get now (slice_index_or ns i 0))) < most
next_count stirs counts now ns i most is low at some few =
    let m = slice_index_or ns i 0 in
    let left : drop i (numbers_from 0 counts) ≡ m ∷ drop (i + 1) ns = ap (drop i) (sym is) ∙ drop_more ns i 0 low in
    let same = ap (λ (cs : List (Option ℕ)). entry (slice_get cs m)) (at ∙ ap (λ (l : List ℕ). risen_from (but stirs l) 0 counts) left)
    ∙ next_entry stirs counts m (drop (i + 1) ns) in
    subst (λ (o : Option ℕ). count_in o < most) (sym same) (by_entry (entry (slice_get counts m)) few)
  where
    by_entry : (o : Option ℕ) → IfSome o (λ n. n < most) → count_in o < most
    by_entry None h = some
    by_entry (Some n) h = h

pub next_stirred : (stirs : ℕ → Bool) (counts now : List (Option ℕ)) (ns : List ℕ) (i : ℕ) → ns ≡ numbers_from 0 counts → i < length ns →
    now ≡ risen_from (but stirs (drop i (numbers_from 0 counts))) 0 counts → stirs (slice_index_or ns i 0) ≡ true →
    risen_at (slice_index_or ns i 0) now ≡ risen_from (but stirs (drop (i + 1) (numbers_from 0 counts))) 0 counts
next_stirred stirs counts now ns i is low at stirred =
    let m = slice_index_or ns i 0 in
    let left : drop i (numbers_from 0 counts) ≡ m ∷ drop (i + 1) (numbers_from 0 counts) =
    ap (drop i) (sym is) ∙ drop_more ns i 0 low ∙ ap (λ (l : List ℕ). m ∷ drop (i + 1) l) is in
    ap (risen_at m) (at ∙ ap (λ (l : List ℕ). risen_from (but stirs l) 0 counts) left)
    ∙ next_risen stirs counts m (drop (i + 1) (numbers_from 0 counts)) stirred (once 0 i m (drop (i + 1) (numbers_from 0 counts)) counts left)

pub next_left : (stirs : ℕ → Bool) (counts now : List (Option ℕ)) (ns : List ℕ) (i : ℕ) → ns ≡ numbers_from 0 counts → i < length ns →
    now ≡ risen_from (but stirs (drop i (numbers_from 0 counts))) 0 counts → stirs (slice_index_or ns i 0) ≡ false →
    now ≡ risen_from (but stirs (drop (i + 1) (numbers_from 0 counts))) 0 counts
next_left stirs counts now ns i is low at calm =
    let m = slice_index_or ns i 0 in
    let left : drop i (numbers_from 0 counts) ≡ m ∷ drop (i + 1) (numbers_from 0 counts) =
    ap (drop i) (sym is) ∙ drop_more ns i 0 low ∙ ap (λ (l : List ℕ). m ∷ drop (i + 1) l) is in
    at ∙ ap (λ (l : List ℕ). risen_from (but stirs l) 0 counts) left ∙ next_calm stirs counts m (drop (i + 1) (numbers_from 0 counts)) calm

pub numbers_now : (stirs : ℕ → Bool) (counts now : List (Option ℕ)) → now ≡ risen_from stirs 0 counts → numbers_from 0 now ≡ numbers_from 0 counts
numbers_now stirs counts now at = ap (numbers_from 0) at ∙ numbers_risen stirs 0 counts

-- SET

-- a count that is set stays one
pub numbers_set : (n g m count : ℕ) (counts : List (Option ℕ)) → entry (slice_get counts g) ≡ Some count → numbers_from n (slice_set counts g (Some m)) ≡ numbers_from n counts
numbers_set n g m count [] is = absurd cc
numbers_set n zero m count (Some c ∷ counts) is = refl
numbers_set n zero m count (None ∷ counts) is = absurd cc
numbers_set n (suc g) m count (Some c ∷ counts) is = ap (λ (ns : List ℕ). n ∷ ns) (numbers_set (n + 1) g m count counts is)
numbers_set n (suc g) m count (None ∷ counts) is = numbers_set (n + 1) g m count counts is
