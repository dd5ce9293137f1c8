-- Stir counts of several that rise by different numbers, one after another.
use Rattle.std.proofs.Common.{◌≡◌, ◌≢◌, ℕ, zero, suc, ◌+◌, ◌<◌, ◌≤◌, ◌==◌, ◌^◌, List, [], ◌∷◌, length, refl, ap, ap₂, sym, ◌∙◌, subst, arith}
use Rattle.std.specs.Prelude.{Bool, true, false, ◌||◌, Option, Some, None, option_map, drop, slice_get, slice_index_or, IfSome, if◌then◌else◌}
use Rattle.std.specs.List.{list_any}
use Rattle.std.proofs.lemmas.Bool.{eqb-true, ne_eqb}
use Rattle.std.proofs.lemmas.List.{drop_more}
use Rattle.nova_model.specs.Inputs.{is_covered_for}
use Rattle.nova_model.specs.State.{KernelState, entry, pd_of}
use Rattle.law_leases.specs.Paging.{seen_count, seen_from, stores_seen}
use Rattle.law_leases.specs.declared.steps.Page.{Page}
use Rattle.nova_turn.specs.StirCounts.{count_in, numbers_from, risen_by, risen_by_in}
use Rattle.nova_turn.proofs.StirTables.{once}

-- each count rises by the number for it
abbrev pub grown : (ℕ → ℕ) → ℕ → List (Option ℕ) → List (Option ℕ)
grown more n [] = []
grown more n (count ∷ counts) = option_map (λ c. c + more n) count ∷ grown more (n + 1) counts

abbrev is_in : ℕ → List ℕ → Bool
is_in g ns = list_any (λ m. m == g) ns

-- but for those that are still to come
abbrev pub but : (ℕ → ℕ) → List ℕ → ℕ → ℕ
but more left g = if is_in g left then 0 else more g

-- the stores to where the memory of each leads, but of the context that stores
abbrev pub stores_for : KernelState → ℕ → List Page → ℕ → ℕ
stores_for k ec pages g = if ec == g then 0 else stores_seen (is_covered_for k (pd_of k g)) pages

by_none : (o : Option ℕ) → o ≡ option_map (λ c. c + 0) o
by_none None = refl
by_none (Some c) = ap Some (let e : c ≡ c + 0 = omega arith in e)

grown_none : (n : ℕ) (counts : List (Option ℕ)) → counts ≡ grown (λ m. 0) n counts
grown_none n [] = refl
grown_none n (count ∷ counts) = ap₂ (λ (c : Option ℕ) (cs : List (Option ℕ)). c ∷ cs) (by_none count) (grown_none (n + 1) counts)

-- what they rise by is a matter of the numbers that have a count
grown_same : (a b : ℕ → ℕ) (n : ℕ) (counts : List (Option ℕ)) → ((m : ℕ) → is_in m (numbers_from n counts) ≡ true → a m ≡ b m) → grown a n counts ≡ grown b n counts
grown_same a b n [] same = refl
grown_same a b n (None ∷ counts) same = ap (λ (cs : List (Option ℕ)). None ∷ cs) (grown_same a b (n + 1) counts same)
grown_same a b n (Some count ∷ counts) same =
    ap₂ (λ (m : ℕ) (cs : List (Option ℕ)). Some (count + m) ∷ cs)
    (same n (ap (λ (t : Bool). t || is_in n (numbers_from (n + 1) counts)) (let e : (n == n) ≡ true = grind arith in e)))
    (grown_same a b (n + 1) counts (λ m there. same m (ap (λ (t : Bool). (n == m) || t) there ∙ or_true (n == m))))
  where
    or_true : (t : Bool) → (t || true) ≡ true
    or_true true = refl
    or_true false = refl

-- or of all numbers from the first on
grown_from : (a b : ℕ → ℕ) (n : ℕ) (counts : List (Option ℕ)) → ((m : ℕ) → n ≤ m → a m ≡ b m) → grown a n counts ≡ grown b n counts
grown_from a b n [] same = refl
grown_from a b n (count ∷ counts) same =
    ap₂ (λ (m : ℕ) (cs : List (Option ℕ)). option_map (λ c. c + m) count ∷ cs) (same n (omega arith)) (grown_from a b (n + 1) counts (λ m h. same m (omega (arith, h))))

grown_entry : (more : ℕ → ℕ) (n i : ℕ) (counts : List (Option ℕ)) → entry (slice_get (grown more n counts) i) ≡ option_map (λ c. c + more (n + i)) (entry (slice_get counts i))
grown_entry more n i [] = refl
grown_entry more n zero (count ∷ counts) = ap (λ (m : ℕ). option_map (λ c. c + more m) count) (let e : n ≡ n + 0 = omega arith in e)
grown_entry more n (suc i) (count ∷ counts) =
    grown_entry more (n + 1) i counts
    ∙ ap (λ (m : ℕ). option_map (λ c. c + more m) (entry (slice_get counts i))) (let e : n + 1 + i ≡ n + suc i = omega arith in e)

numbers_grown : (more : ℕ → ℕ) (n : ℕ) (counts : List (Option ℕ)) → numbers_from n (grown more n counts) ≡ numbers_from n counts
numbers_grown more n [] = refl
numbers_grown more n (None ∷ counts) = numbers_grown more (n + 1) counts
numbers_grown more n (Some count ∷ counts) = ap (λ (ms : List ℕ). n ∷ ms) (numbers_grown more (n + 1) counts)

pub numbers_now : (more : ℕ → ℕ) (counts now : List (Option ℕ)) → now ≡ grown more 0 counts → numbers_from 0 now ≡ numbers_from 0 counts
numbers_now more counts now at = ap (numbers_from 0) at ∙ numbers_grown more 0 counts

-- ONE RISES

raised_past : (i x : ℕ) (o e : Option ℕ) (counts : List (Option ℕ)) → risen_by_in (suc i) x (o ∷ counts) e ≡ o ∷ risen_by_in i x counts e
raised_past i x o None counts = refl
raised_past i x o (Some c) counts = refl

raised_grown : (a b : ℕ → ℕ) (n i x : ℕ) (counts : List (Option ℕ)) → b (n + i) ≡ a (n + i) + x → ((m : ℕ) → m ≢ n + i → a m ≡ b m) →
    risen_by i x (grown a n counts) ≡ grown b n counts
raised_grown a b n i x [] here others = refl
raised_grown a b n zero x (None ∷ counts) here others =
    ap (λ (cs : List (Option ℕ)). None ∷ cs) (grown_from a b (n + 1) counts (λ m h. others m (λ same. absurd (omega (arith, h, same)))))
raised_grown a b n zero x (Some c ∷ counts) here others =
    let e : n + 0 ≡ n = omega arith in
    let at : b n ≡ a n + x = subst (λ (m : ℕ). b m ≡ a m + x) e here in
    let sum : c + a n + x ≡ c + b n = omega (arith, at) in
    ap₂ (λ (m : ℕ) (cs : List (Option ℕ)). Some m ∷ cs) sum (grown_from a b (n + 1) counts (λ m h. others m (λ same. absurd (omega (arith, h, same)))))
raised_grown a b n (suc i) x (o ∷ counts) here others =
    let e : n + suc i ≡ n + 1 + i = omega arith in
    raised_past i x (option_map (λ c. c + a n) o) (entry (slice_get (grown a (n + 1) counts) i)) (grown a (n + 1) counts)
    ∙ ap₂ (λ (m : ℕ) (cs : List (Option ℕ)). option_map (λ c. c + m) o ∷ cs) (others n (λ same. absurd (omega (arith, same))))
    (raised_grown a b (n + 1) i x counts (subst (λ (m : ℕ). b m ≡ a m + x) e here) (λ m ne. others m (λ same. absurd (ne (same ∙ e)))))

-- ONE AFTER ANOTHER

pub but_all : (more : ℕ → ℕ) (counts : List (Option ℕ)) → counts ≡ grown (but more (drop 0 (numbers_from 0 counts))) 0 counts
but_all more counts =
    grown_none 0 counts
    ∙ sym (grown_same (but more (numbers_from 0 counts)) (λ m. 0) 0 counts (λ m there. ap (λ (t : Bool). if t then 0 else more m) there))

pub but_none : (more : ℕ → ℕ) (counts : List (Option ℕ)) (i : ℕ) → length (numbers_from 0 counts) ≤ i → grown (but more (drop i (numbers_from 0 counts))) 0 counts ≡ grown more 0 counts
but_none more counts i all = ap (λ (left : List ℕ). grown (but more left) 0 counts) (dropped (numbers_from 0 counts) i all)
  where
    dropped : (ns : List ℕ) (j : ℕ) → length ns ≤ j → drop j ns ≡ []
    dropped [] zero h = refl
    dropped [] (suc j) h = refl
    dropped (n ∷ ns) zero h = absurd (omega (arith, h))
    dropped (n ∷ ns) (suc j) h = dropped ns j (omega (arith, h))

-- the virtual CPU whose turn it is
next_here : (more : ℕ → ℕ) (m : ℕ) (rest : List ℕ) → but more (m ∷ rest) m ≡ 0
next_here more m rest = ap (λ (t : Bool). if t || is_in m rest then 0 else more m) (let e : (m == m) ≡ true = grind arith in e)

next_others : (more : ℕ → ℕ) (m g : ℕ) (rest : List ℕ) → g ≢ m → but more (m ∷ rest) g ≡ but more rest g
next_others more m g rest ne = ap (λ (t : Bool). if t || is_in g rest then 0 else more g) (ne_eqb m g (λ same. ne (sym same)))

left_at : (counts : List (Option ℕ)) (ns : List ℕ) (i : ℕ) → ns ≡ numbers_from 0 counts → i < length ns →
    drop i (numbers_from 0 counts) ≡ slice_index_or ns i 0 ∷ drop (i + 1) (numbers_from 0 counts)
left_at counts ns i is low = ap (drop i) (sym is) ∙ drop_more ns i 0 low ∙ ap (λ (l : List ℕ). slice_index_or ns i 0 ∷ drop (i + 1) l) is

pub next_raised : (more : ℕ → ℕ) (counts now : List (Option ℕ)) (ns : List ℕ) (i x : ℕ) → ns ≡ numbers_from 0 counts → i < length ns →
    now ≡ grown (but more (drop i (numbers_from 0 counts))) 0 counts → x ≡ more (slice_index_or ns i 0) →
    risen_by (slice_index_or ns i 0) x now ≡ grown (but more (drop (i + 1) (numbers_from 0 counts))) 0 counts
next_raised more counts now ns i x is low at same =
    let m = slice_index_or ns i 0 in
    let rest = drop (i + 1) (numbers_from 0 counts) in
    let left = left_at counts ns i is low in
    let none = once 0 i m rest counts left in
    ap (risen_by m x) (at ∙ ap (λ (l : List ℕ). grown (but more l) 0 counts) left)
    ∙ raised_grown (but more (m ∷ rest)) (but more rest) 0 m x counts
    (let here : but more rest m ≡ x = ap (λ (t : Bool). if t then 0 else more m) none ∙ sym same in
    let before = next_here more m rest in
    let e : 0 + m ≡ m = omega arith in
    subst (λ (g : ℕ). but more rest g ≡ but more (m ∷ rest) g + x) (sym e) (omega (arith, here, before)))
    (λ g ne. next_others more m g rest (λ at. ne (at ∙ (let e : m ≡ 0 + m = omega arith in e))))

pub next_left : (more : ℕ → ℕ) (counts now : List (Option ℕ)) (ns : List ℕ) (i : ℕ) → ns ≡ numbers_from 0 counts → i < length ns →
    now ≡ grown (but more (drop i (numbers_from 0 counts))) 0 counts → more (slice_index_or ns i 0) ≡ 0 →
    now ≡ grown (but more (drop (i + 1) (numbers_from 0 counts))) 0 counts
next_left more counts now ns i is low at calm =
    let m = slice_index_or ns i 0 in
    let rest = drop (i + 1) (numbers_from 0 counts) in
    let left = left_at counts ns i is low in
    at ∙ ap (λ (l : List ℕ). grown (but more l) 0 counts) left
    ∙ grown_from (but more (m ∷ rest)) (but more rest) 0 counts (λ g h. by_place g (g == m) refl)
  where
    if_zero : (t : Bool) (n : ℕ) → n ≡ 0 → 0 ≡ (if t then 0 else n)
    if_zero true n is_ = refl
    if_zero false n is_ = sym is_

    by_place : (g : ℕ) (t : Bool) → (g == slice_index_or ns i 0) ≡ t →
        but more (slice_index_or ns i 0 ∷ drop (i + 1) (numbers_from 0 counts)) g ≡ but more (drop (i + 1) (numbers_from 0 counts)) g
    by_place g true same =
        let here : g ≡ slice_index_or ns i 0 = eqb-true g (slice_index_or ns i 0) same in
        subst (λ (n : ℕ). but more (slice_index_or ns i 0 ∷ drop (i + 1) (numbers_from 0 counts)) n ≡ but more (drop (i + 1) (numbers_from 0 counts)) n) (sym here)
        (next_here more (slice_index_or ns i 0) (drop (i + 1) (numbers_from 0 counts))
        ∙ if_zero (is_in (slice_index_or ns i 0) (drop (i + 1) (numbers_from 0 counts))) (more (slice_index_or ns i 0)) calm)
    by_place g false same = next_others more (slice_index_or ns i 0) g (drop (i + 1) (numbers_from 0 counts)) (λ here. absurd (grind (arith, here, same)))

-- its count is that of before
pub next_fits : (more : ℕ → ℕ) (counts now : List (Option ℕ)) (ns : List ℕ) (i x all : ℕ) → ns ≡ numbers_from 0 counts → i < length ns →
    now ≡ grown (but more (drop i (numbers_from 0 counts))) 0 counts → x ≤ all → all < 2 ^ 64 →
    IfSome (entry (slice_get counts (slice_index_or ns i 0))) (λ n. n + all < 2 ^ 64) → count_in (entry (slice_get now (slice_index_or ns i 0))) + x < 2 ^ 64
next_fits more counts now ns i x all is low at less some few =
    let m = slice_index_or ns i 0 in
    let rest = drop (i + 1) (numbers_from 0 counts) in
    let same = ap (λ (cs : List (Option ℕ)). entry (slice_get cs m)) (at ∙ ap (λ (l : List ℕ). grown (but more l) 0 counts) (left_at counts ns i is low))
    ∙ (grown_entry (but more (m ∷ rest)) 0 m counts
    ∙ (ap (λ (n : ℕ). option_map (λ c. c + but more (m ∷ rest) n) (entry (slice_get counts m))) (let e : 0 + m ≡ m = omega arith in e)
    ∙ (ap (λ (n : ℕ). option_map (λ c. c + n) (entry (slice_get counts m))) (next_here more m rest) ∙ sym (by_none (entry (slice_get counts m)))))) in
    subst (λ (o : Option ℕ). count_in o + x < 2 ^ 64) (sym same) (by_entry (entry (slice_get counts m)) few)
  where
    by_entry : (o : Option ℕ) → IfSome o (λ n. n + all < 2 ^ 64) → count_in o + x < 2 ^ 64
    by_entry None h = omega (arith, less, some)
    by_entry (Some n) h = omega (arith, less, h)

-- STORES

pub fewer_seen : (q : ℕ → Bool) (pages : List Page) → stores_seen q pages ≤ stores_seen (λ f. true) pages
fewer_seen q [] = omega arith
fewer_seen q (p ∷ pages) = by_test (q p.frame) (fewer_seen q pages)
  where
    by_test : (t : Bool) → stores_seen q pages ≤ stores_seen (λ f. true) pages → (if t then p.stores else 0) + stores_seen q pages ≤ p.stores + stores_seen (λ f. true) pages
    by_test true h = omega (arith, h)
    by_test false h = omega (arith, h)

one_count : (k : KernelState) (ec : ℕ) (pages : List Page) (n count : ℕ) → count + stores_for k ec pages n ≡ seen_count k ec pages n count
one_count k ec pages n count = by_test (ec == n)
  where
    by_test : (t : Bool) → count + (if t then 0 else stores_seen (is_covered_for k (pd_of k n)) pages)
        ≡ (if t then count else count + stores_seen (is_covered_for k (pd_of k n)) pages)
    by_test true = omega arith
    by_test false = refl

pub all_seen : (k : KernelState) (ec : ℕ) (pages : List Page) (n : ℕ) (counts : List (Option ℕ)) → grown (stores_for k ec pages) n counts ≡ seen_from k ec pages n counts
all_seen k ec pages n [] = refl
all_seen k ec pages n (None ∷ counts) = ap (λ (cs : List (Option ℕ)). None ∷ cs) (all_seen k ec pages (n + 1) counts)
all_seen k ec pages n (Some count ∷ counts) =
    ap₂ (λ (m : ℕ) (cs : List (Option ℕ)). Some m ∷ cs) (one_count k ec pages n count) (all_seen k ec pages (n + 1) counts)

-- of the context that stores none is counted, of another those that are seen
pub none_for : (k : KernelState) (ec : ℕ) (pages : List Page) (g : ℕ) → (g == ec) ≡ true → stores_for k ec pages g ≡ 0
none_for k ec pages g same = let e : (ec == g) ≡ true = grind (arith, same) in ap (λ (t : Bool). if t then 0 else stores_seen (is_covered_for k (pd_of k g)) pages) e

pub some_for : (k : KernelState) (ec : ℕ) (pages : List Page) (g : ℕ) → (g == ec) ≡ false → stores_seen (is_covered_for k (pd_of k g)) pages ≡ stores_for k ec pages g
some_for k ec pages g other =
    let e : (ec == g) ≡ false = grind (arith, other) in sym (ap (λ (t : Bool). if t then 0 else stores_seen (is_covered_for k (pd_of k g)) pages) e)

-- what is counted for each, of all numbers
pub entry_seen : (k : KernelState) (ec : ℕ) (pages : List Page) (i : ℕ) (counts : List (Option ℕ)) →
    entry (slice_get (seen_from k ec pages 0 counts) i) ≡ option_map (λ c. c + stores_for k ec pages i) (entry (slice_get counts i))
entry_seen k ec pages i counts =
    ap (λ (cs : List (Option ℕ)). entry (slice_get cs i)) (sym (all_seen k ec pages 0 counts))
    ∙ (grown_entry (stores_for k ec pages) 0 i counts
    ∙ ap (λ (m : ℕ). option_map (λ c. c + stores_for k ec pages m) (entry (slice_get counts i))) (let e : 0 + i ≡ i = omega arith in e))

pub length_seen : (k : KernelState) (ec : ℕ) (pages : List Page) (n : ℕ) (counts : List (Option ℕ)) → length (seen_from k ec pages n counts) ≡ length counts
length_seen k ec pages n [] = refl
length_seen k ec pages n (count ∷ counts) = ap suc (length_seen k ec pages (n + 1) counts)

pub less_for : (k : KernelState) (ec : ℕ) (pages : List Page) (g : ℕ) → stores_for k ec pages g ≤ stores_seen (λ f. true) pages
less_for k ec pages g = by_test (ec == g)
  where
    by_test : (t : Bool) → (if t then 0 else stores_seen (is_covered_for k (pd_of k g)) pages) ≤ stores_seen (λ f. true) pages
    by_test true = omega arith
    by_test false = fewer_seen (is_covered_for k (pd_of k g)) pages
