-- Parts of memory in order: the last that begins before an end reaches furthest, and a free part goes between them.
use Rattle.std.proofs.Common.{◌≡◌, ℕ, ◌<◌, ◌≤◌, Bool, true, false, not, ◌||◌, nat_lt, List, [], ◌∷◌, ◌++◌, refl, subst, arith}
use Rattle.std.specs.Prelude.{filter}
use Rattle.std.specs.List.{list_any, AllByRecursion}
use Rattle.std.specs.BTreeMap.{insert_entry}
use Rattle.std.specs.Ordering.{nat_cmp, is_le}
use Rattle.std.specs.declared.cmp.Ordering.{Ordering}
use Rattle.std.specs.declared.cmp.Ordering.TheVariants.{Less, Equal, Greater}
use Rattle.std.proofs.lemmas.Bool.Decides.{nat_tests}
use Rattle.nova_scenario.specs.Occupied.{meets, AreSpread}

abbrev Parts : Type 0
Parts = List (ℕ × ℕ)

-- those that begin before an end, and the last of parts after one
abbrev begins : ℕ → ℕ × ℕ → Bool
begins end part = not (is_le (nat_cmp end part.0))

abbrev pub before : ℕ → Parts → Parts
before end parts = filter (begins end) parts

abbrev last_of : ℕ × ℕ → Parts → ℕ × ℕ
last_of part [] = part
last_of part (next ∷ parts) = last_of next parts

last_of-push : (part : ℕ × ℕ) (parts : Parts) (last : ℕ × ℕ) → last_of part (parts ++ last ∷ []) ≡ last
last_of-push part [] last = refl
last_of-push part (next ∷ parts) last = last_of-push next parts last

begins_below : (end : ℕ) (part : ℕ × ℕ) → begins end part ≡ nat_lt part.0 end
begins_below end part = grind (arith, nat_tests)

-- an empty range meets nothing
pub empty_meets : (start end : ℕ) (parts : Parts) → end ≤ start → list_any (meets start end) parts ≡ false
empty_meets start end [] le = refl
empty_meets start end (part ∷ parts) le =
    let none : meets start end part ≡ false = grind (arith, nat_tests) in
    rw none (empty_meets start end parts le)

-- a part that begins before the end meets the range where it reaches after the start; another part does not
meets_before : (start end : ℕ) (part : ℕ × ℕ) → start < end → part.0 < part.1 → begins end part ≡ true → meets start end part ≡ nat_lt start part.1
meets_before start end part some spread e = let b = begins_below end part in grind (arith, nat_tests)

meets_after : (start end : ℕ) (part : ℕ × ℕ) → begins end part ≡ false → meets start end part ≡ false
meets_after start end part e = let b = begins_below end part in grind (arith, nat_tests)

-- where no part begins before the end, none meets
none_more : (start end : ℕ) (part : ℕ × ℕ) (parts : Parts) (b : Bool) → begins end part ≡ b → before end (part ∷ parts) ≡ [] → (before end parts ≡ [] → list_any (meets start end) parts ≡ false) → list_any (meets start end) (part ∷ parts) ≡ false
none_more start end part parts true e is rest = let is_cons : part ∷ before end parts ≡ [] = rw e at is in cc
none_more start end part parts false e is rest =
    let none : before end parts ≡ [] = rw e at is in
    rw (meets_after start end part e) (rest none)

pub none_before : (start end : ℕ) (parts : Parts) → before end parts ≡ [] → list_any (meets start end) parts ≡ false
none_before start end [] is = refl
none_before start end (part ∷ parts) is = none_more start end part parts (begins end part) refl is (none_before start end parts)

-- after a part: the last that begins before the end tells
module _ (start end : ℕ) (some : start < end) where
  abbrev Tells : ℕ × ℕ → Parts → Type 0
  Tells part parts = (nat_lt start part.1 || list_any (meets start end) parts) ≡ nat_lt start (last_of part (before end parts)).1

  further : (part next : ℕ × ℕ) (more : Bool) → part.1 ≤ next.0 → next.0 < next.1 → (nat_lt start part.1 || (nat_lt start next.1 || more)) ≡ (nat_lt start next.1 || more)
  further part next more le lt = grind (arith, nat_tests)

  tells_more : (part next : ℕ × ℕ) (parts : Parts) (b : Bool) → begins end next ≡ b → part.1 ≤ next.0 → next.0 < next.1 → Tells next parts → Tells part parts → Tells part (next ∷ parts)
  tells_more part next parts true e le lt here there =
      rw (e, meets_before start end next some lt e, further part next (list_any (meets start end) parts) le lt) here
  tells_more part next parts false e le lt here there = rw (e, meets_after start end next e) there

  tells : (part : ℕ × ℕ) (parts : Parts) → AreSpread (part ∷ parts) → Tells part parts
  tells part [] spread = grind (arith, nat_tests)
  tells part (next ∷ parts) spread =
      tells_more part next parts (begins end next) refl spread.1.0 spread.2.0 (tells next parts spread.2) (tells part parts (spread.0, spread.1.1, spread.2.2))

  -- the last of all that begin before the end
  last_more : (part : ℕ × ℕ) (parts : Parts) (last : ℕ × ℕ) (front : Parts) → part ∷ before end parts ≡ front ++ last ∷ [] → last_of part (before end parts) ≡ last
  last_more part parts last [] is = cc
  last_more part parts last (first ∷ front) is =
      let rest : before end parts ≡ front ++ last ∷ [] = cc in
      rw rest (last_of-push part front last)

  last_tells : (part : ℕ × ℕ) (parts : Parts) (b : Bool) → begins end part ≡ b → (last : ℕ × ℕ) (front : Parts) → AreSpread (part ∷ parts) → before end (part ∷ parts) ≡ front ++ last ∷ [] → (before end parts ≡ front ++ last ∷ [] → list_any (meets start end) parts ≡ nat_lt start last.1) → list_any (meets start end) (part ∷ parts) ≡ nat_lt start last.1
  last_tells part parts true e last front spread is rest =
      let all : part ∷ before end parts ≡ front ++ last ∷ [] = rw e at is in
      rw (meets_before start end part some spread.0 e, tells part parts spread, last_more part parts last front all) refl
  last_tells part parts false e last front spread is rest =
      let all : before end parts ≡ front ++ last ∷ [] = rw e at is in
      rw (meets_after start end part e) (rest all)

  pub last_before : (parts : Parts) (last : ℕ × ℕ) (front : Parts) → AreSpread parts → before end parts ≡ front ++ last ∷ [] → list_any (meets start end) parts ≡ nat_lt start last.1
  last_before [] last [] spread is = cc
  last_before [] last (first ∷ front) spread is = cc
  last_before (part ∷ parts) last front spread is =
      last_tells part parts (begins end part) refl last front spread is (last_before parts last front spread.2)

-- a free part goes between those before it and those after
or_false : (a b : Bool) → (a || b) ≡ false → (a ≡ false) × (b ≡ false)
or_false true b e = (e, absurd (cc))
or_false false b e = (refl, e)

or_swap : (a b c : Bool) → (a || (b || c)) ≡ (b || (a || c))
or_swap true true c = refl
or_swap true false c = refl
or_swap false b c = refl

module _ (start end : ℕ) (some : start < end) where
  abbrev with_it : Parts → Parts
  with_it parts = insert_entry nat_cmp parts start end

  -- what holds of it and of the others holds of all
  all_more : (P : ℕ × ℕ → Type 0) (part : ℕ × ℕ) (parts : Parts) (o : Ordering) → nat_cmp start part.0 ≡ o → P (start, end) → AllByRecursion P (part ∷ parts) → AllByRecursion P (with_it parts) → AllByRecursion P (with_it (part ∷ parts))
  all_more P part parts Less e it all rest = rw e (it, all)
  all_more P part parts Equal e it all rest = let same : start ≡ part.0 = grind (arith, nat_tests) in rw e (subst (λ n. P (n, end)) same it, all.1)
  all_more P part parts Greater e it all rest = rw e (all.0, rest)

  all_with : (P : ℕ × ℕ → Type 0) (parts : Parts) → P (start, end) → AllByRecursion P parts → AllByRecursion P (with_it parts)
  all_with P [] it all = (it, tt)
  all_with P (part ∷ parts) it all = all_more P part parts (nat_cmp start part.0) refl it all (all_with P parts it all.1)

  -- it ends where the parts after it begin
  ends_before : (part : ℕ × ℕ) → part.0 < part.1 → meets start end part ≡ false → nat_cmp start part.0 ≡ Less → end ≤ part.0
  ends_before part lt free e = grind (arith, nat_tests)

  begins_after : (part : ℕ × ℕ) → part.0 < part.1 → meets start end part ≡ false → nat_cmp start part.0 ≡ Greater → part.1 ≤ start
  begins_after part lt free e = grind (arith, nat_tests)

  not_at : (part : ℕ × ℕ) → part.0 < part.1 → meets start end part ≡ false → nat_cmp start part.0 ≡ Equal → ⊥
  not_at part lt free e = grind (arith, nat_tests)

  all_after : (part : ℕ × ℕ) (parts : Parts) → end ≤ part.0 → part.0 < part.1 → AllByRecursion (λ next. part.1 ≤ next.0) parts → AllByRecursion (λ next. end ≤ next.0) parts
  all_after part [] le lt all = tt
  all_after part (next ∷ parts) le lt all = (let first = all.0 in omega arith, all_after part parts le lt all.1)

  spread_more : (part : ℕ × ℕ) (parts : Parts) (o : Ordering) → nat_cmp start part.0 ≡ o → AreSpread (part ∷ parts) → meets start end part ≡ false → AreSpread (with_it parts) → AreSpread (with_it (part ∷ parts))
  spread_more part parts Less e spread free rest =
      let le = ends_before part spread.0 free e in
      rw e (some, (le, all_after part parts le spread.0 spread.1), spread)
  spread_more part parts Equal e spread free rest = absurd (not_at part spread.0 free e)
  spread_more part parts Greater e spread free rest =
      rw e (spread.0, all_with (λ next. part.1 ≤ next.0) parts (begins_after part spread.0 free e) spread.1, rest)

  pub spread_with : (parts : Parts) → AreSpread parts → list_any (meets start end) parts ≡ false → AreSpread (with_it parts)
  spread_with [] spread free = (some, tt, tt)
  spread_with (part ∷ parts) spread free =
      let both = or_false (meets start end part) (list_any (meets start end) parts) free in
      spread_more part parts (nat_cmp start part.0) refl spread both.0 (spread_with parts spread.2 both.1)

  meets_more : (from to : ℕ) (part : ℕ × ℕ) (parts : Parts) (o : Ordering) → nat_cmp start part.0 ≡ o → part.0 < part.1 → meets start end part ≡ false
      → list_any (meets from to) (with_it parts) ≡ (meets from to (start, end) || list_any (meets from to) parts)
      → list_any (meets from to) (with_it (part ∷ parts)) ≡ (meets from to (start, end) || list_any (meets from to) (part ∷ parts))
  meets_more from to part parts Less e lt free rest = rw e refl
  meets_more from to part parts Equal e lt free rest = absurd (not_at part lt free e)
  meets_more from to part parts Greater e lt free rest =
      rw (e, rest) (or_swap (meets from to part) (meets from to (start, end)) (list_any (meets from to) parts))

  pub meets_with : (from to : ℕ) (parts : Parts) → AreSpread parts → list_any (meets start end) parts ≡ false → list_any (meets from to) (with_it parts) ≡ (meets from to (start, end) || list_any (meets from to) parts)
  meets_with from to [] spread free = refl
  meets_with from to (part ∷ parts) spread free =
      let both = or_false (meets start end part) (list_any (meets start end) parts) free in
      meets_more from to part parts (nat_cmp start part.0) refl spread.0 both.0 (meets_with from to parts spread.2 both.1)
