-- What is remembered is there, and stays so.
use Rattle.std.proofs.Common.{◌≡◌, ℕ, ◌≤◌, List, [], ◌∷◌, ◌++◌, refl, ap, ◌∙◌, inl, inr, subst, arith}
use Rattle.std.specs.Prelude.{Bool, true, false, not, ◌==◌, length, drop, filter, if◌then◌else◌, Option, Some, None, option_map}
use Rattle.std.specs.List.{All, find}
use Rattle.std.proofs.lemmas.List.Elements.{All-head, All-tail}
use Rattle.nova_range.specs.declared.index.Entry.{Entry}
use Rattle.nova_range.specs.Ranges.{IsRange, end_of}
use Rattle.nova_range.specs.Indices.{IsRising, IsSorted, ends_after, has_base, has_place, key_at, put_in, taken_out}
use Rattle.nova_space.specs.declared.cache.Place.{Place}
use Rattle.nova_space.specs.declared.cache.TheConstants.{SIZE}
use Rattle.nova_range.specs.Members.{IsIn}
use Rattle.nova_range.proofs.Members.{all_at, all_from, filtered_in, found_in, in_filtered}
use Rattle.nova_range.proofs.Sorted.{in_put}
use Rattle.nova_space.specs.Cached.{IsOf, AreOf, spans, begins_at, noted, place_of, key_of_place}

-- the entry that has a place is the entry that is found
pub found_at : (place : ℕ) (es : List Entry) (e : Entry) → IsRising es → IsIn es e → has_place place e ≡ true → find (has_place place) es ≡ Some e
found_at place [] e rising i h = absurd i
found_at place (a ∷ es) e rising (inl is) h = let k : has_place place a ≡ true = ap (has_place place) is ∙ h in rw k (ap (λ x. Some x) is)
found_at place (a ∷ es) e rising (inr i) h =
    let after = all_at (λ b. end_of a.range ≤ b.range.base) es e rising.0 i in
    let off : has_place place a ≡ false = grind (arith, after, h) in
    rw off (found_at place es e rising.1 i h)

-- what is remembered of a place is what would be found
pub remembered : (place : ℕ) (es : List Entry) (ps : List Place) (key : ℕ) → IsRising es → AreOf es ps → option_map key_of_place (find (spans place) ps) ≡ Some key → key_at place es ≡ Some key
remembered place es ps key rising of is = by_find (find (spans place) ps) refl is
  where
    by_find : (o : Option Place) → find (spans place) ps ≡ o → option_map key_of_place o ≡ Some key → key_at place es ≡ Some key
    by_find None found h = absurd (cc)
    by_find (Some p) found h =
        let k = found_in (spans place) ps p found in
        let a = all_at (IsOf es) ps p of k.0 in
        let has : has_place place a.of ≡ true = ap (spans place) a.is ∙ k.1 in
        let key_is : a.of.key ≡ p.key = ap key_of_place a.is in
        let e = found_at place es a.of rising a.there has in
        rw e (ap (λ n. Some n) key_is ∙ h)

-- one more is remembered
all_drop : (es : List Entry) (ps : List Place) → AreOf es ps → AreOf es (drop 1 ps)
all_drop es [] of = of
all_drop es (p ∷ ps) of = of.1

all_last : (es : List Entry) (p : Place) (ps : List Place) → AreOf es ps → IsOf es p → AreOf es (ps ++ p ∷ [])
all_last es p [] of last = (last, tt)
all_last es p (q ∷ ps) of last = (of.0, all_last es p ps of.1 last)

pub noted_of : (es : List Entry) (p : Place) (ps : List Place) → AreOf es ps → IsOf es p → AreOf es (noted p ps)
noted_of es p ps of one = by_room (length ps == SIZE)
  where
    by_room : (t : Bool) → AreOf es ((if t then drop 1 ps else ps) ++ p ∷ [])
    by_room true = all_last es p (drop 1 ps) (all_drop es ps of) one
    by_room false = all_last es p ps of one

-- what was found may be remembered
pub found_of : (place : ℕ) (es : List Entry) (e : Entry) → find (ends_after place) es ≡ Some e → IsOf es (place_of e)
found_of place es e found = record { of = e; there = (found_in (ends_after place) es e found).0; is = refl }

range_at : (es : List Entry) (e : Entry) → All (λ (a : Entry). IsRange a.range) es → IsIn es e → IsRange e.range
range_at [] e all i = absurd i
range_at (a ∷ es) e all (inl is) = subst (λ (x : Entry). IsRange x.range) is (All-head (λ (x : Entry). IsRange x.range) a es all)
range_at (a ∷ es) e all (inr i) = range_at es e (All-tail (λ (x : Entry). IsRange x.range) a es all) i

pub found_range : (place : ℕ) (es : List Entry) (e : Entry) → IsSorted es → find (ends_after place) es ≡ Some e → IsRange e.range
found_range place es e sorted found = range_at es e sorted.ranges (found_in (ends_after place) es e found).0

pub put_of : (x : Entry) (es : List Entry) (ps : List Place) → AreOf es ps → AreOf (put_in x es) ps
put_of x es ps of = all_from (IsOf (put_in x es)) ps (λ p i. let a = all_at (IsOf es) ps p of i in record { of = a.of; there = in_put x a.of es a.there; is = a.is })

-- and where the ranges of a base are taken out and forgotten, the others are there
pub forgotten_of : (base : ℕ) (es : List Entry) (ps : List Place) → AreOf es ps → AreOf (taken_out base es) (filter (λ p. not (begins_at base p)) ps)
forgotten_of base es ps of = all_from (IsOf (taken_out base es)) (filter (λ p. not (begins_at base p)) ps) (λ p i.
    let k = filtered_in (λ q. not (begins_at base q)) ps p i in
    let a = all_at (IsOf es) ps p of k.0 in
    let other : not (has_base base a.of) ≡ true = ap (λ q. not (begins_at base q)) a.is ∙ k.1 in
    record { of = a.of; there = in_filtered (λ e. not (has_base base e)) es a.of a.there other; is = a.is })
