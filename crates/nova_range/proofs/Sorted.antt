-- Entries by rising base: which is found, and which stay.
use Rattle.std.proofs.Common.{◌≡◌, ℕ, ◌≤◌, List, [], ◌∷◌, ap, inr, refl, arith}
use Rattle.std.specs.Prelude.{Bool, true, false, not, filter, nat_le, if◌then◌else◌, Option, Some, None, option_map}
use Rattle.std.specs.List.{AllByRecursion, find}
use Rattle.nova_range.specs.declared.index.Entry.{Entry}
use Rattle.nova_range.specs.Indices.{IsRising, begins_before, ends_after, has_place, key_at, key_of, put_in}
use Rattle.nova_range.specs.Members.{IsIn}
use Rattle.nova_range.specs.Ranges.{end_of}
use Rattle.nova_range.proofs.Members.{in_filtered, in_left, in_right}

-- all pass, or none
pub filter_all : {T : Type 0} (p : T → Bool) (xs : List T) → AllByRecursion (λ x. p x ≡ true) xs → filter p xs ≡ xs
filter_all p [] all = refl
filter_all p (x ∷ xs) all = rw (all.0) (ap (λ l. x ∷ l) (filter_all p xs all.1))

pub filter_none : {T : Type 0} (p : T → Bool) (xs : List T) → AllByRecursion (λ x. p x ≡ false) xs → filter p xs ≡ []
filter_none p [] all = refl
filter_none p (x ∷ xs) all = rw (all.0) (filter_none p xs all.1)

-- an entry that is put in leaves what is there
pub in_put : (x e : Entry) (es : List Entry) → IsIn es e → IsIn (put_in x es) e
in_put x e es i = by_side (begins_before x e) refl
  where
    by_side : (t : Bool) → begins_before x e ≡ t → IsIn (put_in x es) e
    by_side true h = in_left (filter (begins_before x) es) (x ∷ filter (λ f. not (begins_before x f)) es) e (in_filtered (begins_before x) es e i h)
    by_side false h = in_right (filter (begins_before x) es) (x ∷ filter (λ f. not (begins_before x f)) es) e (inr (in_filtered (λ f. not (begins_before x f)) es e i (ap not h)))

-- of sorted entries that which has the place is the first that ends after it, if that begins at the place or before
abbrev pub held : ℕ → Option Entry → Option Entry
held place None = None
held place (Some e) = if nat_le e.range.base place then Some e else None

pub held_is : (place : ℕ) (es : List Entry) → IsRising es → find (has_place place) es ≡ held place (find (ends_after place) es)
held_is place [] rising = refl
held_is place (e ∷ es) rising = by_test (ends_after place e) refl (held_is place es rising.1)
  where
    none : (fs : List Entry) → AllByRecursion (λ f. end_of e.range ≤ f.range.base) fs → ends_after place e ≡ true → find (has_place place) fs ≡ None
    none [] after h = refl
    none (f ∷ fs) after h = let low = after.0 in let off : has_place place f ≡ false = grind (arith, low, h) in rw off (none fs after.1 h)

    by_test : (t : Bool) → ends_after place e ≡ t → find (has_place place) es ≡ held place (find (ends_after place) es) →
        find (has_place place) (e ∷ es) ≡ held place (if t then Some e else find (ends_after place) es)
    by_test true h rest = by_base (nat_le e.range.base place) refl
      where
        by_base : (b : Bool) → nat_le e.range.base place ≡ b → find (has_place place) (e ∷ es) ≡ (if b then Some e else None)
        by_base true g = let on : has_place place e ≡ true = grind (arith, h, g) in rw on refl
        by_base false g = let off : has_place place e ≡ false = grind (arith, h, g) in rw off (none es rising.0 h)
    by_test false h rest = let off : has_place place e ≡ false = grind (arith, h) in rw off rest

-- so that its key is that of the place
pub key_held : (place : ℕ) (es : List Entry) → IsRising es → key_at place es ≡ option_map key_of (held place (find (ends_after place) es))
key_held place es rising = ap (option_map key_of) (held_is place es rising)
