-- The entry of a base: the entry before which as many come as begin below the base, or none.
use Rattle.std.proofs.Common.{◌≡◌, ℕ, ◌≤◌, List, [], ◌∷◌, refl, ap, sym, ◌∙◌, arith}
use Rattle.std.specs.Prelude.{Bool, true, false, not, length, filter, slice_get, if◌then◌else◌, Option, Some, None, option_map}
use Rattle.std.specs.List.{AllByRecursion, find, remove}
use Rattle.std.proofs.lemmas.Nat.{pow_pos}
use Rattle.nova_range.specs.declared.index.Entry.{Entry}
use Rattle.nova_range.specs.Ranges.{end_of}
use Rattle.nova_range.specs.Indices.{IsRising, has_base, key_of, key_of_base, taken_out}
use Rattle.nova_space.specs.Cached.{is_below, of_base}

-- entries after one that does not begin below a base are of other bases, and do not begin below it either
record IsAfter (base : ℕ) (es : List Entry) : Type 0 where
  none : find (has_base base) es ≡ None
  kept : taken_out base es ≡ es
  count : length (filter (is_below base) es) ≡ 0

after_it : (base : ℕ) (e : Entry) (es : List Entry) → AllByRecursion (λ f. end_of e.range ≤ f.range.base) es → is_below base e ≡ false → IsAfter base es
after_it base e [] after h = record { none = refl; kept = refl; count = refl }
after_it base e (f ∷ fs) after h =
    let some = pow_pos e.range.order in
    let low = after.0 in
    let other : has_base base f ≡ false = grind (arith, some, low, h) in
    let above : is_below base f ≡ false = grind (arith, some, low, h) in
    let rest = after_it base e fs after.1 h in
    record { none = rw other rest.none; kept = rw other (ap (λ l. f ∷ l) rest.kept); count = rw above rest.count }

-- what is found is what stands there, if that is of the base
pub base_found : (base : ℕ) (es : List Entry) → IsRising es → find (has_base base) es ≡ of_base base (slice_get es (length (filter (is_below base) es)))
base_found base [] rising = refl
base_found base (e ∷ es) rising = by_test (is_below base e) refl (base_found base es rising.1)
  where
    by_test : (t : Bool) → is_below base e ≡ t → find (has_base base) es ≡ of_base base (slice_get es (length (filter (is_below base) es))) →
        find (has_base base) (e ∷ es) ≡ of_base base (slice_get (e ∷ es) (length (if t then e ∷ filter (is_below base) es else filter (is_below base) es)))
    by_test true h rest = let other : has_base base e ≡ false = grind (arith, h) in rw other rest
    by_test false h rest =
        let after = after_it base e es rising.0 h in
        rw after.count (by_base (has_base base e) after)
      where
        by_base : (b : Bool) → IsAfter base es → (if b then Some e else find (has_base base) es) ≡ (if b then Some e else None)
        by_base true after = refl
        by_base false after = after.none

-- without it the others are left
pub base_removed : (base : ℕ) (es : List Entry) (x : Entry) → IsRising es → find (has_base base) es ≡ Some x → remove es (length (filter (is_below base) es)) ≡ taken_out base es
base_removed base [] x rising found = absurd (cc)
base_removed base (e ∷ es) x rising found = by_test (is_below base e) refl found (λ g. base_removed base es x rising.1 g)
  where
    by_test : (t : Bool) → is_below base e ≡ t → find (has_base base) (e ∷ es) ≡ Some x → (find (has_base base) es ≡ Some x → remove es (length (filter (is_below base) es)) ≡ taken_out base es) →
        remove (e ∷ es) (length (if t then e ∷ filter (is_below base) es else filter (is_below base) es)) ≡ taken_out base (e ∷ es)
    by_test true h g rest =
        let other : has_base base e ≡ false = grind (arith, h) in
        let later : find (has_base base) es ≡ Some x = rw other at g in
        rw other (ap (λ l. e ∷ l) (rest later))
    by_test false h g rest =
        let after = after_it base e es rising.0 h in
        rw after.count (by_base (has_base base e) refl after)
      where
        by_base : (b : Bool) → has_base base e ≡ b → IsAfter base es → es ≡ (if not b then e ∷ taken_out base es else taken_out base es)
        by_base true k after = sym after.kept
        by_base false k after = let none = after.none in let later : find (has_base base) es ≡ Some x = rw k at g in absurd (cc)

-- where there is none, all are
pub base_absent : (base : ℕ) (es : List Entry) → find (has_base base) es ≡ None → taken_out base es ≡ es
base_absent base [] none = refl
base_absent base (e ∷ es) none = by_test (has_base base e) refl none (λ g. base_absent base es g)
  where
    by_test : (t : Bool) → has_base base e ≡ t → find (has_base base) (e ∷ es) ≡ None → (find (has_base base) es ≡ None → taken_out base es ≡ es) → taken_out base (e ∷ es) ≡ e ∷ es
    by_test true h g rest = let k : find (has_base base) (e ∷ es) ≡ Some e = rw h refl in absurd (cc)
    by_test false h g rest = let k : find (has_base base) es ≡ None = rw h at g in rw h (ap (λ l. e ∷ l) (rest k))

-- the same by keys, of the entry that `n` others stand before
pub key_found : (base : ℕ) (es : List Entry) (n : ℕ) → IsRising es → n ≡ length (filter (is_below base) es) → option_map key_of (of_base base (slice_get es n)) ≡ key_of_base base es
key_found base es n rising count = ap (λ k. option_map key_of (of_base base (slice_get es k))) count ∙ ap (option_map key_of) (sym (base_found base es rising))

is_there : (o : Option Entry) (key : ℕ) → option_map key_of o ≡ Some key → (e : Entry) × (o ≡ Some e)
is_there None key h = absurd (cc)
is_there (Some e) key h = (e, refl)

is_none : (o : Option Entry) → option_map key_of o ≡ None → o ≡ None
is_none None h = refl
is_none (Some e) h = absurd (cc)

pub one_of_base : (base : ℕ) (es : List Entry) (n key : ℕ) → IsRising es → n ≡ length (filter (is_below base) es) → option_map key_of (of_base base (slice_get es n)) ≡ Some key →
    remove es n ≡ taken_out base es
one_of_base base es n key rising count h =
    let e = is_there (find (has_base base) es) key (sym (key_found base es n rising count) ∙ h) in
    ap (remove es) count ∙ base_removed base es e.0 rising e.1

pub none_of_base : (base : ℕ) (es : List Entry) (n : ℕ) → IsRising es → n ≡ length (filter (is_below base) es) → option_map key_of (of_base base (slice_get es n)) ≡ None → taken_out base es ≡ es
none_of_base base es n rising count h = base_absent base es (is_none (find (has_base base) es) (sym (key_found base es n rising count) ∙ h))
