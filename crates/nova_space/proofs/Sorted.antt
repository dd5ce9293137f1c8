-- Entries by rising base.
use Rattle.std.proofs.Common.{◌≡◌, ℕ, ◌≤◌, List, [], ◌∷◌, ◌++◌, ap, sym, refl, inl, inr, arith}
use Rattle.std.specs.Prelude.{Bool, true, false, not, take, drop, length, filter}
use Rattle.std.specs.List.{AllByRecursion, insert}
use Rattle.std.proofs.lemmas.Bool.{cond_both}
use Rattle.std.proofs.lemmas.List.Elements.{All-filter, All-append, All-cons}
use Rattle.std.proofs.lemmas.Nat.{pow_pos}
use Rattle.nova_range.specs.declared.index.Entry.{Entry}
use Rattle.nova_range.specs.Ranges.{IsRange, end_of, overlaps}
use Rattle.nova_range.specs.Indices.{IsRising, IsSorted, begins_before, put_in, taken_out, has_base}
use Rattle.nova_range.specs.Members.{IsIn}
use Rattle.nova_range.proofs.Members.{all_at, all_from, filtered_in}
use Rattle.nova_range.proofs.Sorted.{filter_all, filter_none}
use Rattle.nova_space.specs.Cached.{is_below}

pub all_join : {T : Type 0} (P : T → Type 0) (xs ys : List T) → AllByRecursion P xs → AllByRecursion P ys → AllByRecursion P (xs ++ ys)
all_join P [] ys ps qs = qs
all_join P (x ∷ xs) ys ps qs = (ps.0, all_join P xs ys ps.1 qs)

-- entries after one that does not begin below a base don't either
later_above : (base : ℕ) (e : Entry) (es : List Entry) → AllByRecursion (λ f. end_of e.range ≤ f.range.base) es → is_below base e ≡ false → AllByRecursion (λ f. is_below base f ≡ false) es
later_above base e [] after h = tt
later_above base e (f ∷ fs) after h =
    let some = pow_pos e.range.order in
    let first = after.0 in (grind (arith, some, first, h), later_above base e fs after.1 h)

-- those that begin below a base stand first
pub record IsSplit (base : ℕ) (es : List Entry) : Type 0 where
  pub first : take (length (filter (is_below base) es)) es ≡ filter (is_below base) es
  pub rest : drop (length (filter (is_below base) es)) es ≡ filter (λ e. not (is_below base e)) es

pub split : (base : ℕ) (es : List Entry) → IsRising es → IsSplit base es
split base [] rising = record { first = refl; rest = refl }
split base (e ∷ es) rising = by_test (is_below base e) refl (split base es rising.1)
  where
    by_test : (t : Bool) → is_below base e ≡ t → IsSplit base es → IsSplit base (e ∷ es)
    by_test true is rest = record {
      first = rw is (ap (λ l. e ∷ l) rest.first);
      rest = rw is rest.rest;
    }
    by_test false is rest =
        let none = later_above base e es rising.0 is in
        let gone = filter_none (is_below base) es none in
        let kept = filter_all (λ f. not (is_below base f)) es (all_from (λ f. not (is_below base f) ≡ true) es (λ f i. ap not (all_at (λ g. is_below base g ≡ false) es f none i))) in
        record {
          first = rw (is, gone) refl;
          rest = rw (is, gone) (ap (λ l. e ∷ l) (sym kept));
        }

-- sorted entries of which some are taken out
pub rising_filter : (p : Entry → Bool) (es : List Entry) → IsRising es → IsRising (filter p es)
rising_filter p [] rising = tt
rising_filter p (e ∷ es) rising =
    let rest = rising_filter p es rising.1 in
    cond_both (p e) (e ∷ filter p es) (filter p es) IsRising
    (λ t. (all_from (λ f. end_of e.range ≤ f.range.base) (filter p es) (λ f i. all_at (λ g. end_of e.range ≤ g.range.base) es f rising.0 (filtered_in p es f i).0), rest))
    (λ f. rest)

pub sorted_without : (base : ℕ) (es : List Entry) → IsSorted es → IsSorted (taken_out base es)
sorted_without base es sorted = record {
  ranges = All-filter (λ e. not (has_base base e)) (λ e. IsRange e.range) es sorted.ranges;
  rising = rising_filter (λ e. not (has_base base e)) es sorted.rising;
}

-- two lists of which the first ends where the second begins
rising_join : (es fs : List Entry) → IsRising es → IsRising fs → ((e f : Entry) → IsIn es e → IsIn fs f → end_of e.range ≤ f.range.base) → IsRising (es ++ fs)
rising_join [] fs first second between = second
rising_join (e ∷ es) fs first second between = (
  all_join (λ f. end_of e.range ≤ f.range.base) es fs first.0 (all_from (λ f. end_of e.range ≤ f.range.base) fs (λ f i. between e f (inl refl) i)),
  rising_join es fs first.1 second (λ a b i j. between a b (inr i) j),
)

-- an entry that begins before another ends before it, and an entry that does not begins after it, where they share no place
ends_before : (e x : Entry) → overlaps e.range x.range ≡ false → begins_before x e ≡ true → end_of e.range ≤ x.range.base
ends_before e x apart h = let some = pow_pos x.range.order in grind (arith, some, apart, h)

begins_behind : (e x : Entry) → overlaps e.range x.range ≡ false → not (begins_before x e) ≡ true → end_of x.range ≤ e.range.base
begins_behind e x apart h = let some = pow_pos e.range.order in grind (arith, some, apart, h)

-- sorted entries with one more, apart from all
pub sorted_with : (x : Entry) (es : List Entry) → IsSorted es → IsRange x.range → AllByRecursion (λ e. overlaps e.range x.range ≡ false) es → IsSorted (put_in x es)
sorted_with x es sorted range apart = record {
  ranges = All-append (λ e. IsRange e.range) before (x ∷ after) (All-filter (begins_before x) (λ e. IsRange e.range) es sorted.ranges)
      (All-cons (λ e. IsRange e.range) x after range (All-filter (λ e. not (begins_before x e)) (λ e. IsRange e.range) es sorted.ranges));
  rising = rising_join before (x ∷ after) (rising_filter (begins_before x) es sorted.rising)
      (all_from (λ f. end_of x.range ≤ f.range.base) after behind, rising_filter (λ e. not (begins_before x e)) es sorted.rising)
      (λ e f i j. between e f (in_front e i) j);
}
  where
    before : List Entry
    before = filter (begins_before x) es

    after : List Entry
    after = filter (λ e. not (begins_before x e)) es

    in_front : (e : Entry) → IsIn (filter (begins_before x) es) e → end_of e.range ≤ x.range.base
    in_front e i = let k = filtered_in (begins_before x) es e i in ends_before e x (all_at (λ f. overlaps f.range x.range ≡ false) es e apart k.0) k.1

    behind : (f : Entry) → IsIn (filter (λ e. not (begins_before x e)) es) f → end_of x.range ≤ f.range.base
    behind f i = let k = filtered_in (λ e. not (begins_before x e)) es f i in begins_behind f x (all_at (λ e. overlaps e.range x.range ≡ false) es f apart k.0) k.1

    between : (e f : Entry) → end_of e.range ≤ x.range.base → IsIn (x ∷ filter (λ e. not (begins_before x e)) es) f → end_of e.range ≤ f.range.base
    between e f low (inl is) = rw (sym is) low
    between e f low (inr i) = let far = behind f i in let some = pow_pos x.range.order in omega arith

-- an entry more, behind all that begin below it
pub put_in_is : (x : Entry) (es : List Entry) → IsRising es → insert es (length (filter (is_below x.range.base) es)) x ≡ put_in x es
put_in_is x es rising = let s = split x.range.base es rising in rw (s.first, s.rest) refl
