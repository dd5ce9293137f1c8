-- The indices hold the derivations: what is found by them, and that they stay so.
use Rattle.std.proofs.Common.{◌≡◌, ℕ, List, [], ◌∷◌, ◌++◌, ap, sym, ◌∙◌, refl, inl, inr, arith, subst}
use Rattle.std.specs.Prelude.{Bool, true, false, ◌⊎◌, ◌==◌, ◌&&◌, not, nat_le, filter, if◌then◌else◌, Contains, Option, Some, None, option_map, option_and_then, zero, suc}
use Rattle.std.specs.List.{AllByRecursion, find}
use Rattle.std.proofs.lemmas.Bool.{and_from, and_parts, eqb-true, eq-eqb}
use Rattle.std.proofs.lemmas.Nat.{pow_pos}
use Rattle.nova_range.specs.declared.index.Entry.{Entry}
use Rattle.nova_range.specs.declared.range.Kind.{Kind}
use Rattle.nova_range.specs.declared.range.Range.{Range}
use Rattle.nova_range.specs.Ranges.{overlaps}
use Rattle.nova_range.specs.Indices as index
use Rattle.nova_range.specs.Indices.{IsSorted, key_of, ends_after, begins_before, key_at, range_from, put_in}
use Rattle.nova_model.specs.Delegations.{Delegations, covers, has_place, holds_from, first_from, is_same_kind, range_of, base_of, with_id}
use Rattle.nova_model.specs.Forest.{AreApart, IsForest}
use Rattle.nova_model.specs.declared.delegation.Derivation.{Derivation}
use Rattle.law_forest.proofs.Members.{IsIn, all_at, all_from, filtered_in, in_filtered, found_in, in_from_contains}
use Rattle.law_forest.proofs.Plain.{kind_itself, same_kind as same_kinds}
use Rattle.nova_nodes.specs.Spaces.{SpaceState, IsIndexed, IsEntryOf, entries_at, entry_of}
use Rattle.nova_nodes.proofs.Found.{find_only, not_found, pairs_at, with_its_id, least_only}
pub use Rattle.nova_range.proofs.Members.{in_left}
use Rattle.nova_range.proofs.Members.{in_right}
pub use Rattle.nova_range.proofs.Sorted.{in_put}
use Rattle.nova_nodes.proofs.Sorted.{first_least, filter_none, held, key_held}

-- kinds

-- what a test of a space says: the derivation is in it, and passes the rest
pub record IsInSpace (pd : ℕ) (kind : Kind) (rest : Bool) (d : Derivation) : Type 0 where
  pub domain : d.pd ≡ pd
  pub space : d.kind ≡ kind
  pub passes : rest ≡ true

pub in_space : (pd : ℕ) (kind : Kind) (rest : Bool) (d : Derivation) → is_same_kind kind d.kind && (d.pd == pd && rest) ≡ true → IsInSpace pd kind rest d
in_space pd kind rest d h =
    let a = and_parts (is_same_kind kind d.kind) (d.pd == pd && rest) h in
    let b = and_parts (d.pd == pd) rest a.1 in
    record { domain = eqb-true d.pd pd b.0; space = same_kinds kind d.kind a.0; passes = b.1 }

pub passes_space : (pd : ℕ) (kind : Kind) (rest : Bool) (d : Derivation) → d.pd ≡ pd → d.kind ≡ kind → rest ≡ true → is_same_kind kind d.kind && (d.pd == pd && rest) ≡ true
passes_space pd kind rest d domain space h =
    and_from (is_same_kind kind d.kind) (d.pd == pd && rest) (ap (is_same_kind kind) space ∙ kind_itself kind) (and_from (d.pd == pd) rest (eq-eqb d.pd pd domain) h)

-- two of a space that have one place are the same
pub meeting : (f : Delegations) (a b : Derivation) (place : ℕ) → IsForest f → IsIn f.list a → IsIn f.list b → a.pd ≡ b.pd → a.kind ≡ b.kind →
    has_place (range_of a) place ≡ true → has_place (range_of b) place ≡ true → a ≡ b
meeting f a b place forest i j domain space h k = by_pair (pairs_at (λ c d. c.pd ≡ d.pd → c.kind ≡ d.kind → AreApart c d) f.list a b forest.apart i j)
  where
    not_apart : (r s : Range) → has_place r place ≡ true → has_place s place ≡ true → overlaps r s ≡ false → a ≡ b
    not_apart r s h k apart = absurd (grind (arith, h, k, apart))

    by_pair : (a ≡ b) ⊎ ((a.pd ≡ b.pd → a.kind ≡ b.kind → AreApart a b) ⊎ (b.pd ≡ a.pd → b.kind ≡ a.kind → AreApart b a)) → a ≡ b
    by_pair (inl e) = e
    by_pair (inr (inl apart)) = not_apart (range_of a) (range_of b) h k (apart domain space)
    by_pair (inr (inr apart)) = not_apart (range_of b) (range_of a) k h (apart (sym domain) (sym space))

-- an entry is kept for each derivation of a space
pub kept_at : (spaces : List (Option SpaceState)) (list : List Derivation) (pd : ℕ) (kind : Kind) (d : Derivation) → IsIndexed spaces list → IsIn list d → d.pd ≡ pd → d.kind ≡ kind →
    IsIn (entries_at spaces pd kind) (entry_of d)
kept_at spaces list pd kind d indexed i domain space =
    let at = all_at (λ a. Contains (entries_at spaces a.pd a.kind) (entry_of a)) list d indexed.kept i in
    let here : Contains (entries_at spaces pd kind) (entry_of d) = rw (sym domain, sym space) at in
    in_from_contains (entries_at spaces pd kind) (entry_of d) here

-- what an index finds at a place is the derivation that covers it
pub at_is : (spaces : List (Option SpaceState)) (f : Delegations) (pd : ℕ) (kind : Kind) (place : ℕ) → IsForest f → IsIndexed spaces f.list →
    option_and_then (with_id f.list) (key_at place (entries_at spaces pd kind)) ≡ find (covers kind pd place) f.list
at_is spaces f pd kind place forest indexed = by_entry (find (index.has_place place) entries) refl (find (covers kind pd place) f.list) refl
  where
    entries : List Entry
    entries = entries_at spaces pd kind

    by_entry : (o : Option Entry) → find (index.has_place place) (entries_at spaces pd kind) ≡ o → (found : Option Derivation) → find (covers kind pd place) f.list ≡ found →
        option_and_then (with_id f.list) (key_at place (entries_at spaces pd kind)) ≡ find (covers kind pd place) f.list
    by_entry None is None none = rw (is, none) refl
    by_entry None is (Some d) found =
        let k = found_in (covers kind pd place) f.list d found in
        let s = in_space pd kind (has_place (range_of d) place) d k.1 in
        let gone = not_found (index.has_place place) (entries_at spaces pd kind) (entry_of d) is (kept_at spaces f.list pd kind d indexed k.0 s.domain s.space) in
        let passes = s.passes in
        absurd (cc)
    by_entry (Some e) is found h =
        let k = found_in (index.has_place place) (entries_at spaces pd kind) e is in
        let of = all_at (IsEntryOf f.list pd kind) (entries_at spaces pd kind) e (indexed.entries pd kind) k.0 in
        let a = of.of in
        let i = in_from_contains f.list a of.there in
        let has : has_place (range_of a) place ≡ true = ap (index.has_place place) (sym of.entry) ∙ k.1 in
        let first : option_and_then (with_id f.list) (key_at place (entries_at spaces pd kind)) ≡ with_id f.list e.key = rw is refl in
        let id : e.key ≡ a.id = ap (λ (x : Entry). x.key) of.entry in
        first ∙ ap (with_id f.list) id ∙ with_its_id f.list a forest.rising i
        ∙ sym (find_only (covers kind pd place) f.list a i (passes_space pd kind (has_place (range_of a) place) a of.pd_is of.kind_is has)
        (λ b j g. let s = in_space pd kind (has_place (range_of b) place) b g in
        meeting f b a place forest j i (s.domain ∙ sym of.pd_is) (s.space ∙ sym of.kind_is) s.passes has))

-- what an index finds from a place on is the derivation of least base there
pub first_is : (spaces : List (Option SpaceState)) (f : Delegations) (pd : ℕ) (kind : Kind) (place : ℕ) → IsForest f → IsIndexed spaces f.list → IsSorted (entries_at spaces pd kind) →
    option_and_then (λ p. with_id f.list p.1) (range_from place (entries_at spaces pd kind)) ≡ first_from f.list kind pd place
first_is spaces f pd kind place forest indexed sorted = by_entry (find (ends_after place) (entries_at spaces pd kind)) refl
  where
    kept : (b : Derivation) → IsIn (filter (holds_from kind pd place) f.list) b → IsIn f.list b × IsInSpace pd kind (ends_after place (entry_of b)) b
    kept b j =
        let k = filtered_in (holds_from kind pd place) f.list b j in
        (k.0, in_space pd kind (ends_after place (entry_of b)) b k.1)

    by_entry : (o : Option Entry) → find (ends_after place) (entries_at spaces pd kind) ≡ o →
        option_and_then (λ p. with_id f.list p.1) (range_from place (entries_at spaces pd kind)) ≡ first_from f.list kind pd place
    by_entry None is =
        let none : filter (holds_from kind pd place) f.list ≡ [] =
        filter_none (holds_from kind pd place) f.list (all_from (λ b. holds_from kind pd place b ≡ false) f.list (λ b i. fails b i (holds_from kind pd place b) refl)) in
        rw (is, none) refl
      where
        fails : (b : Derivation) → IsIn f.list b → (t : Bool) → holds_from kind pd place b ≡ t → t ≡ false
        fails b i false h = refl
        fails b i true h =
            let s = in_space pd kind (ends_after place (entry_of b)) b h in
            let gone = not_found (ends_after place) (entries_at spaces pd kind) (entry_of b) is (kept_at spaces f.list pd kind b indexed i s.domain s.space) in
            let passes = s.passes in
            absurd (cc)
    by_entry (Some e) is =
        let k = found_in (ends_after place) (entries_at spaces pd kind) e is in
        let of = all_at (IsEntryOf f.list pd kind) (entries_at spaces pd kind) e (indexed.entries pd kind) k.0 in
        let a = of.of in
        let i = in_from_contains f.list a of.there in
        let base : e.range.base ≡ a.base = ap (λ (x : Entry). x.range.base) of.entry in
        let ends : ends_after place (entry_of a) ≡ true = ap (ends_after place) (sym of.entry) ∙ k.1 in
        let first : option_and_then (λ p. with_id f.list p.1) (range_from place (entries_at spaces pd kind)) ≡ with_id f.list e.key = rw is refl in
        let id : e.key ≡ a.id = ap (λ (x : Entry). x.key) of.entry in
        let there = in_filtered (holds_from kind pd place) f.list a i (passes_space pd kind (ends_after place (entry_of a)) a of.pd_is of.kind_is ends) in
        first ∙ ap (with_id f.list) id ∙ with_its_id f.list a forest.rising i
        ∙ sym (least_only base_of (filter (holds_from kind pd place) f.list) a there
        (λ b j. let s = kept b j in
        let low = first_least place (entries_at spaces pd kind) e (entry_of b) sorted.rising is (kept_at spaces f.list pd kind b indexed s.0 s.1.domain s.1.space) s.1.passes in
        omega arith)
        (λ b j g. let s = kept b j in
        let more = pow_pos a.order in
        let less = pow_pos b.order in
        let has : has_place (range_of a) a.base ≡ true = grind (arith, more) in
        let also : has_place (range_of b) a.base ≡ true = grind (arith, less, g) in
        meeting f b a a.base forest s.0 i (s.1.domain ∙ sym of.pd_is) (s.1.space ∙ sym of.kind_is) also has))

-- no derivations, no entries

pub indexed_nothing : IsIndexed [] []
indexed_nothing = record { entries = λ pd kind. none pd kind; kept = tt }
  where
    none : (pd : ℕ) (kind : Kind) → AllByRecursion (IsEntryOf [] pd kind) (entries_at [] pd kind)
    none zero kind = tt
    none (suc pd) kind = tt

-- the same entries in another table

pub indexed_same : (spaces others : List (Option SpaceState)) (list : List Derivation) → ((pd : ℕ) (kind : Kind) → entries_at others pd kind ≡ entries_at spaces pd kind) →
    IsIndexed spaces list → IsIndexed others list
indexed_same spaces others list same indexed = record {
  entries = λ pd kind. subst (λ (es : List Entry). AllByRecursion (IsEntryOf list pd kind) es) (sym (same pd kind)) (indexed.entries pd kind);
  kept = all_from (λ d. Contains (entries_at others d.pd d.kind) (entry_of d)) list
      (λ d i. subst (λ (es : List Entry). Contains es (entry_of d)) (sym (same d.pd d.kind)) (all_at (λ a. Contains (entries_at spaces a.pd a.kind) (entry_of a)) list d indexed.kept i));
}

-- the entries of a space are apart from what fits into it
pub entries_apart : (spaces : List (Option SpaceState)) (list : List Derivation) (x : Derivation) → IsIndexed spaces list → AllByRecursion (λ a. a.pd ≡ x.pd → a.kind ≡ x.kind → AreApart a x) list →
    AllByRecursion (λ e. overlaps e.range (range_of x) ≡ false) (entries_at spaces x.pd x.kind)
entries_apart spaces list x indexed apart = all_from (λ e. overlaps e.range (range_of x) ≡ false) (entries_at spaces x.pd x.kind) (λ e i.
    let of = all_at (IsEntryOf list x.pd x.kind) (entries_at spaces x.pd x.kind) e (indexed.entries x.pd x.kind) i in
    let far = all_at (λ a. a.pd ≡ x.pd → a.kind ≡ x.kind → AreApart a x) list of.of apart (in_from_contains list of.of of.there) of.pd_is of.kind_is in
    ap (λ (y : Entry). overlaps y.range (range_of x)) of.entry ∙ far)

-- a member of two lists that are joined
pub in_either : {T : Type 0} (xs ys : List T) (x : T) → IsIn (xs ++ ys) x → IsIn xs x ⊎ IsIn ys x
in_either [] ys x i = inr i
in_either (y ∷ xs) ys x (inl e) = inl (inl e)
in_either (y ∷ xs) ys x (inr i) = later (in_either xs ys x i)
  where
    later : IsIn xs x ⊎ IsIn ys x → IsIn (y ∷ xs) x ⊎ IsIn ys x
    later (inl j) = inl (inr j)
    later (inr j) = inr j

-- what is there where one entry is put in
pub put_there : (x : Entry) (es : List Entry) → IsIn (put_in x es) x
put_there x es = in_right (filter (begins_before x) es) (x ∷ filter (λ f. not (begins_before x f)) es) x (inl refl)

pub put_cases : (x e : Entry) (es : List Entry) → IsIn (put_in x es) e → IsIn es e ⊎ (x ≡ e)
put_cases x e es i = by_part (in_either (filter (begins_before x) es) (x ∷ filter (λ f. not (begins_before x f)) es) e i)
  where
    by_part : IsIn (filter (begins_before x) es) e ⊎ IsIn (x ∷ filter (λ f. not (begins_before x f)) es) e → IsIn es e ⊎ (x ≡ e)
    by_part (inl j) = inl (filtered_in (begins_before x) es e j).0
    by_part (inr (inl same)) = inr same
    by_part (inr (inr j)) = inl (filtered_in (λ f. not (begins_before x f)) es e j).0

pub last_in : {T : Type 0} (xs : List T) (x : T) → IsIn (xs ++ x ∷ []) x
last_in xs x = in_right xs (x ∷ []) x (inl refl)

-- the first entry from a place on gives the derivation that covers it, where it begins at the place or before
pub covering_is : (spaces : List (Option SpaceState)) (f : Delegations) (pd : ℕ) (kind : Kind) (place : ℕ) → IsForest f → IsIndexed spaces f.list → IsSorted (entries_at spaces pd kind) →
    option_and_then (λ (p : Range × ℕ). if nat_le p.0.base place then with_id f.list p.1 else None) (range_from place (entries_at spaces pd kind)) ≡ find (covers kind pd place) f.list
covering_is spaces f pd kind place forest indexed sorted =
    by_entry (find (ends_after place) (entries_at spaces pd kind)) refl ∙ ap (option_and_then (with_id f.list)) (sym (key_held place (entries_at spaces pd kind) sorted.rising)) ∙ at_is spaces f pd kind place forest indexed
  where
    by_base : (e : Entry) (t : Bool) → (if t then with_id f.list e.key else None) ≡ option_and_then (with_id f.list) (option_map key_of (if t then Some e else None))
    by_base e true = refl
    by_base e false = refl

    by_entry : (o : Option Entry) → find (ends_after place) (entries_at spaces pd kind) ≡ o →
        option_and_then (λ (p : Range × ℕ). if nat_le p.0.base place then with_id f.list p.1 else None) (range_from place (entries_at spaces pd kind))
        ≡ option_and_then (with_id f.list) (option_map key_of (held place (find (ends_after place) (entries_at spaces pd kind))))
    by_entry None is = rw is refl
    by_entry (Some e) is = rw is (by_base e (nat_le e.range.base place))
