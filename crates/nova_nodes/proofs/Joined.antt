-- The indices hold the derivations where a derivation joins, and where one goes.
use Rattle.std.proofs.Common.{◌≡◌, ℕ, List, [], ◌∷◌, ◌++◌, ap, sym, ◌∙◌, refl, inl, inr, arith, subst}
use Rattle.std.specs.Prelude.{Bool, true, false, ◌⊎◌, ◌==◌, not, Contains, Option}
use Rattle.std.specs.List.{AllByRecursion}
use Rattle.std.proofs.lemmas.Bool.{and_from, and_parts, eqb-true, eq-eqb}
use Rattle.std.proofs.lemmas.List.Elements.{Contains-append_left}
use Rattle.std.proofs.lemmas.Nat.{pow_pos}
use Rattle.nova_range.specs.declared.index.Entry.{Entry}
use Rattle.nova_range.specs.declared.range.Kind.{Kind}
use Rattle.nova_range.specs.Indices.{has_base, put_in, taken_out}
use Rattle.nova_model.specs.Delegations.{Delegations, has_place, is_same_kind, range_of, without}
use Rattle.nova_model.specs.Forest.{IsForest}
use Rattle.nova_model.specs.declared.delegation.Derivation.{Derivation}
use Rattle.law_forest.proofs.Members.{IsIn, all_at, all_from, all_more, filtered_in, in_filtered, in_from_contains, contains_from_in}
use Rattle.law_forest.proofs.Plain.{kind_itself, same_kind as same_kinds}
use Rattle.nova_nodes.specs.Spaces.{SpaceState, IsIndexed, IsEntryOf, entries_at, entry_of, is_of}
use Rattle.nova_nodes.proofs.Found.{same_id}
use Rattle.nova_nodes.proofs.Indexed.{meeting, kept_at, in_put, put_there, put_cases, last_in}

-- a space that is that of `pd` and `kind`
record IsSpace (pd : ℕ) (kind : Kind) (other : ℕ) (space : Kind) : Type 0 where
  domain : other ≡ pd
  kind_is : space ≡ kind

is_space : (pd : ℕ) (kind : Kind) (other : ℕ) (space : Kind) → is_of pd kind other space ≡ true → IsSpace pd kind other space
is_space pd kind other space h =
    let a = and_parts (other == pd) (is_same_kind kind space) h in
    record { domain = eqb-true other pd a.0; kind_is = same_kinds kind space a.1 }

of_space : (pd : ℕ) (kind : Kind) (other : ℕ) (space : Kind) → other ≡ pd → space ≡ kind → is_of pd kind other space ≡ true
of_space pd kind other space domain same = and_from (other == pd) (is_same_kind kind space) (eq-eqb other pd domain) (ap (is_same_kind kind) same ∙ kind_itself kind)

-- an entry of a space, where the space of `pd` and `kind` is it
in_space_of : (spaces : List (Option SpaceState)) (pd : ℕ) (kind : Kind) (other : ℕ) (space : Kind) (e : Entry) (es : List Entry) → IsSpace pd kind other space → entries_at spaces pd kind ≡ es →
    IsIn es e → Contains (entries_at spaces other space) e
in_space_of spaces pd kind other space e es s is i = rw (s.domain, s.kind_is, is) (contains_from_in es e i)

-- in another table the entries of all other spaces are the same
abbrev pub SameOthers : List (Option SpaceState) → List (Option SpaceState) → ℕ → Kind → Type 0
SameOthers spaces others pd kind = (other : ℕ) (space : Kind) → is_of pd kind other space ≡ false → entries_at others other space ≡ entries_at spaces other space

-- an entry of a derivation that was there, and of the new one
of_more : (list : List Derivation) (x : Derivation) (pd : ℕ) (kind : Kind) (e : Entry) → IsEntryOf list pd kind e → IsEntryOf (list ++ x ∷ []) pd kind e
of_more list x pd kind e of = record {
  of = of.of;
  there = Contains-append_left list (x ∷ []) of.of of.there;
  pd_is = of.pd_is;
  kind_is = of.kind_is;
  entry = of.entry;
}

of_new : (list : List Derivation) (x : Derivation) (e : Entry) → entry_of x ≡ e → IsEntryOf (list ++ x ∷ []) x.pd x.kind e
of_new list x e same = record {
  of = x;
  there = contains_from_in (list ++ x ∷ []) x (last_in list x);
  pd_is = refl;
  kind_is = refl;
  entry = sym same;
}

-- one more
pub indexed_more : (spaces others : List (Option SpaceState)) (list : List Derivation) (x : Derivation) → IsIndexed spaces list →
    entries_at others x.pd x.kind ≡ put_in (entry_of x) (entries_at spaces x.pd x.kind) → SameOthers spaces others x.pd x.kind → IsIndexed others (list ++ x ∷ [])
indexed_more spaces others list x indexed here same = record {
  entries = λ pd kind. by_space pd kind (is_of x.pd x.kind pd kind) refl;
  kept = all_more (λ d. Contains (entries_at others d.pd d.kind) (entry_of d)) list x
      (all_from (λ d. Contains (entries_at others d.pd d.kind) (entry_of d)) list (λ d i. stays d i (is_of x.pd x.kind d.pd d.kind) refl))
      (contains_from_in (entries_at others x.pd x.kind) (entry_of x) (subst (λ (es : List Entry). IsIn es (entry_of x)) (sym here) (put_there (entry_of x) (entries_at spaces x.pd x.kind))));
}
  where
    each : (e : Entry) → IsIn (entries_at spaces x.pd x.kind) e ⊎ (entry_of x ≡ e) → IsEntryOf (list ++ x ∷ []) x.pd x.kind e
    each e (inl i) = of_more list x x.pd x.kind e (all_at (IsEntryOf list x.pd x.kind) (entries_at spaces x.pd x.kind) e (indexed.entries x.pd x.kind) i)
    each e (inr is) = of_new list x e is

    by_space : (pd : ℕ) (kind : Kind) (t : Bool) → is_of x.pd x.kind pd kind ≡ t → AllByRecursion (IsEntryOf (list ++ x ∷ []) pd kind) (entries_at others pd kind)
    by_space pd kind true h =
        let s = is_space x.pd x.kind pd kind h in
        rw (s.domain, s.kind_is, here) (all_from (IsEntryOf (list ++ x ∷ []) x.pd x.kind) (put_in (entry_of x) (entries_at spaces x.pd x.kind))
        (λ e i. each e (put_cases (entry_of x) e (entries_at spaces x.pd x.kind) i)))
    by_space pd kind false h =
        rw (same pd kind h) (all_from (IsEntryOf (list ++ x ∷ []) pd kind) (entries_at spaces pd kind)
        (λ e i. of_more list x pd kind e (all_at (IsEntryOf list pd kind) (entries_at spaces pd kind) e (indexed.entries pd kind) i)))

    stays : (d : Derivation) → IsIn list d → (t : Bool) → is_of x.pd x.kind d.pd d.kind ≡ t → Contains (entries_at others d.pd d.kind) (entry_of d)
    stays d i true h =
        let s = is_space x.pd x.kind d.pd d.kind h in
        let there = in_put (entry_of x) (entry_of d) (entries_at spaces x.pd x.kind) (kept_at spaces list x.pd x.kind d indexed i s.domain s.kind_is) in
        in_space_of others x.pd x.kind d.pd d.kind (entry_of d) (put_in (entry_of x) (entries_at spaces x.pd x.kind)) s here there
    stays d i false h = rw (same d.pd d.kind h) (all_at (λ a. Contains (entries_at spaces a.pd a.kind) (entry_of a)) list d indexed.kept i)

-- one of an id goes
pub indexed_less : (spaces others : List (Option SpaceState)) (f : Delegations) (d : Derivation) → IsForest f → IsIn f.list d → IsIndexed spaces f.list →
    entries_at others d.pd d.kind ≡ taken_out d.base (entries_at spaces d.pd d.kind) → SameOthers spaces others d.pd d.kind → IsIndexed others (without f d.id).list
indexed_less spaces others f d forest there indexed here same = record {
  entries = λ pd kind. by_space pd kind (is_of d.pd d.kind pd kind) refl;
  kept = all_from (λ a. Contains (entries_at others a.pd a.kind) (entry_of a)) (without f d.id).list (λ a i.
      let k = filtered_in (λ (b : Derivation). not (b.id == d.id)) f.list a i in
      stays a k.0 k.1 (is_of d.pd d.kind a.pd a.kind) refl);
}
  where
    -- an entry of another derivation than the one that goes
    of_other : (pd : ℕ) (kind : Kind) (e : Entry) (of : IsEntryOf f.list pd kind e) → (of.of ≡ d → ⊥) → IsEntryOf (without f d.id).list pd kind e
    of_other pd kind e of other =
        let i = in_from_contains f.list of.of of.there in
        record {
          of = of.of;
          there = contains_from_in (without f d.id).list of.of (in_filtered (λ (b : Derivation). not (b.id == d.id)) f.list of.of i (by_test (of.of.id == d.id) refl));
          pd_is = of.pd_is;
          kind_is = of.kind_is;
          entry = of.entry;
        }
      where
        by_test : (t : Bool) → (of.of.id == d.id) ≡ t → not t ≡ true
        by_test true h = absurd (other (same_id f.list of.of d forest.rising (in_from_contains f.list of.of of.there) there (eqb-true of.of.id d.id h)))
        by_test false h = refl

    by_space : (pd : ℕ) (kind : Kind) (t : Bool) → is_of d.pd d.kind pd kind ≡ t → AllByRecursion (IsEntryOf (without f d.id).list pd kind) (entries_at others pd kind)
    by_space pd kind true h =
        let s = is_space d.pd d.kind pd kind h in
        rw (s.domain, s.kind_is, here) (all_from (IsEntryOf (without f d.id).list d.pd d.kind) (taken_out d.base (entries_at spaces d.pd d.kind)) (λ e i.
        let k = filtered_in (λ g. not (has_base d.base g)) (entries_at spaces d.pd d.kind) e i in
        let of = all_at (IsEntryOf f.list d.pd d.kind) (entries_at spaces d.pd d.kind) e (indexed.entries d.pd d.kind) k.0 in
        of_other d.pd d.kind e of (λ is.
        let base : e.range.base ≡ d.base = ap (λ (x : Entry). x.range.base) of.entry ∙ ap (λ (a : Derivation). a.base) is in
        let off = k.1 in
        grind (arith, base, off))))
    by_space pd kind false h =
        rw (same pd kind h) (all_from (IsEntryOf (without f d.id).list pd kind) (entries_at spaces pd kind) (λ e i.
        let of = all_at (IsEntryOf f.list pd kind) (entries_at spaces pd kind) e (indexed.entries pd kind) i in
        of_other pd kind e of (λ is.
        let on = of_space d.pd d.kind pd kind (sym of.pd_is ∙ ap (λ (a : Derivation). a.pd) is) (sym of.kind_is ∙ ap (λ (a : Derivation). a.kind) is) in
        cc)))

    stays : (a : Derivation) → IsIn f.list a → not (a.id == d.id) ≡ true → (t : Bool) → is_of d.pd d.kind a.pd a.kind ≡ t → Contains (entries_at others a.pd a.kind) (entry_of a)
    stays a i other true h =
        let s = is_space d.pd d.kind a.pd a.kind h in
        in_space_of others d.pd d.kind a.pd a.kind (entry_of a) (taken_out d.base (entries_at spaces d.pd d.kind)) s here
        (in_filtered (λ g. not (has_base d.base g)) (entries_at spaces d.pd d.kind) (entry_of a) (kept_at spaces f.list d.pd d.kind a indexed i s.domain s.kind_is)
        (by_base s.domain s.kind_is (a.base == d.base) refl))
      where
        by_base : a.pd ≡ d.pd → a.kind ≡ d.kind → (t : Bool) → (a.base == d.base) ≡ t → not t ≡ true
        by_base domain space false g = refl
        by_base domain space true g =
            let some = pow_pos a.order in
            let more = pow_pos d.order in
            let base = eqb-true a.base d.base g in
            let has : has_place (range_of a) d.base ≡ true = grind (arith, some, base) in
            let also : has_place (range_of d) d.base ≡ true = grind (arith, more) in
            let is : a ≡ d = meeting f a d d.base forest i there domain space has also in
            let id : a.id ≡ d.id = ap (λ (x : Derivation). x.id) is in
            absurd (grind (arith, id, other))
    stays a i other false h = rw (same a.pd a.kind h) (all_at (λ b. Contains (entries_at spaces b.pd b.kind) (entry_of b)) f.list a indexed.kept i)
