-- Pages that are known and copies, with one more at the end.
use Rattle.std.proofs.Common.{◌≡◌, ◌≢◌, ◌⊎◌, ◌≤◌, ◌<◌, ℕ, suc, ◌+◌, ◌++◌, List, [], ◌∷◌, length, inl, inr, ap, sym, ◌∙◌, subst, refl, arith}
use Rattle.std.specs.Prelude.{Bool, true, false, ◌==◌, Option, Some, None, IsSome, option_map, slice_get, if◌then◌else◌}
use Rattle.std.specs.List.{AllByRecursion, find}
use Rattle.std.proofs.lemmas.Bool.{cases_eq}
use Rattle.std.proofs.lemmas.Option.{same_Some}
use Rattle.nova_guest.specs.declared.page.Page.{Page as Place}
use Rattle.law_leases.specs.Leases.{copy_at}
use Rattle.law_leases.specs.Paging.{AreFresh, AreOnce}
use Rattle.law_leases.specs.declared.steps.Page.{Page}
use Rattle.nova_burst.specs.Copies.{known_in, place_of}
use Rattle.nova_burst.specs.declared.copies.Known.{Known}

-- PAGES

pub known_still : (list : List Known) (x : Known) (page : ℕ) (p : Place) → known_in list page ≡ Some p → known_in (list ++ x ∷ []) page ≡ Some p
known_still [] x page p h = absurd (cc)
known_still (k ∷ list) x page p h = by_test (k.page == page) h (known_still list x page p)
  where
    by_test : (t : Bool) → option_map place_of (if t then Some k else find (λ j. j.page == page) list) ≡ Some p →
        (known_in list page ≡ Some p → known_in (list ++ x ∷ []) page ≡ Some p) →
        option_map place_of (if t then Some k else find (λ j. j.page == page) (list ++ x ∷ [])) ≡ Some p
    by_test true g rest = g
    by_test false g rest = rest g

pub known_new : (list : List Known) (x : Known) → known_in list x.page ≡ None → known_in (list ++ x ∷ []) x.page ≡ Some (place_of x)
known_new [] x h = grind arith
known_new (k ∷ list) x h = by_test (k.page == x.page) h (known_new list x)
  where
    by_test : (t : Bool) → option_map place_of (if t then Some k else find (λ j. j.page == x.page) list) ≡ None →
        (known_in list x.page ≡ None → known_in (list ++ x ∷ []) x.page ≡ Some (place_of x)) →
        option_map place_of (if t then Some k else find (λ j. j.page == x.page) (list ++ x ∷ [])) ≡ Some (place_of x)
    by_test true g rest = absurd (cc)
    by_test false g rest = rest g

pub known_or : (list : List Known) (x : Known) (page : ℕ) (p : Place) → known_in (list ++ x ∷ []) page ≡ Some p → (known_in list page ≡ Some p) ⊎ ((x.page ≡ page) × (place_of x ≡ p))
known_or [] x page p h = elim (cases_eq x.page page) [
  | inl here ↦ inr (here, same_Some (place_of x) p (grind (arith, h, here)))
  | inr ne ↦ absurd (grind (arith, h, ne))
]
known_or (k ∷ list) x page p h = by_test (k.page == page) h (known_or list x page p)
  where
    by_test : (t : Bool) → option_map place_of (if t then Some k else find (λ j. j.page == page) (list ++ x ∷ [])) ≡ Some p →
        (known_in (list ++ x ∷ []) page ≡ Some p → (known_in list page ≡ Some p) ⊎ ((x.page ≡ page) × (place_of x ≡ p))) →
        (option_map place_of (if t then Some k else find (λ j. j.page == page) list) ≡ Some p) ⊎ ((x.page ≡ page) × (place_of x ≡ p))
    by_test true g rest = inl g
    by_test false g rest = rest g

-- COPIES

pub some_of : (o : Option (List ℕ)) → IsSome o → (b : List ℕ) × (o ≡ Some b)
some_of (Some b) h = (b, refl)
some_of None h = absurd (cc)

pub copy_still : (pages : List Page) (x : Page) (f : ℕ) (b : List ℕ) → copy_at pages f ≡ Some b → copy_at (pages ++ x ∷ []) f ≡ Some b
copy_still [] x f b h = absurd (cc)
copy_still (p ∷ pages) x f b h = elim (cases_eq p.frame f) [
  | inl here ↦ grind (arith, h, here)
  | inr ne ↦ grind (arith, ne, h, copy_still pages x f b)
]

pub copy_new : (pages : List Page) (x : Page) → copy_at pages x.frame ≡ None → copy_at (pages ++ x ∷ []) x.frame ≡ Some x.bytes
copy_new [] x h = grind arith
copy_new (p ∷ pages) x h = elim (cases_eq p.frame x.frame) [
  | inl here ↦ absurd (grind (arith, h, here))
  | inr ne ↦ grind (arith, ne, h, copy_new pages x)
]

pub copy_or : (pages : List Page) (x : Page) (f : ℕ) (b : List ℕ) → copy_at (pages ++ x ∷ []) f ≡ Some b → (copy_at pages f ≡ Some b) ⊎ ((x.frame ≡ f) × (x.bytes ≡ b))
copy_or [] x f b h = elim (cases_eq x.frame f) [
  | inl here ↦ inr (here, same_Some x.bytes b (grind (arith, h, here)))
  | inr ne ↦ absurd (grind (arith, h, ne))
]
copy_or (p ∷ pages) x f b h = elim (cases_eq p.frame f) [
  | inl here ↦ inl (grind (arith, h, here))
  | inr ne ↦ elsewhere (copy_or pages x f b (grind (arith, h, ne)))
]
  where
    elsewhere : (copy_at pages f ≡ Some b) ⊎ ((x.frame ≡ f) × (x.bytes ≡ b)) → (copy_at (p ∷ pages) f ≡ Some b) ⊎ ((x.frame ≡ f) × (x.bytes ≡ b))
    elsewhere (inl there) = inl (grind (arith, there, h))
    elsewhere (inr last) = inr last

none_still : (pages : List Page) (x : Page) (f : ℕ) → x.frame ≢ f → copy_at pages f ≡ None → copy_at (pages ++ x ∷ []) f ≡ None
none_still [] x f ne h = grind (arith, ne)
none_still (p ∷ pages) x f ne h = elim (cases_eq p.frame f) [
  | inl here ↦ absurd (grind (arith, h, here))
  | inr other ↦ grind (arith, other, ne, h, none_still pages x f ne)
]

pub once_more : (pages : List Page) (x : Page) → AreOnce pages → copy_at pages x.frame ≡ None → AreOnce (pages ++ x ∷ [])
once_more [] x once none = (refl, tt)
once_more (p ∷ pages) x once none = elim (cases_eq p.frame x.frame) [
  | inl here ↦ absurd (grind (arith, none, here))
  | inr ne ↦ (none_still pages x p.frame (λ same. ne (sym same)) once.0, once_more pages x once.1 (grind (arith, ne, none)))
]

none_stored : (pages : List Page) (x : Page) → AllByRecursion (λ (p : Page). p.stores ≡ 0) pages → x.stores ≡ 0 → AllByRecursion (λ (p : Page). p.stores ≡ 0) (pages ++ x ∷ [])
none_stored [] x all h = (h, tt)
none_stored (p ∷ pages) x all h = (all.0, none_stored pages x all.1 h)

pub fresh_more : (ram : List (List ℕ)) (pages : List Page) (x : Page) → AreFresh ram pages → copy_at pages x.frame ≡ None → slice_get ram x.frame ≡ Some x.bytes → x.stores ≡ 0 →
    AreFresh ram (pages ++ x ∷ [])
fresh_more ram pages x are none at stores = record {
  once = once_more pages x are.once none;
  bytes = λ f b copy. by_case f b (copy_or pages x f b copy);
  stores = none_stored pages x are.stores stores;
}
  where
    by_case : (f : ℕ) (b : List ℕ) → (copy_at pages f ≡ Some b) ⊎ ((x.frame ≡ f) × (x.bytes ≡ b)) → slice_get ram f ≡ Some b
    by_case f b (inl copy) = are.bytes f b copy
    by_case f b (inr last) = ap (slice_get ram) (sym last.0) ∙ (at ∙ ap Some last.1)
