-- Copies at their places, each of a frame of its own.
use Rattle.std.proofs.Common.{inl, inr, ◌≡◌, ◌<◌, ℕ, zero, suc, ◌+◌, ◌/◌, ◌++◌, List, [], ◌∷◌, length, ap, ap₂, sym, ◌∙◌, subst, refl, arith}
use Rattle.std.specs.Prelude.{Bool, true, false, ◌==◌, Option, Some, None, IsSome, is_some, option_map, option_and_then, slice_get, slice_index_or, slice_set, if◌then◌else◌}
use Rattle.std.specs.List.{All}
use Rattle.std.proofs.lemmas.List.Elements.{All-cons, All-head, All-nil, All-tail}
use Rattle.std.proofs.lemmas.Bool.{cases_eq}
use Rattle.std.proofs.lemmas.Option.{same_Some}
use Rattle.byteorder.specs.Endian.{little_bytes}
use Rattle.nova_guest.specs.Conditions.{IsStore}
use Rattle.nova_guest.specs.Frames.{frame_from, frame_with, read_in, replaced}
use Rattle.nova_guest.specs.declared.page.Page.{Page as Place}
use Rattle.law_leases.specs.Leases.{copy_at, read_copy, stored_in_page, stored_in_pages}
use Rattle.law_leases.specs.Paging.{AreOnce}
use Rattle.law_leases.specs.declared.steps.Page.{Page}
use Rattle.nova_burst.specs.Copies.{IsCopyFor, IsRecent, known_in}
use Rattle.nova_burst.specs.declared.copies.Known.{Known}
use Rattle.nova_burst.proofs.Kept.{page_whole}
use Rattle.nova_burst.proofs.Lists.{known_still}

-- WHAT STANDS AT A PLACE

-- there is a copy of the frame of whatever stands at a place
there : (pages : List Page) (i : ℕ) (p : Page) → slice_get pages i ≡ Some p → IsSome (copy_at pages p.frame)
there [] i p at = absurd (cc)
there (q ∷ pages) zero p at = let same : q ≡ p = same_Some q p at in subst (λ (x : Page). IsSome (copy_at (q ∷ pages) x.frame)) same (grind arith)
there (q ∷ pages) (suc i) p at = grind (arith, there pages i p at)

pub once_at : (pages : List Page) (i : ℕ) (p : Page) → AreOnce pages → slice_get pages i ≡ Some p → copy_at pages p.frame ≡ Some p.bytes
once_at [] i p once at = absurd (cc)
once_at (q ∷ pages) zero p once at =
    let same : q ≡ p = same_Some q p at in subst (λ (x : Page). copy_at (q ∷ pages) x.frame ≡ Some x.bytes) same (grind arith)
once_at (q ∷ pages) (suc i) p once at = elim (cases_eq q.frame p.frame) [
  | inl here ↦ absurd (let some : IsSome (copy_at pages p.frame) = there pages i p at in
      let none : copy_at pages p.frame ≡ None = ap (copy_at pages) (sym here) ∙ once.0 in cc)
  | inr ne ↦ grind (arith, ne, once_at pages i p once.1 at)
]

pub within : (pages : List Page) (i : ℕ) (p : Page) → slice_get pages i ≡ Some p → i < length pages
within [] i p at = absurd (cc)
within (q ∷ pages) zero p at = omega arith
within (q ∷ pages) (suc i) p at = let h = within pages i p at in omega arith

-- what is read there
pub read_there : (known : ℕ → Option Place) (pages : List Page) (right address offset width i : ℕ) → AreOnce pages → (its : IsCopyFor known pages right (address / 4096) i) →
    read_copy pages offset width (frame_from known right address) ≡ Some (read_in (Some its.its.bytes) offset width)
read_there known pages right address offset width i once its =
    ap (read_copy pages offset width) its.leads ∙ ap (option_map (λ bytes. read_in (Some bytes) offset width)) (once_at pages i its.its once its.at)

pub taken_there : (known : ℕ → Option Place) (pages : List Page) (right address i : ℕ) → AreOnce pages → (its : IsCopyFor known pages right (address / 4096) i) →
    is_some (option_and_then (copy_at pages) (frame_from known right address)) ≡ true
taken_there known pages right address i once its = ap (λ (o : Option ℕ). is_some (option_and_then (copy_at pages) o)) its.leads ∙ ap is_some (once_at pages i its.its once its.at)

pub none_read : (known : ℕ → Option Place) (pages : List Page) (right address offset width : ℕ) → option_and_then (copy_at pages) (frame_from known right address) ≡ None →
    read_copy pages offset width (frame_from known right address) ≡ None
none_read known pages right address offset width h = by_frame (frame_from known right address) h
  where
    by_copy : (o : Option (List ℕ)) → o ≡ None → option_map (λ bytes. read_in (Some bytes) offset width) o ≡ None
    by_copy None g = refl
    by_copy (Some b) g = absurd (cc)

    by_frame : (o : Option ℕ) → option_and_then (copy_at pages) o ≡ None → read_copy pages offset width o ≡ None
    by_frame None g = refl
    by_frame (Some f) g = by_copy (copy_at pages f) g

-- WHAT STAYS

pub page_later : (known : ℕ → Option Place) (pages : List Page) (x : Page) (right page copy : ℕ) → IsRecent known pages right page copy → IsRecent known (pages ++ x ∷ []) right page copy
page_later known pages x right page copy is below =
    let its : IsCopyFor known pages right page copy = is below in record { its = its.its; at = still pages copy its.its its.at; leads = its.leads }
  where
    still : (pages : List Page) (i : ℕ) (p : Page) → slice_get pages i ≡ Some p → slice_get (pages ++ x ∷ []) i ≡ Some p
    still [] i p at = absurd (cc)
    still (q ∷ pages) zero p at = at
    still (q ∷ pages) (suc i) p at = still pages i p at

right_of : (right frame : ℕ) (o : Option Place) → option_and_then (frame_with right) o ≡ Some frame → (p : Place) × (o ≡ Some p)
right_of right frame (Some p) h = (p, refl)
right_of right frame None h = absurd (cc)

pub known_later : (list : List Known) (pages : List Page) (x : Known) (right page copy : ℕ) → IsRecent (known_in list) pages right page copy →
    IsRecent (known_in (list ++ x ∷ [])) pages right page copy
known_later list pages x right page copy is below =
    let its : IsCopyFor (known_in list) pages right page copy = is below in
    let known = right_of right its.its.frame (known_in list page) its.leads in
    record {
      its = its.its;
      at = its.at;
      leads = ap (option_and_then (frame_with right)) (known_still list x page known.0 known.1 ∙ sym known.1) ∙ its.leads;
    }

frame_kept : (f o w v : ℕ) (p : Page) → (stored_in_page f o w v p).frame ≡ p.frame
frame_kept f o w v p = by_test (p.frame == f)
  where
    by_test : (t : Bool) → (if t then record p { bytes = replaced p.bytes o (little_bytes w v); stores = p.stores + 1 } else p).frame ≡ p.frame
    by_test true = refl
    by_test false = refl

stored_at : (pages : List Page) (f o w v i : ℕ) (p : Page) → slice_get pages i ≡ Some p → slice_get (stored_in_pages pages f o w v) i ≡ Some (stored_in_page f o w v p)
stored_at [] f o w v i p at = absurd (cc)
stored_at (q ∷ pages) f o w v zero p at = ap (λ (x : Page). Some (stored_in_page f o w v x)) (same_Some q p at)
stored_at (q ∷ pages) f o w v (suc i) p at = stored_at pages f o w v i p at

pub store_later : (known : ℕ → Option Place) (pages : List Page) (f o w v right page copy : ℕ) → IsRecent known pages right page copy →
    IsRecent known (stored_in_pages pages f o w v) right page copy
store_later known pages f o w v right page copy is below =
    let its : IsCopyFor known pages right page copy = is below in record {
      its = stored_in_page f o w v its.its;
      at = stored_at pages f o w v copy its.its its.at;
      leads = its.leads ∙ ap Some (sym (frame_kept f o w v its.its));
    }

none_kept : (pages : List Page) (f o w v g : ℕ) → copy_at pages g ≡ None → copy_at (stored_in_pages pages f o w v) g ≡ None
none_kept [] f o w v g h = refl
none_kept (p ∷ pages) f o w v g h = elim (cases_eq p.frame g) [
  | inl here ↦ absurd (grind (arith, h, here))
  | inr ne ↦ (let kept = frame_kept f o w v p in grind (arith, ne, h, kept, none_kept pages f o w v g))
]

pub once_kept : (pages : List Page) (f o w v : ℕ) → AreOnce pages → AreOnce (stored_in_pages pages f o w v)
once_kept [] f o w v once = tt
once_kept (p ∷ pages) f o w v once = (
  ap (copy_at (stored_in_pages pages f o w v)) (frame_kept f o w v p) ∙ none_kept pages f o w v p.frame once.0,
  once_kept pages f o w v once.1,
)

-- A STORE AT ITS PLACE

untouched : (pages : List Page) (f o w v : ℕ) → copy_at pages f ≡ None → pages ≡ stored_in_pages pages f o w v
untouched [] f o w v h = refl
untouched (p ∷ pages) f o w v h = elim (cases_eq p.frame f) [
  | inl here ↦ absurd (grind (arith, h, here))
  | inr ne ↦ ap₂ (λ (x : Page) (xs : List Page). x ∷ xs) (grind (arith, ne)) (untouched pages f o w v (grind (arith, h, ne)))
]

pub set_there : (pages : List Page) (f o w v i : ℕ) (p : Page) → AreOnce pages → slice_get pages i ≡ Some p → p.frame ≡ f →
    slice_set pages i (stored_in_page f o w v p) ≡ stored_in_pages pages f o w v
set_there [] f o w v i p once at is = absurd (cc)
set_there (q ∷ pages) f o w v zero p once at is =
    let same : q ≡ p = same_Some q p at in
    ap₂ (λ (x : Page) (xs : List Page). x ∷ xs) (ap (stored_in_page f o w v) (sym same))
    (untouched pages f o w v (ap (copy_at pages) (sym is ∙ ap (λ (x : Page). x.frame) (sym same)) ∙ once.0))
set_there (q ∷ pages) f o w v (suc i) p once at is = elim (cases_eq q.frame f) [
  | inl here ↦ absurd (let some : IsSome (copy_at pages p.frame) = there pages i p at in
      let none : copy_at pages p.frame ≡ None = ap (copy_at pages) (is ∙ sym here) ∙ once.0 in cc)
  | inr ne ↦ ap₂ (λ (x : Page) (xs : List Page). x ∷ xs) (grind (arith, ne)) (set_there pages f o w v i p once.1 at is)
]

-- EACH

abbrev IsWhole : Page → Type 0
IsWhole p = length p.bytes ≡ 4096

pub whole_more : (pages : List Page) (x : Page) → All (λ (p : Page). length p.bytes ≡ 4096) pages → length x.bytes ≡ 4096 → All (λ (p : Page). length p.bytes ≡ 4096) (pages ++ x ∷ [])
whole_more [] x all whole = All-cons IsWhole x [] whole (All-nil IsWhole)
whole_more (p ∷ pages) x all whole = All-cons IsWhole p (pages ++ x ∷ []) (All-head IsWhole p pages all) (whole_more pages x (All-tail IsWhole p pages all) whole)

pub whole_kept : (pages : List Page) (f o w v : ℕ) → IsStore o w → All (λ (p : Page). length p.bytes ≡ 4096) pages → All (λ (p : Page). length p.bytes ≡ 4096) (stored_in_pages pages f o w v)
whole_kept [] f o w v place all = All-nil IsWhole
whole_kept (p ∷ pages) f o w v place all =
    All-cons IsWhole (stored_in_page f o w v p) (stored_in_pages pages f o w v) (page_whole f o w v p place (All-head IsWhole p pages all))
    (whole_kept pages f o w v place (All-tail IsWhole p pages all))

pub get_there : (pages : List Page) (i : ℕ) (d : Page) → i < length pages → slice_get pages i ≡ Some (slice_index_or pages i d)
get_there [] i d below = absurd (omega (arith, below))
get_there (p ∷ pages) zero d below = refl
get_there (p ∷ pages) (suc i) d below = get_there pages i d (omega (arith, below))

pub stored_here : (p : Page) (o w v : ℕ) → record p { bytes = replaced p.bytes o (little_bytes w v); stores = p.stores + 1 } ≡ stored_in_page p.frame o w v p
stored_here p o w v = grind arith
