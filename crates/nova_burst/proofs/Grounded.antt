-- What was read on copies, and stays through a store elsewhere.
use Rattle.std.proofs.Common.{inl, inr, ◌≡◌, ◌≢◌, ◌⊎◌, ◌≤◌, ℕ, zero, suc, ◌+◌, ◌/◌, ◌%◌, List, [], ◌∷◌, length, replicate, ap, sym, ◌∙◌, subst, refl, arith}
use Rattle.std.specs.Prelude.{Bool, true, false, ◌==◌, Option, Some, None, option_and_then, option_map, slice_get, slice_set, if◌then◌else◌}
use Rattle.std.specs.List.{All}
use Rattle.std.proofs.lemmas.Bool.{cases_eq}
use Rattle.std.proofs.lemmas.List.Elements.{All-head, All-tail}
use Rattle.std.proofs.lemmas.Option.{same_Some}
use Rattle.byteorder.specs.Endian.{little_bytes}
use Rattle.byteorder.specs.Numbers.{length-bytes_low_first}
use Rattle.rv_model.specs.Codes.{instr_of}
use Rattle.rv_model.specs.Registers.{Registers}
use Rattle.rv_model.specs.Step.{Space, Raised, decoded, fetched as step_fetched, misaligned, one}
use Rattle.nova_guest.specs.Conditions.{IsStore}
use Rattle.nova_guest.specs.Frames.{frame_from, read_in, replaced}
use Rattle.nova_guest.specs.declared.page.Page.{Page as Place}
use Rattle.nova_range.specs.Rights.{execute_right}
use Rattle.law_leases.proofs.Leased.{copy_stored}
use Rattle.law_leases.specs.Leases.{copied_space, copy_at, lease_by, lease_step, read_copy, stored_in_pages}
use Rattle.law_leases.specs.declared.steps.Page.{Page}
use Rattle.nova_frames.proofs.Replaced.{little_number-replaced_other}
use Rattle.nova_memory.proofs.Remembered.{apart_of, set_or}
use Rattle.nova_burst.specs.Copies.{CopiesState, fetched, known_in, lease_of}
use Rattle.nova_burst.specs.Grounds.{AreLeft, AreRead, IsRead, IsUnread}
use Rattle.nova_burst.specs.declared.run.Slot.{Slot}
use Rattle.nova_burst.proofs.Places.{whole_kept}

-- WHAT IS REMEMBERED

-- a reading is put at its place
pub learned : (s : CopiesState) (slots : List Slot) (n : ℕ) (v : Slot) → AreRead s slots → (v.address / 4 % 256 ≡ n → IsRead s v) → AreRead s (slice_set slots n v)
learned s slots n v are read = record {
  whole = are.whole;
  each = λ i x at place. elim (set_or slots n v i x at) [
    | inl here ↦ subst (λ (y : Slot). IsRead s y) here.1 (read (ap (λ (y : Slot). y.address / 4 % 256) here.1 ∙ (place ∙ here.0)))
    | inr other ↦ are.each i x other place
  ];
}

-- a reading is forgotten
pub forgotten : (slots : List Slot) (n frame : ℕ) (v : Slot) → v.address / 4 % 256 ≢ n → AreLeft slots (slice_set slots n v) frame n
forgotten slots n frame v gone i x at place = elim (set_or slots n v i x at) [
  | inl here ↦ absurd (gone (ap (λ (y : Slot). y.address / 4 % 256) here.1 ∙ (place ∙ here.0)))
  | inr other ↦ (other, λ e. λ _. gone (ap (λ (y : Slot). y.address / 4 % 256) (there_is slots n v i x e at other) ∙ (place ∙ e)))
]
  where
    there_is : (xs : List Slot) (n : ℕ) (v : Slot) (i : ℕ) (x : Slot) → i ≡ n → slice_get (slice_set xs n v) i ≡ Some x → slice_get xs i ≡ Some x → v ≡ x
    there_is [] n v i x e at h = absurd (cc)
    there_is (y ∷ xs) zero v zero x e at h = same_Some v x at
    there_is (y ∷ xs) zero v (suc i) x e at h = absurd (omega (arith, e))
    there_is (y ∷ xs) (suc n) v zero x e at h = absurd (omega (arith, e))
    there_is (y ∷ xs) (suc n) v (suc i) x e at h = there_is xs n v i x (omega (arith, e)) at h

pub left_as_is : (slots : List Slot) (n frame : ℕ) (y : Slot) → slice_get slots n ≡ Some y → y.frame ≢ frame → AreLeft slots slots frame n
left_as_is slots n frame y at ne i x h place = (h, λ e. λ same. ne (ap (λ (z : Slot). z.frame) (same_Some y x (sym at ∙ (ap (slice_get slots) (sym e) ∙ h))) ∙ same))

-- none stands at its place
pub none_placed : (n : ℕ) (x v : Slot) → x.address / 4 % 256 ≡ 0 → v.address / 4 % 256 ≡ 1 →
    (i : ℕ) (y : Slot) → slice_get (slice_set (replicate n x) 0 v) i ≡ Some y → y.address / 4 % 256 ≢ i
none_placed n x v zeroth first i y at place = elim (set_or (replicate n x) 0 v i y at) [
  | inl here ↦ (let e = ap (λ (z : Slot). z.address / 4 % 256) here.1 in let z = here.0 in omega (arith, e, z, first, place))
  | inr other ↦ (let e = ap (λ (z : Slot). z.address / 4 % 256) (each_is n i y other) in at_zero (sym place ∙ (sym e ∙ zeroth)))
]
  where
    each_is : (n i : ℕ) (y : Slot) → slice_get (replicate n x) i ≡ Some y → x ≡ y
    each_is zero i y at = absurd (cc)
    each_is (suc n) zero y at = same_Some x y at
    each_is (suc n) (suc i) y at = each_is n i y at

    at_first : (n : ℕ) → slice_get (slice_set (replicate n x) 0 v) 0 ≡ Some y → v ≡ y
    at_first zero at = absurd (cc)
    at_first (suc n) at = same_Some v y at

    at_zero : i ≡ 0 → ⊥
    at_zero z = let e = ap (λ (u : Slot). u.address / 4 % 256) (at_first n (ap (slice_get (slice_set (replicate n x) 0 v)) (sym z) ∙ at)) in omega (arith, e, z, first, place)

-- A STORE ELSEWHERE

ends_within : (b w : ℕ) → IsStore b w → b + w ≤ 4096
ends_within b w place = elim place.size [
  | inl one_byte ↦ (let h = place.within in omega (arith, one_byte, h))
  | inr more ↦ elim more [
    | inl two ↦ (let h = place.within in let g : b % 2 ≡ 0 = ap (λ (n : ℕ). b % n) (sym two) ∙ place.aligned in omega (arith, two, h, g))
    | inr four ↦ (let h = place.within in let g : b % 4 ≡ 0 = ap (λ (n : ℕ). b % n) (sym four) ∙ place.aligned in omega (arith, four, h, g))
  ]
]

-- a store that may be made lies within its page
pub is_store : (a w : ℕ) → (w ≡ 1) ⊎ ((w ≡ 2) ⊎ (w ≡ 4)) → a % w ≡ 0 → IsStore (a % 4096) w
is_store a w size aligned = record {
  size = size;
  within = omega arith;
  aligned = elim size [
    | inl one_byte ↦ subst (λ (n : ℕ). a % 4096 % n ≡ 0) (sym one_byte) (omega arith)
    | inr more ↦ elim more [
      | inl two ↦ (let g : a % 2 ≡ 0 = ap (λ (n : ℕ). a % n) (sym two) ∙ aligned in subst (λ (n : ℕ). a % 4096 % n ≡ 0) (sym two) (omega (arith, g)))
      | inr four ↦ (let g : a % 4 ≡ 0 = ap (λ (n : ℕ). a % n) (sym four) ∙ aligned in subst (λ (n : ℕ). a % 4096 % n ≡ 0) (sym four) (omega (arith, g)))
    ]
  ];
}

place_in_page : (n : ℕ) → n % 4096 / 4 % 256 ≡ n / 4 % 256
place_in_page n = omega arith

apart_by_place : (x y w : ℕ) → x % 4 ≡ 0 → IsStore (y % 4096) w → x / 4 % 256 ≢ y / 4 % 256 → (x % 4096 + 4 ≤ y % 4096) ⊎ (y % 4096 + w ≤ x % 4096)
apart_by_place x y w h place ne = apart_of (x % 4096) (y % 4096) w (omega (arith, h)) place.size place.aligned
    (λ e. ne (sym (place_in_page x) ∙ (ap (λ (n : ℕ). n % 256) e ∙ place_in_page y)))

word_apart : (bytes : List ℕ) (o w v a : ℕ) → IsStore o w → length bytes ≡ 4096 → (a + 4 ≤ o) ⊎ (o + w ≤ a) →
    read_in (Some (replaced bytes o (little_bytes w v))) a 4 ≡ read_in (Some bytes) a 4
word_apart bytes o w v a place whole apart =
    let count : length (little_bytes w v) ≡ w = length-bytes_low_first 0 w v in
    let ends = ends_within o w place in
    little_number-replaced_other bytes (little_bytes w v) o a 4 (omega (arith, count, ends, whole)) (elim apart [ inl before ↦ inl before | inr after ↦ inr (omega (arith, count, after)) ])

whole_at : (pages : List Page) (f : ℕ) (b : List ℕ) → All (λ (p : Page). length p.bytes ≡ 4096) pages → copy_at pages f ≡ Some b → length b ≡ 4096
whole_at [] f b all at = absurd (cc)
whole_at (p ∷ pages) f b all at = elim (cases_eq p.frame f) [
  | inl here ↦ (let first : length p.bytes ≡ 4096 = All-head (λ (p : Page). length p.bytes ≡ 4096) p pages all in
      ap length (sym (same_Some p.bytes b (grind (arith, at, here)))) ∙ first)
  | inr ne ↦ whole_at pages f b (All-tail (λ (p : Page). length p.bytes ≡ 4096) p pages all) (grind (arith, at, ne))
]

-- what is read in a frame after a store that lies elsewhere
still_in : (pages : List Page) (f o w v g a : ℕ) → All (λ (p : Page). length p.bytes ≡ 4096) pages → IsStore o w → (g ≡ f → (a + 4 ≤ o) ⊎ (o + w ≤ a)) →
    option_map (λ (bytes : List ℕ). read_in (Some bytes) a 4) (copy_at (stored_in_pages pages f o w v) g) ≡ option_map (λ (bytes : List ℕ). read_in (Some bytes) a 4) (copy_at pages g)
still_in pages f o w v g a all place apart = elim (cases_eq g f) [
  | inl here ↦ ap (option_map (λ (bytes : List ℕ). read_in (Some bytes) a 4)) (copy_stored pages f o w v g) ∙ same_frame (g == f) (copy_at pages g) (λ b at. word_apart b o w v a place (whole_at pages g b all at) (apart here))
  | inr ne ↦ ap (option_map (λ (bytes : List ℕ). read_in (Some bytes) a 4)) (copy_stored pages f o w v g ∙ grind (arith, ne))
]
  where
    same_frame : (t : Bool) (x : Option (List ℕ)) → ((b : List ℕ) → x ≡ Some b → read_in (Some (replaced b o (little_bytes w v))) a 4 ≡ read_in (Some b) a 4) →
        option_map (λ (bytes : List ℕ). read_in (Some bytes) a 4) (if t then option_map (λ (d : List ℕ). replaced d o (little_bytes w v)) x else x)
        ≡ option_map (λ (bytes : List ℕ). read_in (Some bytes) a 4) x
    same_frame false x h = refl
    same_frame true None h = refl
    same_frame true (Some b) h = ap Some (h b refl)

fetched_in : (s : CopiesState) (address frame : ℕ) → frame_from (known_in s.known) execute_right address ≡ Some frame →
    fetched s address ≡ option_map (λ (bytes : List ℕ). read_in (Some bytes) (address % 4096) 4) (copy_at s.pages frame)
fetched_in s address frame leads = ap (read_copy s.pages (address % 4096) 4) leads

-- what was read elsewhere is still there after a store
still_read : (s : CopiesState) (f address w v : ℕ) (x : Slot) → All (λ (p : Page). length p.bytes ≡ 4096) s.pages → IsStore (address % 4096) w →
    (x.frame ≡ f → x.address / 4 % 256 ≢ address / 4 % 256) → IsRead s x → IsRead (record s { pages = stored_in_pages s.pages f (address % 4096) w v }) x
still_read s f address w v x all place apart read = record {
  at = record {
    aligned = read.at.aligned;
    there = fetched_in (record s { pages = stored_in_pages s.pages f (address % 4096) w v }) x.address x.frame read.leads
        ∙ (still_in s.pages f (address % 4096) w v x.frame (x.address % 4096) all place (λ same. apart_by_place x.address address w read.at.aligned place (apart same))
        ∙ (sym (fetched_in s x.address x.frame read.leads) ∙ read.at.there));
  };
  leads = read.leads;
}

pub stored : (s : CopiesState) (slots left : List Slot) (f address w v : ℕ) → AreRead s slots → IsStore (address % 4096) w → AreLeft slots left f (address / 4 % 256) →
    AreRead (record s { pages = stored_in_pages s.pages f (address % 4096) w v }) left
stored s slots left f address w v are place kept = record {
  whole = whole_kept s.pages f (address % 4096) w v place are.whole;
  each = λ i x at its.
      let was = kept i x at its in
      still_read s f address w v x are.whole place (λ same e. was.1 (sym its ∙ e) same) (are.each i x was.0 its);
}

-- A STOP

by_fetch : (known : ℕ → Option Place) (pages : List Page) (r : Registers) (a : Space) (t : Bool) (f : Option ℕ) → option_and_then instr_of f ≡ None →
    lease_by known pages (if t then step_fetched r a f else Raised misaligned r.pc 0) ≡ None
by_fetch known pages r a false f h = refl
by_fetch known pages r a true None h = refl
by_fetch known pages r a true (Some w) h = ap (λ o. lease_by known pages (decoded r a w o)) h

-- where nothing is read, no instruction goes on
pub stops_unread : (s : CopiesState) (r : Registers) → IsUnread s r.pc → lease_step (known_in s.known) (lease_of r s) ≡ None
unfolding one
stops_unread s r (inl ne) = grind (arith, ne)
stops_unread s r (inr none) = by_fetch (known_in s.known) s.pages r (copied_space (known_in s.known) s.pages) (r.pc % 4 == 0) (fetched s r.pc) none
