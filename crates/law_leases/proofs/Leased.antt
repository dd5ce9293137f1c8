-- A lease that steps n times is the guest on n inputs of its own.
use Rattle.std.proofs.Common.{◌≡◌, ℕ, ◌+◌, ◌/◌, ◌%◌, ◌≢◌, inl, inr, List, [], ◌∷◌, ap, ap₂, sym, ◌∙◌, refl, arith}
use Rattle.std.specs.Prelude.{Bool, true, false, ◌==◌, Option, Some, None, IsSome, is_some, option_map, option_and_then, if◌then◌else◌}
use Rattle.std.proofs.lemmas.Bool.{cases_eq}
use Rattle.byteorder.specs.Endian.{little_bytes}
use Rattle.nova_range.specs.Rights.{read_right, write_right, execute_right}
use Rattle.nova_guest.specs.Alone.{guest_space}
use Rattle.nova_guest.specs.Cells.{cell_at, stored_in, stored_in_cell}
use Rattle.nova_guest.specs.Frames.{frame_from, frame_with, read_in, replaced}
use Rattle.nova_guest.specs.Maps.{page_in}
use Rattle.nova_guest.specs.declared.cell.Cell.{Cell}
use Rattle.nova_guest.specs.declared.guest.Guest.{Guest}
use Rattle.nova_guest.specs.declared.page.Page.{Page as Place}
use Rattle.law_leases.specs.Leases.{IsOfGuest, cell_of, cells_in, copied_space, copy_at, overlaid, overlay, read_copy, stored_in_page, stored_in_pages}
use Rattle.law_leases.specs.declared.steps.Page.{Page}
use Rattle.law_leases.proofs.Refined.{IsPart}

-- what the guest finds with copies laid over its cells
overlaid_found : (pages : List Page) (cells : List Cell) (f : ℕ) (b : List ℕ) → copy_at pages f ≡ Some b → IsSome (cell_at cells f) → cell_at (overlay pages cells) f ≡ Some b
overlaid_found pages [] f b h there = absurd (cc)
overlaid_found pages (c ∷ cells) f b h there = elim (cases_eq c.frame f) [
  | inl here ↦ by_copy (copy_at pages c.frame) (ap (copy_at pages) here ∙ h) here
  | inr ne ↦ by_other (copy_at pages c.frame) ne (overlaid_found pages cells f b h (grind (arith, there)))
]
  where
    by_copy : (x : Option (List ℕ)) → x ≡ Some b → c.frame ≡ f → cell_at (overlaid c x ∷ overlay pages cells) f ≡ Some b
    by_copy None is here = absurd (cc)
    by_copy (Some d) is here = grind arith

    by_other : (x : Option (List ℕ)) → c.frame ≢ f → cell_at (overlay pages cells) f ≡ Some b → cell_at (overlaid c x ∷ overlay pages cells) f ≡ Some b
    by_other None ne rest = grind (arith)
    by_other (Some d) ne rest = grind (arith)

pub some_is : (o : Option (List ℕ)) (b : List ℕ) → o ≡ Some b → IsSome o
some_is o b h = rw h refl

pub cell_overlaid : (known : ℕ → Option Place) (v : Guest) (pages : List Page) (f : ℕ) (b : List ℕ) → IsOfGuest known pages v → copy_at pages f ≡ Some b →
    cell_at (overlay pages v.cells) f ≡ Some b
cell_overlaid known v pages f b are h = overlaid_found pages v.cells f b h (are.copies f (some_is (copy_at pages f) b h))

-- a store to a copied frame, as cells have it
cell_again : (f o w v : ℕ) (p : Page) → cell_of (stored_in_page f o w v p) ≡ stored_in_cell f o w v (cell_of p)
cell_again f o w v p = by_test (p.frame == f)
  where
    by_test : (t : Bool) → cell_of (if t then record p { bytes = replaced p.bytes o (little_bytes w v); stores = p.stores + 1 } else p)
        ≡ (if t then record (cell_of p) { contents = replaced p.bytes o (little_bytes w v) } else cell_of p)
    by_test true = refl
    by_test false = refl

pub cells_again : (pages : List Page) (f o w v : ℕ) → cells_in (stored_in_pages pages f o w v) ≡ stored_in (cells_in pages) f o w v
cells_again [] f o w v = refl
cells_again (p ∷ pages) f o w v = ap₂ (λ (c : Cell) (cs : List Cell). c ∷ cs) (cell_again f o w v p) (cells_again pages f o w v)

pub cell_stored : (cells : List Cell) (f o w v g : ℕ) → cell_at (stored_in cells f o w v) g ≡ (if g == f then option_map (λ (d : List ℕ). replaced d o (little_bytes w v)) (cell_at cells g) else cell_at cells g)
cell_stored [] f o w v g = grind arith
cell_stored (c ∷ cells) f o w v g = grind (arith, cell_stored cells f o w v g)

pub copy_stored : (pages : List Page) (f o w v g : ℕ) → copy_at (stored_in_pages pages f o w v) g ≡ (if g == f then option_map (λ (d : List ℕ). replaced d o (little_bytes w v)) (copy_at pages g) else copy_at pages g)
copy_stored pages f o w v g = ap (λ (cells : List Cell). cell_at cells g) (cells_again pages f o w v) ∙ cell_stored (cells_in pages) f o w v g

pub stored_overlaid : (pages : List Page) (cells : List Cell) (f o w v : ℕ) (b : List ℕ) → copy_at pages f ≡ Some b → stored_in (overlay pages cells) f o w v ≡ overlay (stored_in_pages pages f o w v) cells
stored_overlaid pages [] f o w v b h = refl
stored_overlaid pages (c ∷ cells) f o w v b h = ap₂ (λ (d : Cell) (ds : List Cell). d ∷ ds) head (stored_overlaid pages cells f o w v b h)
  where
    by_test : (x : Option (List ℕ)) (t : Bool) → c.frame == f ≡ t → (t ≡ true → x ≡ Some b) →
        stored_in_cell f o w v (overlaid c x) ≡ overlaid c (if t then option_map (λ (d : List ℕ). replaced d o (little_bytes w v)) x else x)
    by_test (Some d) true is there = rw is refl
    by_test (Some d) false is there = rw is refl
    by_test None true is there = let e = there refl in absurd (cc)
    by_test None false is there = rw is refl

    head : stored_in_cell f o w v (overlaid c (copy_at pages c.frame)) ≡ overlaid c (copy_at (stored_in_pages pages f o w v) c.frame)
    head = by_test (copy_at pages c.frame) (c.frame == f) refl (λ t. ap (copy_at pages) (grind (arith, t)) ∙ h) ∙ ap (overlaid c) (sym (copy_stored pages f o w v c.frame))

-- what is known is the guest's
place_found : (right : ℕ) (p : Option Place) (q : Option Place) (f : ℕ) → ((x : Place) → p ≡ Some x → q ≡ Some x) → option_and_then (frame_with right) p ≡ Some f →
    option_and_then (frame_with right) q ≡ Some f
place_found right None q f same h = absurd (cc)
place_found right (Some x) q f same h = ap (option_and_then (frame_with right)) (same x refl) ∙ h

pub frame_known : (known : ℕ → Option Place) (v : Guest) (pages : List Page) (right address f : ℕ) → IsOfGuest known pages v → frame_from known right address ≡ Some f →
    frame_from (page_in v.maps) right address ≡ Some f
frame_known known v pages right address f are h = place_found right (known (address / 4096)) (page_in v.maps (address / 4096)) f (λ p e. are.places (address / 4096) p e) h

-- the copies are a part of the guest's address space
read_part : (known : ℕ → Option Place) (v : Guest) (pages : List Page) (offset width n : ℕ) → IsOfGuest known pages v → (o : Option ℕ) (q : Option ℕ) →
    ((f : ℕ) → o ≡ Some f → q ≡ Some f) → read_copy pages offset width o ≡ Some n →
    option_map (λ (frame : ℕ). read_in (cell_at (overlay pages v.cells) frame) offset width) q ≡ Some n
read_part known v pages offset width n are None q same h = absurd (cc)
read_part known v pages offset width n are (Some f) q same h =
    ap (option_map (λ (frame : ℕ). read_in (cell_at (overlay pages v.cells) frame) offset width)) (same f refl) ∙ by_copy (copy_at pages f) refl h
  where
    by_copy : (c : Option (List ℕ)) → copy_at pages f ≡ c → option_map (λ (bytes : List ℕ). read_in (Some bytes) offset width) c ≡ Some n →
        Some (read_in (cell_at (overlay pages v.cells) f) offset width) ≡ Some n
    by_copy None is g = absurd (cc)
    by_copy (Some b) is g = rw (cell_overlaid known v pages f b are is) g

takes_part : (pages : List Page) (o q : Option ℕ) → ((f : ℕ) → o ≡ Some f → q ≡ Some f) → is_some (option_and_then (copy_at pages) o) ≡ true → is_some q ≡ true
takes_part pages None q same h = absurd (cc)
takes_part pages (Some f) q same h = ap is_some (same f refl)

pub part_over : (known : ℕ → Option Place) (v : Guest) (pages : List Page) → IsOfGuest known pages v → IsPart (copied_space known pages) (guest_space v.maps (overlay pages v.cells))
part_over known v pages are = record {
  fetch = λ address word h. read_part known v pages (address % 4096) 4 word are (frame_from known execute_right address) (frame_from (page_in v.maps) execute_right address)
      (λ f e. frame_known known v pages execute_right address f are e) h;
  load = λ address width number h. read_part known v pages (address % 4096) width number are (frame_from known read_right address) (frame_from (page_in v.maps) read_right address)
      (λ f e. frame_known known v pages read_right address f are e) h;
  takes = λ address width h. takes_part pages (frame_from known write_right address) (frame_from (page_in v.maps) write_right address)
      (λ f e. frame_known known v pages write_right address f are e) h;
}
