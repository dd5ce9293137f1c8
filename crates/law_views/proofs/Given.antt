-- A map that is given: what becomes of cells and maps.
use Rattle.std.proofs.Common.{◌≡◌, ◌<◌, ◌≤◌, ℕ, zero, suc, ◌+◌, ◌-◌, ◌*◌, ◌/◌, ◌^◌, List, [], ◌∷◌, length, take, drop, ap, sym, ◌∙◌, subst, refl, inl, inr, arith}
use Rattle.std.specs.Prelude.{Bool, true, false, ◌==◌, nat_lt, Option, Some, None, is_none, if◌then◌else◌}
use Rattle.std.specs.List.{AllByRecursion, list_any}
use Rattle.std.proofs.lemmas.Bool.{cases_lt}
use Rattle.std.proofs.lemmas.Bool.Decides.{nat_tests}
use Rattle.std.proofs.lemmas.List.{drop-drop}
use Rattle.std.proofs.lemmas.List.Elements.{All-cons, All-nil}
use Rattle.std.proofs.lemmas.Nat.{pow_pos}
use Rattle.nova_guest.specs.Admitted.{admits}
use Rattle.nova_guest.specs.Alone.{applied, told, with_map}
use Rattle.nova_guest.specs.Cells.{cell_at, cells_given, frame_of, missing, page_size, pieces}
use Rattle.nova_guest.specs.Conditions.{AreContents}
use Rattle.nova_guest.specs.Keyed.{placed, placed_all}
use Rattle.nova_guest.specs.Maps.{base_of, leads_to, overlaps}
use Rattle.nova_guest.specs.declared.cell.Cell.{Cell}
use Rattle.nova_guest.specs.declared.guest.Guest.{Guest}
use Rattle.nova_guest.specs.declared.map.Map.{Map}
use Rattle.law_isolation.proofs.Exchanges.{cell_beyond as beyond, or_else}
use Rattle.law_isolation.proofs.KeyedLaws.{IsRising, rising_placed_all}
use Rattle.law_views.specs.Given.{AreCellsWith, AreMapsWith, IsElseSame, given}
use Rattle.law_views.proofs.Alike.{rising_from}
use Rattle.law_views.proofs.Seen.{pairs_from}

-- CELLS

-- a cell that comes where its frame has none
put : (f : ℕ) (c : Cell) (cells : List Cell) → cell_at cells c.frame ≡ None →
    cell_at (placed frame_of c cells) f ≡ (if c.frame == f then Some c.contents else cell_at cells f)
put f c [] none = grind arith
put f c (d ∷ cells) none = by_tests (nat_lt c.frame d.frame) (c.frame == d.frame) refl (put f c cells)
  where
    by_tests : (less equal : Bool) → c.frame == d.frame ≡ equal →
        (cell_at cells c.frame ≡ None → cell_at (placed frame_of c cells) f ≡ (if c.frame == f then Some c.contents else cell_at cells f)) →
        cell_at (if less then c ∷ (d ∷ cells) else (if equal then d ∷ cells else d ∷ placed frame_of c cells)) f
        ≡ (if c.frame == f then Some c.contents else cell_at (d ∷ cells) f)
    by_tests true equal is rest = grind arith
    by_tests false true is rest = absurd (grind (arith, is, none))
    by_tests false false is rest = let r = rest (grind (arith, is, none)) in grind (arith, is, r)

-- all that come
come : (f : ℕ) (new cells : List Cell) → IsRising frame_of new →
    cell_at (placed_all frame_of (missing cells new) cells) f ≡ or_else (cell_at cells f) (cell_at new f)
come f [] cells rising = by_cell (cell_at cells f)
  where
    by_cell : (o : Option (List ℕ)) → o ≡ or_else o None
    by_cell (Some b) = refl
    by_cell None = refl
come f (c ∷ new) cells rising = by_cell (cell_at cells c.frame) refl (come f new cells rising.1) (come c.frame new cells rising.1)
  where
    after : List Cell
    after = placed_all frame_of (missing cells new) cells

    by_cell : (o : Option (List ℕ)) → cell_at cells c.frame ≡ o → cell_at after f ≡ or_else (cell_at cells f) (cell_at new f) →
        cell_at after c.frame ≡ or_else (cell_at cells c.frame) (cell_at new c.frame) →
        cell_at (placed_all frame_of (if is_none o then c ∷ missing cells new else missing cells new) cells) f ≡ or_else (cell_at cells f) (cell_at (c ∷ new) f)
    by_cell (Some b) is rest here = rest ∙ grind (arith, is)
    by_cell None is rest here =
        let none = beyond c.frame new rising.0 in
        let free : cell_at after c.frame ≡ None = here ∙ (ap (λ (o : Option (List ℕ)). or_else o (cell_at new c.frame)) is ∙ none) in
        put f c after free ∙ grind (arith, is, rest)

-- cells of contents
pieces_above : (size n low first : ℕ) (bytes : List ℕ) → low < first → AllByRecursion (λ (c : Cell). low < c.frame) (pieces size n first bytes)
pieces_above size zero low first bytes h = tt
pieces_above size (suc n) low first bytes h = (h, pieces_above size n low (first + 1) (drop size bytes) (omega (arith, h)))

pieces_rise : (size n first : ℕ) (bytes : List ℕ) → IsRising frame_of (pieces size n first bytes)
pieces_rise size zero first bytes = tt
pieces_rise size (suc n) first bytes = (pieces_above size n first (first + 1) (drop size bytes) (omega arith), pieces_rise size n (first + 1) (drop size bytes))

piece_at : (size n first i : ℕ) (bytes : List ℕ) → i < n → cell_at (pieces size n first bytes) (first + i) ≡ Some (take size (drop (size * i) bytes))
piece_at size zero first i bytes h = absurd (omega (arith, h))
piece_at size (suc n) first zero bytes h = grind arith
piece_at size (suc n) first (suc i) bytes h =
    let e : first + suc i ≡ (first + 1) + i = omega arith in
    let rest = piece_at size n (first + 1) i (drop size bytes) (omega (arith, h)) in
    let s : size + size * i ≡ size * suc i = grind arith in
    let d : drop (size * i) (drop size bytes) ≡ drop (size * suc i) bytes = drop-drop (size * i) size bytes ∙ ap (λ (k : ℕ). drop k bytes) s in
    grind (arith, e, rest, d)

piece_past : (size n first f : ℕ) (bytes : List ℕ) → first + n ≤ f → cell_at (pieces size n first bytes) f ≡ None
piece_past size zero first f bytes h = refl
piece_past size (suc n) first f bytes h = grind (arith, h, piece_past size n (first + 1) f (drop size bytes) (omega (arith, h)))

piece_before : (size n first f : ℕ) (bytes : List ℕ) → f < first → cell_at (pieces size n first bytes) f ≡ None
piece_before size n first f bytes h = beyond f (pieces size n first bytes) (pieces_above size n f first bytes h)

none_of : (first f : ℕ) (contents : List ℕ) → length contents ≡ 0 → cell_at (cells_given first contents) f ≡ None
unfolding page_size
none_of first f contents none =
    let e : length contents / 4096 ≡ 0 = omega (arith, none) in
    ap (λ (n : ℕ). cell_at (pieces 4096 n first contents) f) e

count_of : (order : ℕ) (contents : List ℕ) → length contents ≡ 4096 * 2 ^ order → length contents / 4096 ≡ 2 ^ order
count_of order contents all = let e : 4096 * 2 ^ order / 4096 ≡ 2 ^ order = omega arith in rw all e

part_of : (m : Map) (f : ℕ) (contents : List ℕ) → leads_to f m ≡ true → length contents ≡ 4096 * 2 ^ m.order →
    cell_at (cells_given m.frame contents) f ≡ Some (take 4096 (drop (4096 * (f - m.frame)) contents))
unfolding page_size
part_of m f contents leads all =
    let from : m.frame ≤ f = grind (arith, nat_tests, leads) in
    let to : f < m.frame + 2 ^ m.order = grind (arith, nat_tests, leads) in
    let e : m.frame + (f - m.frame) ≡ f = omega (arith, from) in
    ap (λ (n : ℕ). cell_at (pieces 4096 n m.frame contents) f) (count_of m.order contents all)
    ∙ (ap (cell_at (pieces 4096 (2 ^ m.order) m.frame contents)) (sym e)
    ∙ piece_at 4096 (2 ^ m.order) m.frame (f - m.frame) contents (omega (arith, from, to)))

none_beyond : (m : Map) (f : ℕ) (contents : List ℕ) → leads_to f m ≡ false → AreContents m.order contents → cell_at (cells_given m.frame contents) f ≡ None
unfolding page_size
none_beyond m f contents leads (inl none) = none_of m.frame f contents none
none_beyond m f contents leads (inr all) = ap (λ (n : ℕ). cell_at (pieces 4096 n m.frame contents) f) (count_of m.order contents all) ∙ (elim (cases_lt f m.frame) [
  | inl before ↦ piece_before 4096 (2 ^ m.order) m.frame f contents before
  | inr from ↦ piece_past 4096 (2 ^ m.order) m.frame f contents (grind (arith, nat_tests, leads, from))
])

cells_with : (m : Map) (contents : List ℕ) (cells : List Cell) → AreCellsWith m contents cells (placed_all frame_of (missing cells (cells_given m.frame contents)) cells)
cells_with m contents cells = record {
  kept = λ f bytes is. at f ∙ ap (λ (o : Option (List ℕ)). or_else o (cell_at new f)) is;
  brought = λ f none leads all. at f ∙ (ap (λ (o : Option (List ℕ)). or_else o (cell_at new f)) none ∙ part_of m f contents leads all);
  beyond = λ f none leads are. at f ∙ (ap (λ (o : Option (List ℕ)). or_else o (cell_at new f)) none ∙ none_beyond m f contents leads are);
  empty = λ f none no. at f ∙ (ap (λ (o : Option (List ℕ)). or_else o (cell_at new f)) none ∙ none_of m.frame f contents no);
  rising = λ rise. pairs_from frame_of (placed_all frame_of (missing cells new) cells) (rising_placed_all frame_of (missing cells new) cells (rising_from frame_of cells rise));
}
  where
    new : List Cell
    new = cells_given m.frame contents

    at : (f : ℕ) → cell_at (placed_all frame_of (missing cells new) cells) f ≡ or_else (cell_at cells f) (cell_at new f)
    at f = come f new cells (pieces_rise page_size (length contents / page_size) m.frame contents)

-- MAPS

maps_with : (m : Map) (maps : List Map) → list_any (overlaps m.base m.order) maps ≡ false → AreMapsWith m maps (placed base_of m maps)
maps_with m [] none = record { before = []; after = []; were = refl; are = refl; lesser = All-nil (λ (n : Map). n.base < m.base); greater = tt }
maps_with m (o ∷ os) none = by_tests (nat_lt m.base o.base) refl (m.base == o.base) refl (maps_with m os)
  where
    behind : o.base < m.base → AreMapsWith m os (placed base_of m os) → AreMapsWith m (o ∷ os) (o ∷ placed base_of m os)
    behind below rest = record {
      before = o ∷ rest.before;
      after = rest.after;
      were = ap (λ (ms : List Map). o ∷ ms) rest.were;
      are = ap (λ (ms : List Map). o ∷ ms) rest.are;
      lesser = All-cons (λ (n : Map). n.base < m.base) o rest.before below rest.lesser;
      greater = rest.greater;
    }

    by_tests : (less : Bool) → nat_lt m.base o.base ≡ less → (equal : Bool) → m.base == o.base ≡ equal →
        (list_any (overlaps m.base m.order) os ≡ false → AreMapsWith m os (placed base_of m os)) →
        AreMapsWith m (o ∷ os) (if less then m ∷ (o ∷ os) else (if equal then o ∷ os else o ∷ placed base_of m os))
    by_tests true is equal same rest = record {
      before = [];
      after = o ∷ os;
      were = refl;
      are = refl;
      lesser = All-nil (λ (n : Map). n.base < m.base);
      greater = grind (arith, nat_tests, is);
    }
    by_tests false is true same rest = absurd (grind (arith, nat_tests, same, none, pow_pos m.order, pow_pos o.order))
    by_tests false is false same rest = behind (grind (arith, nat_tests, is, same)) (rest (grind (arith, none)))

-- THE GUEST

comes : (v : Guest) (m : Map) (contents : List ℕ) → admits v (given m contents) ≡ true → list_any (overlaps m.base m.order) v.maps ≡ false
comes v m contents is = grind (arith, is)

applied_given : (v : Guest) (m : Map) (contents : List ℕ) → admits v (given m contents) ≡ true → (applied v (given m contents)).guest ≡ with_map v m contents
unfolding applied
applied_given v m contents is = rw (comes v m contents is) refl

pub given_cells : (v : Guest) (m : Map) (contents : List ℕ) → admits v (given m contents) ≡ true → AreCellsWith m contents v.cells (applied v (given m contents)).guest.cells
given_cells v m contents is =
    subst (λ (w : Guest). AreCellsWith m contents v.cells w.cells) (sym (applied_given v m contents is)) (cells_with m contents v.cells)

pub given_maps : (v : Guest) (m : Map) (contents : List ℕ) → admits v (given m contents) ≡ true → AreMapsWith m v.maps (applied v (given m contents)).guest.maps
given_maps v m contents is =
    subst (λ (w : Guest). AreMapsWith m v.maps w.maps) (sym (applied_given v m contents is)) (maps_with m v.maps (comes v m contents is))

pub given_else : (v : Guest) (m : Map) (contents : List ℕ) → IsElseSame v (applied v (given m contents))
unfolding applied
given_else v m contents = by_test (list_any (overlaps m.base m.order) v.maps)
  where
    by_test : (t : Bool) → IsElseSame v (told (if t then v else with_map v m contents) None)
    by_test true = record { registers = refl; recall = refl; state = refl; silent = refl }
    by_test false = record { registers = refl; recall = refl; state = refl; silent = refl }
