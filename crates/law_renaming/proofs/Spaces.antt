-- Guests that agree but for the frames find the same at every address.
use Rattle.std.proofs.Common.{◌≡◌, ℕ, ◌+◌, ◌-◌, ◌/◌, ◌%◌, ◌^◌, ◌<◌, List, [], ◌∷◌, ap, ap₂, sym, ◌∙◌, subst, refl, inl, inr, arith}
use Rattle.std.specs.Prelude.{Bool, true, false, ◌==◌, ◌||◌, Option, Some, None, is_some, option_map, option_and_then, if◌then◌else◌}
use Rattle.std.specs.List.{find}
use Rattle.std.proofs.lemmas.Bool.{cases_eq, eq-eqb, ne_eqb}
use Rattle.nova_range.specs.Rights.{allows, read_right, write_right, execute_right}
use Rattle.nova_guest.specs.Alone.{guest_space}
use Rattle.nova_guest.specs.Cells.{cell_at}
use Rattle.nova_guest.specs.Frames.{frame_from, frame_with, found_in, read_in}
use Rattle.nova_guest.specs.Maps.{covers, is_covered, leads_to, page_in, page_of}
use Rattle.nova_guest.specs.declared.cell.Cell.{Cell}
use Rattle.nova_guest.specs.declared.guest.Guest.{Guest}
use Rattle.nova_guest.specs.declared.map.Map.{Map}
use Rattle.nova_guest.specs.declared.page.Page.{Page}
use Rattle.law_renaming.specs.Renamings.{CellsAgree, GuestsAgree, IsOneToOne, MapAgrees, MapsAgree, Renames, bytes_behind}

-- frames are equal where those that they stand for are
pub same_frame : (r : ℕ → ℕ → Bool) → IsOneToOne r → (a b c d : ℕ) → Renames r a b → Renames r c d → (b == d) ≡ (a == c)
same_frame r one a b c d ab cd = elim (cases_eq a c) [
  | inl e ↦ eq-eqb b d (one.to a b d ab (subst (λ (x : ℕ). Renames r x d) (sym e) cd)) ∙ sym (eq-eqb a c e)
  | inr ne ↦ ne_eqb b d (λ e. ne (one.from a c d (subst (λ (x : ℕ). Renames r a x) e ab) cd)) ∙ sym (ne_eqb a c ne)
]

-- what is found in maps
abbrev FoundAgree : (ℕ → ℕ → Bool) → Option Map → Option Map → Type 0
FoundAgree r None None = Unit {0}
FoundAgree r (Some m) (Some n) = MapAgrees r m n
FoundAgree r m n = ⊥

covers_same : (r : ℕ → ℕ → Bool) (m n : Map) (page : ℕ) → MapAgrees r m n → covers page n ≡ covers page m
covers_same r m n page same = rw (same.base, same.order) refl

found_agrees : (r : ℕ → ℕ → Bool) (ms ns : List Map) (page : ℕ) → MapsAgree r ms ns → FoundAgree r (find (covers page) ms) (find (covers page) ns)
found_agrees r [] [] page same = tt
found_agrees r [] (n ∷ ns) page same = absurd same
found_agrees r (m ∷ ms) [] page same = absurd same
found_agrees r (m ∷ ms) (n ∷ ns) page same = rw (covers_same r m n page same.0) (by_test (covers page m) (found_agrees r ms ns page same.1))
  where
    by_test : (t : Bool) → FoundAgree r (find (covers page) ms) (find (covers page) ns) → FoundAgree r (if t then Some m else find (covers page) ms) (if t then Some n else find (covers page) ns)
    by_test true rest = same.0
    by_test false rest = rest

found_covers : (page : ℕ) (ms : List Map) (m : Map) → find (covers page) ms ≡ Some m → covers page m ≡ true
found_covers page [] m h = absurd (cc)
found_covers page (x ∷ xs) m h = grind (arith, found_covers page xs m)

-- pages: equal rights, and frames that stand for each other
pub record PageAgrees (r : ℕ → ℕ → Bool) (p q : Page) : Type 0 where
  pub rights : q.rights ≡ p.rights
  pub frame : Renames r p.frame q.frame

abbrev pub PagesAgree : (ℕ → ℕ → Bool) → Option Page → Option Page → Type 0
PagesAgree r None None = Unit {0}
PagesAgree r (Some p) (Some q) = PageAgrees r p q
PagesAgree r p q = ⊥

page_found : (r : ℕ → ℕ → Bool) (page : ℕ) (a b : Option Map) → FoundAgree r a b → ((m : Map) → a ≡ Some m → covers page m ≡ true) →
    PagesAgree r (option_map (page_of page) a) (option_map (page_of page) b)
page_found r page None None same h = tt
page_found r page None (Some n) same h = absurd same
page_found r page (Some m) None same h = absurd same
page_found r page (Some m) (Some n) same h = record {
  rights = same.rights;
  frame = subst (λ (base : ℕ). Renames r (m.frame + (page - m.base)) (n.frame + (page - base))) (sym same.base)
      (same.frames (page - m.base) (let c = h m refl in grind arith));
}

pub page_agrees : (r : ℕ → ℕ → Bool) (ms ns : List Map) (page : ℕ) → MapsAgree r ms ns → PagesAgree r (page_in ms page) (page_in ns page)
page_agrees r ms ns page same =
    page_found r page (find (covers page) ms) (find (covers page) ns) (found_agrees r ms ns page same) (λ m h. found_covers page ms m h)

-- the frames that an address leads to
abbrev pub FramesAgree : (ℕ → ℕ → Bool) → Option ℕ → Option ℕ → Type 0
FramesAgree r None None = Unit {0}
FramesAgree r (Some a) (Some b) = Renames r a b
FramesAgree r a b = ⊥

frame_allowed : (r : ℕ → ℕ → Bool) (right : ℕ) (p q : Option Page) → PagesAgree r p q → FramesAgree r (option_and_then (frame_with right) p) (option_and_then (frame_with right) q)
frame_allowed r right None None same = tt
frame_allowed r right None (Some q) same = absurd same
frame_allowed r right (Some p) None same = absurd same
frame_allowed r right (Some p) (Some q) same = rw same.rights (by_test (allows p.rights right))
  where
    by_test : (t : Bool) → FramesAgree r (if t then Some p.frame else None) (if t then Some q.frame else None)
    by_test true = same.frame
    by_test false = tt

pub frame_agrees : (r : ℕ → ℕ → Bool) (ms ns : List Map) (right address : ℕ) → MapsAgree r ms ns → FramesAgree r (frame_from (page_in ms) right address) (frame_from (page_in ns) right address)
frame_agrees r ms ns right address same = frame_allowed r right (page_in ms (address / 4096)) (page_in ns (address / 4096)) (page_agrees r ms ns (address / 4096) same)

-- one address space
read_agrees : (r : ℕ → ℕ → Bool) (us vs : List Cell) (offset width : ℕ) → CellsAgree r us vs → (a b : Option ℕ) → FramesAgree r a b →
    option_map (λ (frame : ℕ). read_in (cell_at us frame) offset width) a ≡ option_map (λ (frame : ℕ). read_in (cell_at vs frame) offset width) b
read_agrees r us vs offset width cells None None same = refl
read_agrees r us vs offset width cells None (Some b) same = absurd same
read_agrees r us vs offset width cells (Some a) None same = absurd same
read_agrees r us vs offset width cells (Some a) (Some b) same = ap (λ (bytes : Option (List ℕ)). Some (read_in bytes offset width)) (sym (cells a b same))

takes_agree : (r : ℕ → ℕ → Bool) (a b : Option ℕ) → FramesAgree r a b → is_some a ≡ is_some b
takes_agree r None None same = refl
takes_agree r None (Some b) same = absurd same
takes_agree r (Some a) None same = absurd same
takes_agree r (Some a) (Some b) same = refl

pub space_agrees : (r : ℕ → ℕ → Bool) (u v : Guest) → GuestsAgree r u v → guest_space u.maps u.cells ≡ guest_space v.maps v.cells
space_agrees r u v same = λ i. record {
  fetch = λ address. reads execute_right address 4 i;
  load = λ address width. reads read_right address width i;
  takes = λ address width. takes_agree r _ _ (frame_agrees r u.maps v.maps write_right address same.maps) i;
}
  where
    reads : (right address width : ℕ) → found_in (page_in u.maps) (cell_at u.cells) right address width ≡ found_in (page_in v.maps) (cell_at v.cells) right address width
    reads right address width =
        read_agrees r u.cells v.cells (address % 4096) width same.cells (frame_from (page_in u.maps) right address) (frame_from (page_in v.maps) right address)
        (frame_agrees r u.maps v.maps right address same.maps)

-- page by page
pub page_bytes : (r : ℕ → ℕ → Bool) (u v : Guest) (page : ℕ) → GuestsAgree r u v → bytes_behind u page ≡ bytes_behind v page
page_bytes r u v page same = by_page (page_in u.maps page) (page_in v.maps page) (page_agrees r u.maps v.maps page same.maps)
  where
    by_page : (p q : Option Page) → PagesAgree r p q → option_and_then (λ x. cell_at u.cells x.frame) p ≡ option_and_then (λ x. cell_at v.cells x.frame) q
    by_page None None h = refl
    by_page None (Some q) h = absurd h
    by_page (Some p) None h = absurd h
    by_page (Some p) (Some q) h = sym (same.cells p.frame q.frame h.frame)

-- what maps lead to
leads_agree : (r : ℕ → ℕ → Bool) → IsOneToOne r → (m n : Map) (g h : ℕ) → Renames r g h → MapAgrees r m n → leads_to h n ≡ leads_to g m
leads_agree r one m n g h pair same = by_test (leads_to g m) refl (leads_to h n) refl
  where
    by_test : (a : Bool) → leads_to g m ≡ a → (b : Bool) → leads_to h n ≡ b → leads_to h n ≡ leads_to g m
    by_test true is true k = k ∙ sym is
    by_test false is false k = k ∙ sym is
    by_test true is false k =
        let e : m.frame + (g - m.frame) ≡ g = grind arith in
        let there : n.frame + (g - m.frame) ≡ h = one.to g _ h (subst (λ (x : ℕ). Renames r x (n.frame + (g - m.frame))) e (same.frames (g - m.frame) (grind arith))) pair in
        let order = same.order in absurd (grind arith)
    by_test false is true k =
        let within : h - n.frame < 2 ^ m.order = subst (λ (o : ℕ). h - n.frame < 2 ^ o) same.order (grind arith) in
        let e : n.frame + (h - n.frame) ≡ h = grind arith in
        let there : m.frame + (h - n.frame) ≡ g = one.from _ g h (subst (λ (x : ℕ). Renames r (m.frame + (h - n.frame)) x) e (same.frames (h - n.frame) within)) pair in
        absurd (grind arith)

pub covered_agrees : (r : ℕ → ℕ → Bool) → IsOneToOne r → (ms ns : List Map) (g h : ℕ) → Renames r g h → MapsAgree r ms ns → is_covered ns h ≡ is_covered ms g
covered_agrees r one [] [] g h pair same = refl
covered_agrees r one [] (n ∷ ns) g h pair same = absurd same
covered_agrees r one (m ∷ ms) [] g h pair same = absurd same
covered_agrees r one (m ∷ ms) (n ∷ ns) g h pair same = ap₂ (λ (a b : Bool). a || b) (leads_agree r one m n g h pair same.0) (covered_agrees r one ms ns g h pair same.1)
