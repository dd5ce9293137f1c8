-- A map that comes: cells come with what it covers.
use Rattle.std.proofs.Common.{◌≡◌, ℕ, zero, suc, ◌+◌, ◌-◌, ◌*◌, ◌/◌, ◌^◌, ◌<◌, ◌≢◌, List, [], ◌∷◌, ◌++◌, length, take, drop, ap, ap₂, sym, ◌∙◌, subst, refl, inl, inr, arith}
use Rattle.std.specs.Prelude.{Bool, true, false, ◌==◌, ◌||◌, nat_lt, slice_get, Option, Some, None, is_none, if◌then◌else◌}
use Rattle.std.specs.List.{AllByRecursion, list_any, concat}
use Rattle.std.proofs.lemmas.Nat.{pow_pos}
use Rattle.std.proofs.Math.Nat.{mul-div_cancel}
use Rattle.std.proofs.lemmas.Bool.{cases_Bool, cases_order, cases_eq, cases_lt}
use Rattle.std.proofs.lemmas.List.{length-append, take_at, drop_at}
use Rattle.law_forest.proofs.Members.{all_weaker}
use Rattle.nova_guest.specs.Cells.{cell_at, cells_given, frame_of, missing, page_size, pieces}
use Rattle.nova_guest.specs.Keyed.{placed, placed_all}
use Rattle.nova_guest.specs.Maps.{base_of, is_covered, leads_to, overlaps}
use Rattle.nova_guest.specs.declared.cell.Cell.{Cell}
use Rattle.nova_guest.specs.declared.map.Map.{Map}
use Rattle.nova_model.specs.Forest.{ArePairs}
use Rattle.nova_model.specs.Inputs.{contents_of, leads_to as leads}
use Rattle.nova_model.specs.Views.{is_memory_of, map_of, maps_of, cells_from, cells_of}
use Rattle.nova_model.specs.declared.delegation.Derivation.{Derivation}
use Rattle.law_turns.proofs.Holding.{Apart as SameSpaceApart}
use Rattle.law_isolation.specs.Sound.{AreWhole}
use Rattle.law_isolation.proofs.KeyedLaws.{IsRising, placed_swap, all_placed, rising_placed_all}
use Rattle.law_isolation.proofs.Spaces.{MapsApart, maps_apart, maps_more, maps_same, cell_of}

-- cells in rising order are what their look-ups are
pub cell_beyond : (f : ℕ) (cells : List Cell) → AllByRecursion (λ c. f < c.frame) cells → cell_at cells f ≡ None
cell_beyond f [] all = refl
cell_beyond f (c ∷ cells) all = grind (arith, cell_beyond f cells all.1, all.0)

abbrev cell : ℕ → List ℕ → Cell
cell f b = record { frame = f; contents = b }

pub same_cells : (xs ys : List Cell) → IsRising frame_of xs → IsRising frame_of ys →
    ((f : ℕ) → cell_at xs f ≡ cell_at ys f) → xs ≡ ys
same_cells [] [] rx ry h = refl
same_cells [] (y ∷ ys) rx ry h = absurd (grind (arith, h y.frame))
same_cells (x ∷ xs) [] rx ry h = absurd (grind (arith, h x.frame))
same_cells (x ∷ xs) (y ∷ ys) rx ry h = elim (cases_order x.frame y.frame) [
  | inl same ↦
      let contents : x.contents ≡ y.contents = grind (arith, h x.frame) in
      let heads : x ≡ y = ap₂ (λ (f : ℕ) (b : List ℕ). cell f b) same contents in
      ap₂ (λ (c : Cell) (cs : List Cell). c ∷ cs) heads (same_cells xs ys rx.1 ry.1 (λ f. elim (cases_eq f x.frame) [
        | inl here ↦ cell_beyond f xs (rw here rx.0) ∙ sym (cell_beyond f ys (rw here (rw same ry.0)))
        | inr ne ↦ grind (arith, h f)
      ]))
  | inr apart ↦ elim apart [
    | inl before ↦ absurd (grind (arith, h x.frame, cell_beyond x.frame ys (all_weaker (λ c. y.frame < c.frame) (λ c. x.frame < c.frame) ys (λ c g. omega arith) ry.0)))
    | inr past ↦ absurd (grind (arith, h y.frame, cell_beyond y.frame xs (all_weaker (λ c. x.frame < c.frame) (λ c. y.frame < c.frame) xs (λ c g. omega arith) rx.0)))
  ]
]

-- cells one after another
abbrev numbered : ℕ → List (List ℕ) → List Cell
numbered frame [] = []
numbered frame (page ∷ pages) = record { frame = frame; contents = page } ∷ numbered (frame + 1) pages

pieces_of : (size : ℕ) (frame : ℕ) (pages : List (List ℕ)) → AllByRecursion (λ p. length p ≡ size) pages →
    pieces size (length pages) frame (concat pages) ≡ numbered frame pages
pieces_of size frame [] all = refl
pieces_of size frame (page ∷ pages) all =
    rw (take_at page (concat pages) size all.0, drop_at page (concat pages) size all.0)
    (ap (λ (cells : List Cell). record { frame = frame; contents = page } ∷ cells) (pieces_of size (frame + 1) pages all.1))

pub length_concat : (size : ℕ) (pages : List (List ℕ)) → AllByRecursion (λ p. length p ≡ size) pages → length (concat pages) ≡ length pages * size
length_concat size [] all = omega arith
length_concat size (page ∷ pages) all =
    let rest = length_concat size pages all.1 in let first = all.0 in length-append page (concat pages) ∙ grind arith

-- what numbered cells hold
numbered_before : (n f : ℕ) (pages : List (List ℕ)) → f < n → cell_at (numbered n pages) f ≡ None
numbered_before n f [] h = refl
numbered_before n f (page ∷ pages) h = grind (arith, numbered_before (n + 1) f pages)

numbered_from : (n i : ℕ) (pages : List (List ℕ)) → cell_at (numbered n pages) (n + i) ≡ slice_get pages i
numbered_from n i [] = refl
numbered_from n zero (page ∷ pages) = grind arith
numbered_from n (suc i) (page ∷ pages) = let e : n + suc i ≡ (n + 1) + i = omega arith in grind (arith, numbered_from (n + 1) i pages)

numbered_all : (n low : ℕ) (pages : List (List ℕ)) → low < n → AllByRecursion (λ c. low < c.frame) (numbered n pages)
numbered_all n low [] h = tt
numbered_all n low (page ∷ pages) h = (h, numbered_all (n + 1) low pages (omega arith))

numbered_rising : (n : ℕ) (pages : List (List ℕ)) → IsRising frame_of (numbered n pages)
numbered_rising n [] = tt
numbered_rising n (page ∷ pages) = (numbered_all (n + 1) n pages (omega arith), numbered_rising (n + 1) pages)

cells_all : (maps : List Map) (n low : ℕ) (ram : List (List ℕ)) → low < n → AllByRecursion (λ c. low < c.frame) (cells_from maps n ram)
cells_all maps n low [] h = tt
cells_all maps n low (bytes ∷ ram) h = by_test (is_covered maps n) (cells_all maps (n + 1) low ram (omega arith))
  where
    by_test : (t : Bool) → AllByRecursion (λ c. low < c.frame) (cells_from maps (n + 1) ram) →
        AllByRecursion (λ c. low < c.frame) (if t then record { frame = n; contents = bytes } ∷ cells_from maps (n + 1) ram else cells_from maps (n + 1) ram)
    by_test true rest = (h, rest)
    by_test false rest = rest

pub cells_rising : (maps : List Map) (n : ℕ) (ram : List (List ℕ)) → IsRising frame_of (cells_from maps n ram)
cells_rising maps n [] = tt
cells_rising maps n (bytes ∷ ram) = by_test (is_covered maps n) (cells_rising maps (n + 1) ram)
  where
    by_test : (t : Bool) → IsRising frame_of (cells_from maps (n + 1) ram) →
        IsRising frame_of (if t then record { frame = n; contents = bytes } ∷ cells_from maps (n + 1) ram else cells_from maps (n + 1) ram)
    by_test true rest = (cells_all maps (n + 1) n ram (omega arith), rest)
    by_test false rest = rest

pub bases_apart : (m n : Map) → MapsApart m n → n.base ≢ m.base
bases_apart m n (inl h) e = grind (arith, pow_pos m.order)
bases_apart m n (inr h) e = grind (arith, pow_pos n.order)

-- a look-up after a cell that is put where none of its frame is
abbrev pub or_else : Option (List ℕ) → Option (List ℕ) → Option (List ℕ)
or_else (Some b) other = Some b
or_else None other = other

cell_placed : (f : ℕ) (c : Cell) (cells : List Cell) → IsRising frame_of cells →
    cell_at (placed frame_of c cells) f ≡ or_else (cell_at cells f) (if c.frame == f then Some c.contents else None)
cell_placed f c [] rising = grind arith
cell_placed f c (d ∷ cells) rising = by_less (nat_lt c.frame d.frame) refl (cell_placed f c cells rising.1)
  where
    by_less : (t : Bool) → nat_lt c.frame d.frame ≡ t →
        cell_at (placed frame_of c cells) f ≡ or_else (cell_at cells f) (if c.frame == f then Some c.contents else None) →
        cell_at (if t then c ∷ (d ∷ cells) else (if c.frame == d.frame then d ∷ cells else d ∷ placed frame_of c cells)) f
        ≡ or_else (cell_at (d ∷ cells) f) (if c.frame == f then Some c.contents else None)
    by_less true less rest =
        let none = cell_beyond c.frame cells (all_weaker (λ e. d.frame < e.frame) (λ e. c.frame < e.frame) cells (λ e h. grind arith) rising.0) in
        grind (arith, none)
    by_less false less rest = grind (arith, rest)

pub cell_placed_all : (f : ℕ) (new cells : List Cell) → IsRising frame_of cells → IsRising frame_of new →
    cell_at (placed_all frame_of new cells) f ≡ or_else (cell_at cells f) (cell_at new f)
cell_placed_all f [] cells rising apart = grind arith
cell_placed_all f (c ∷ new) cells rising apart =
    let rest = cell_placed_all f new cells rising apart.1 in
    let none = cell_beyond c.frame new apart.0 in
    cell_placed f c (placed_all frame_of new cells) (rising_placed_all frame_of new cells rising) ∙ grind (arith, rest, none)

-- where cells rise, those whose frame has one may be put too: they are left out
missing_all : (P : Cell → Type 0) (cells new : List Cell) → AllByRecursion P new → AllByRecursion P (missing cells new)
missing_all P cells [] all = tt
missing_all P cells (c ∷ new) all = by_test (is_none (cell_at cells c.frame)) (missing_all P cells new all.1)
  where
    by_test : (t : Bool) → AllByRecursion P (missing cells new) → AllByRecursion P (if t then c ∷ missing cells new else missing cells new)
    by_test true rest = (all.0, rest)
    by_test false rest = rest

missing_rising : (cells new : List Cell) → IsRising frame_of new → IsRising frame_of (missing cells new)
missing_rising cells [] rising = tt
missing_rising cells (c ∷ new) rising = by_test (is_none (cell_at cells c.frame)) (missing_rising cells new rising.1)
  where
    by_test : (t : Bool) → IsRising frame_of (missing cells new) → IsRising frame_of (if t then c ∷ missing cells new else missing cells new)
    by_test true rest = (missing_all (λ d. c.frame < d.frame) cells new rising.0, rest)
    by_test false rest = rest

missing_at : (f : ℕ) (cells new : List Cell) → or_else (cell_at cells f) (cell_at (missing cells new) f) ≡ or_else (cell_at cells f) (cell_at new f)
missing_at f cells [] = refl
missing_at f cells (c ∷ new) = elim (cases_eq c.frame f) [
  | inl here ↦ by_cell here (cell_at cells f) (cell_at cells c.frame) (ap (cell_at cells) here)
  | inr ne ↦ grind (arith, missing_at f cells new)
]
  where
    by_cell : c.frame ≡ f → (a b : Option (List ℕ)) → b ≡ a
        → or_else a (cell_at (if is_none b then c ∷ missing cells new else missing cells new) f) ≡ or_else a (cell_at (c ∷ new) f)
    by_cell here (Some x) b same = refl
    by_cell here None b same = rw same (grind (arith, here))

pub placed_missing : (cells new : List Cell) → IsRising frame_of cells → IsRising frame_of new →
    placed_all frame_of (missing cells new) cells ≡ placed_all frame_of new cells
placed_missing cells new rising apart =
    same_cells (placed_all frame_of (missing cells new) cells) (placed_all frame_of new cells)
    (rising_placed_all frame_of (missing cells new) cells rising) (rising_placed_all frame_of new cells rising)
    (λ f. cell_placed_all f (missing cells new) cells rising (missing_rising cells new apart) ∙ (missing_at f cells new ∙ sym (cell_placed_all f new cells rising apart)))

-- what maps cover, with one more and with fewer
pub covered_placed : (m : Map) (maps : List Map) (f : ℕ) → AllByRecursion (MapsApart m) maps →
    is_covered (placed base_of m maps) f ≡ (leads_to f m || is_covered maps f)
covered_placed m [] f apart = refl
covered_placed m (y ∷ ys) f apart = grind (arith, covered_placed m ys f apart.1, apart.0, pow_pos m.order, pow_pos y.order)

-- the frames of a map
slice_drop : (xs : List (List ℕ)) (n i : ℕ) → slice_get (drop n xs) i ≡ slice_get xs (n + i)
slice_drop xs zero i = let e : 0 + i ≡ i = omega arith in rw e refl
slice_drop [] (suc n) i = refl
slice_drop (x ∷ xs) (suc n) i = let e : suc n + i ≡ suc (n + i) = omega arith in rw e (slice_drop xs n i)

slice_take : (xs : List (List ℕ)) (n i : ℕ) → slice_get (take n xs) i ≡ (if nat_lt i n then slice_get xs i else None)
slice_take xs zero i = grind arith
slice_take [] (suc n) i = grind arith
slice_take (x ∷ xs) (suc n) zero = grind arith
slice_take (x ∷ xs) (suc n) (suc i) = grind (arith, slice_take xs n i)

slice_in : (ram : List (List ℕ)) (frame count i : ℕ) → slice_get (take count (drop frame ram)) i ≡ (if nat_lt i count then slice_get ram (frame + i) else None)
slice_in ram frame count i = slice_take (drop frame ram) count i ∙ rw (slice_drop ram frame i) refl

pub numbered_at : (m : Map) (ram : List (List ℕ)) (f : ℕ) →
    cell_at (numbered m.frame (take (2 ^ m.order) (drop m.frame ram))) f ≡ (if leads_to f m then slice_get ram f else None)
numbered_at m ram f = elim (cases_lt f m.frame) [
  | inl before ↦ numbered_before m.frame f (take (2 ^ m.order) (drop m.frame ram)) before ∙ grind arith
  | inr past ↦
      let e : m.frame + (f - m.frame) ≡ f = omega arith in
      subst (λ (g : ℕ). cell_at (numbered m.frame (take (2 ^ m.order) (drop m.frame ram))) g ≡ (if leads_to g m then slice_get ram g else None)) e
      (numbered_from m.frame (f - m.frame) (take (2 ^ m.order) (drop m.frame ram)) ∙ (slice_in ram m.frame (2 ^ m.order) (f - m.frame) ∙ grind arith))
]

pub cells_added : (m : Map) (maps : List Map) (ram : List (List ℕ)) → AllByRecursion (MapsApart m) maps →
    cells_of (placed base_of m maps) ram ≡ placed_all frame_of (numbered m.frame (take (2 ^ m.order) (drop m.frame ram))) (cells_of maps ram)
cells_added m maps ram apart = same_cells (cells_of (placed base_of m maps) ram)
    (placed_all frame_of (numbered m.frame (take (2 ^ m.order) (drop m.frame ram))) (cells_of maps ram))
    (cells_rising (placed base_of m maps) 0 ram)
    (rising_placed_all frame_of (numbered m.frame (take (2 ^ m.order) (drop m.frame ram))) (cells_of maps ram) (cells_rising maps 0 ram))
    (λ f. cell_of (placed base_of m maps) ram f
    ∙ grind (
      arith,
      covered_placed m maps f apart,
      cell_of maps ram f,
      numbered_at m ram f,
      cell_placed_all f (numbered m.frame (take (2 ^ m.order) (drop m.frame ram))) (cells_of maps ram) (cells_rising maps 0 ram) (numbered_rising m.frame (take (2 ^ m.order) (drop m.frame ram))),
    ))

pub all_drop : (P : List ℕ → Type 0) (n : ℕ) (xs : List (List ℕ)) → AllByRecursion P xs → AllByRecursion P (drop n xs)
all_drop P zero xs all = all
all_drop P (suc n) [] all = all
all_drop P (suc n) (x ∷ xs) all = all_drop P n xs all.1

pub all_take : (P : List ℕ → Type 0) (n : ℕ) (xs : List (List ℕ)) → AllByRecursion P xs → AllByRecursion P (take n xs)
all_take P zero xs all = tt
all_take P (suc n) [] all = tt
all_take P (suc n) (x ∷ xs) all = (all.0, all_take P n xs all.1)

-- the bytes of whole pages, cut into cells again
some_bytes : 0 < page_size
unfolding page_size
some_bytes = omega arith

pub given_again : (frame : ℕ) (pages : List (List ℕ)) → AreWhole pages → cells_given frame (concat pages) ≡ numbered frame pages
given_again frame pages whole =
    let count : length (concat pages) / page_size ≡ length pages = ap (λ (n : ℕ). n / page_size) (length_concat page_size pages whole) ∙ mul-div_cancel (length pages) some_bytes in
    ap (λ (n : ℕ). pieces page_size n frame (concat pages)) count ∙ pieces_of page_size frame pages whole

-- Given: cells where a map is added
pub cells_given_of : (m : Map) (maps : List Map) (ram : List (List ℕ)) → AreWhole ram → AllByRecursion (MapsApart m) maps →
    cells_of (placed base_of m maps) ram ≡ placed_all frame_of (missing (cells_of maps ram) (cells_given m.frame (contents_of ram m.frame m.order))) (cells_of maps ram)
cells_given_of m maps ram whole apart =
    let pages : List (List ℕ) = take (2 ^ m.order) (drop m.frame ram) in
    let same : cells_given m.frame (contents_of ram m.frame m.order) ≡ numbered m.frame pages =
    given_again m.frame pages (all_take (λ p. length p ≡ page_size) (2 ^ m.order) (drop m.frame ram) (all_drop (λ p. length p ≡ page_size) m.frame ram whole)) in
    cells_added m maps ram apart
    ∙ (sym (placed_missing (cells_of maps ram) (numbered m.frame pages) (cells_rising maps 0 ram) (numbered_rising m.frame pages))
    ∙ ap (λ (new : List Cell). placed_all frame_of (missing (cells_of maps ram) new) (cells_of maps ram)) (sym same))

-- the maps of a list with one more derivation
abbrev pub IsApartFrom : ℕ → Derivation → Derivation → Type 0
IsApartFrom pd d x = is_memory_of pd x ≡ true → MapsApart (map_of d) (map_of x)

pub maps_added : (pd : ℕ) (d : Derivation) (list : List Derivation) → is_memory_of pd d ≡ true → AllByRecursion (IsApartFrom pd d) list →
    maps_of pd (list ++ d ∷ []) ≡ placed base_of (map_of d) (maps_of pd list)
maps_added pd d [] is all = maps_more pd d [] is
maps_added pd d (x ∷ xs) is all = elim (cases_Bool (is_memory_of pd x)) [
  | inl of_ ↦
      maps_more pd x (xs ++ d ∷ []) of_ ∙ (ap (placed base_of (map_of x)) (maps_added pd d xs is all.1)
      ∙ (placed_swap base_of (map_of x) (map_of d) (maps_of pd xs) (bases_apart (map_of d) (map_of x) (all.0 of_))
      ∙ ap (placed base_of (map_of d)) (sym (maps_more pd x xs of_))))
  | inr not_ ↦ maps_same pd x (xs ++ d ∷ []) not_ ∙ (maps_added pd d xs is all.1 ∙ ap (placed base_of (map_of d)) (sym (maps_same pd x xs not_)))
]

-- another domain's derivation, or one of an object
pub maps_others : (pd : ℕ) (d : Derivation) (list : List Derivation) → is_memory_of pd d ≡ false → maps_of pd (list ++ d ∷ []) ≡ maps_of pd list
maps_others pd d [] is = maps_same pd d [] is
maps_others pd d (x ∷ xs) is = elim (cases_Bool (is_memory_of pd x)) [
  | inl of_ ↦ maps_more pd x (xs ++ d ∷ []) of_ ∙ (ap (placed base_of (map_of x)) (maps_others pd d xs is) ∙ sym (maps_more pd x xs of_))
  | inr not_ ↦ maps_same pd x (xs ++ d ∷ []) not_ ∙ (maps_others pd d xs is ∙ sym (maps_same pd x xs not_))
]

pub none_overlap : (m : Map) (maps : List Map) → AllByRecursion (MapsApart m) maps → list_any (overlaps m.base m.order) maps ≡ false
none_overlap m [] apart = refl
none_overlap m (y ∷ ys) apart = grind (arith, none_overlap m ys apart.1, apart.0)

pub apart_maps : (pd : ℕ) (d : Derivation) (list : List Derivation) → AllByRecursion (IsApartFrom pd d) list → AllByRecursion (MapsApart (map_of d)) (maps_of pd list)
apart_maps pd d [] all = tt
apart_maps pd d (x ∷ xs) all = elim (cases_Bool (is_memory_of pd x)) [
  | inl of_ ↦ rw (maps_more pd x xs of_) (all_placed (MapsApart (map_of d)) base_of (map_of x) (maps_of pd xs) (all.0 of_) (apart_maps pd d xs all.1))
  | inr not_ ↦ rw (maps_same pd x xs not_) (apart_maps pd d xs all.1)
]

-- frames that the derivations of a domain lead to, and those that its maps cover
pub covered_for : (pd f : ℕ) (list : List Derivation) → ArePairs SameSpaceApart list → list_any (leads pd f) list ≡ is_covered (maps_of pd list) f
covered_for pd f [] apart = refl
covered_for pd f (x ∷ xs) apart = elim (cases_Bool (is_memory_of pd x)) [
  | inl of_ ↦ rw (maps_more pd x xs of_) (grind (arith, of_, covered_placed (map_of x) (maps_of pd xs) f (maps_apart pd x xs of_ apart.0), covered_for pd f xs apart.1))
  | inr not_ ↦ rw (maps_same pd x xs not_) (grind (arith, not_, covered_for pd f xs apart.1))
]
