-- The address space that the kernel's state gives a virtual CPU is that of its view.
use Rattle.std.proofs.Common.{◌≡◌, ℕ, zero, suc, ◌+◌, ◌-◌, ◌/◌, ◌%◌, ◌^◌, ◌<◌, ◌≤◌, ◌⊎◌, List, [], ◌∷◌, ap, ◌∙◌, subst, refl, inl, inr, arith}
use Rattle.std.specs.Prelude.{Bool, true, false, ◌==◌, ◌&&◌, nat_lt, slice_get, Option, Some, None, is_some, option_map, option_and_then, if◌then◌else◌}
use Rattle.std.specs.List.{AllByRecursion, find}
use Rattle.std.proofs.lemmas.Nat.{pow_pos}
use Rattle.std.proofs.lemmas.Bool.{cases_Bool}
use Rattle.nova_guest.specs.Alone.{guest_space}
use Rattle.nova_guest.specs.Cells.{cell_at}
use Rattle.nova_guest.specs.Frames.{frame_from, frame_with, found_in, read_in}
use Rattle.nova_guest.specs.Keyed.{placed}
use Rattle.nova_guest.specs.Maps.{base_of, covers, is_covered, page_of, page_in}
use Rattle.nova_guest.specs.declared.map.Map.{Map}
use Rattle.nova_range.specs.Rights.{read_right, write_right, execute_right}
use Rattle.nova_range.specs.declared.range.Kind.{Kind}
use Rattle.nova_range.specs.declared.range.Kind.TheVariants.{Mem, Obj}
use Rattle.nova_model.specs.AddressSpaces.{AddressSpace, space, space_through, words_at, loaded_from, own_page, message_size}
use Rattle.nova_model.specs.Delegations.{page_in as kernel_page, is_memory, covers as holds, reach}
use Rattle.nova_model.specs.Forest.{ArePairs, AreApart}
use Rattle.nova_model.specs.Memory.{Memory}
use Rattle.nova_model.specs.Views.{is_memory_of, map_of, maps_of, cells_from, cells_of}
use Rattle.nova_model.specs.declared.delegation.Derivation.{Derivation}
use Rattle.law_turns.proofs.Holding.{Apart as SameSpaceApart}
use Rattle.law_isolation.proofs.KeyedLaws.{all_placed}

-- no page of one map is one of the other's
abbrev pub MapsApart : Map → Map → Type 0
MapsApart a b = (a.base + 2 ^ a.order ≤ b.base) ⊎ (b.base + 2 ^ b.order ≤ a.base)

pub apart_maps_of : (a b : Derivation) → AreApart a b → MapsApart (map_of a) (map_of b)
apart_maps_of a b h = elim (cases_Bool (nat_lt a.base (b.base + 2 ^ b.order))) [
  | inl before ↦ inl (grind (arith, h, before))
  | inr past ↦ inr (grind (arith, past))
]

-- a search among maps that lie apart
pub find_placed : (page : ℕ) (m : Map) (ms : List Map) → AllByRecursion (MapsApart m) ms →
    find (covers page) (placed base_of m ms) ≡ (if covers page m then Some m else find (covers page) ms)
find_placed page m [] all = refl
find_placed page m (y ∷ ys) all = grind (arith, find_placed page m ys all.1, all.0, pow_pos m.order, pow_pos y.order)

pub maps_more : (pd : ℕ) (x : Derivation) (xs : List Derivation) → is_memory_of pd x ≡ true → maps_of pd (x ∷ xs) ≡ placed base_of (map_of x) (maps_of pd xs)
maps_more pd x xs h = rw h refl

pub maps_same : (pd : ℕ) (x : Derivation) (xs : List Derivation) → is_memory_of pd x ≡ false → maps_of pd (x ∷ xs) ≡ maps_of pd xs
maps_same pd x xs h = rw h refl

pub same_kind : (a b : Kind) → is_memory a ≡ true → is_memory b ≡ true → a ≡ b
same_kind Mem Mem h g = refl
same_kind Mem Obj h g = absurd (cc)
same_kind Obj b h g = absurd (cc)

-- the maps of derivations that lie apart
pub maps_apart : (pd : ℕ) (d : Derivation) (list : List Derivation) → is_memory_of pd d ≡ true →
    AllByRecursion (SameSpaceApart d) list → AllByRecursion (MapsApart (map_of d)) (maps_of pd list)
maps_apart pd d [] is all = tt
maps_apart pd d (x ∷ xs) is all = elim (cases_Bool (is_memory_of pd x)) [
  | inl of_ ↦ rw (maps_more pd x xs of_) (all_placed (MapsApart (map_of d)) base_of (map_of x) (maps_of pd xs)
      (apart_maps_of d x (all.0 (grind (arith)) (same_kind d.kind x.kind (grind arith) (grind arith)))) (maps_apart pd d xs is all.1))
  | inr not_ ↦ rw (maps_same pd x xs not_) (maps_apart pd d xs is all.1)
]

pub page_found : (pd page : ℕ) (list : List Derivation) → ArePairs SameSpaceApart list →
    find (covers page) (maps_of pd list) ≡ option_map map_of (find (holds Mem pd page) list)
page_found pd page [] apart = refl
page_found pd page (x ∷ xs) apart = elim (cases_Bool (is_memory_of pd x)) [
  | inl of_ ↦ rw (maps_more pd x xs of_) (grind (arith, find_placed page (map_of x) (maps_of pd xs) (maps_apart pd x xs of_ apart.0), page_found pd page xs apart.1))
  | inr not_ ↦ rw (maps_same pd x xs not_) (grind (arith, page_found pd page xs apart.1))
]

-- what a cell holds
pub cell_before : (maps : List Map) (n f : ℕ) (ram : List (List ℕ)) → f < n → cell_at (cells_from maps n ram) f ≡ None
cell_before maps n f [] h = refl
cell_before maps n f (bytes ∷ ram) h = grind (arith, cell_before maps (n + 1) f ram)

pub cell_from : (maps : List Map) (n i : ℕ) (ram : List (List ℕ)) →
    cell_at (cells_from maps n ram) (n + i) ≡ (if is_covered maps (n + i) then slice_get ram i else None)
cell_from maps n i [] = grind arith
cell_from maps n zero (bytes ∷ ram) = grind (arith, cell_before maps (n + 1) n ram)
cell_from maps n (suc i) (bytes ∷ ram) = let e : n + suc i ≡ (n + 1) + i = omega arith in grind (arith, cell_from maps (n + 1) i ram)

pub cell_of : (maps : List Map) (ram : List (List ℕ)) (f : ℕ) →
    cell_at (cells_of maps ram) f ≡ (if is_covered maps f then slice_get ram f else None)
cell_of maps ram f = let e : 0 + f ≡ f = omega arith in subst (λ (g : ℕ). cell_at (cells_of maps ram) g ≡ (if is_covered maps g then slice_get ram f else None)) e (cell_from maps 0 f ram)

-- what a page leads to is covered
pub found_covered : (page : ℕ) (maps : List Map) (m : Map) → find (covers page) maps ≡ Some m →
    is_covered maps (m.frame + (page - m.base)) ≡ true
found_covered page [] m h = absurd (cc)
found_covered page (x ∷ xs) m h = grind (arith, found_covered page xs m)

frame_found : (right page f : ℕ) (maps : List Map) (r : Option Map) → find (covers page) maps ≡ r →
    option_and_then (frame_with right) (option_map (page_of page) r) ≡ Some f → is_covered maps f ≡ true
frame_found right page f maps None is h = absurd (cc)
frame_found right page f maps (Some m) is h =
    let e : m.frame + (page - m.base) ≡ f = grind arith in
    subst (λ (g : ℕ). is_covered maps g ≡ true) e (found_covered page maps m is)

pub frame_covered : (right address f : ℕ) (maps : List Map) → frame_from (page_in maps) right address ≡ Some f → is_covered maps f ≡ true
frame_covered right address f maps h = frame_found right (address / 4096) f maps (find (covers (address / 4096)) maps) refl h

-- a cell that is covered holds what the frame holds
pub cell_covered : (maps : List Map) (ram : List (List ℕ)) (f : ℕ) → is_covered maps f ≡ true → cell_at (cells_of maps ram) f ≡ slice_get ram f
cell_covered maps ram f h = cell_of maps ram f ∙ (rw h refl)

-- a page leads where the maps say
pub page_same : (pd page : ℕ) (list : List Derivation) → ArePairs SameSpaceApart list → reach list pd page ≡ page_in (maps_of pd list) page
page_same pd page list apart = rw (page_found pd page list apart) (by_found (find (holds Mem pd page) list))
  where
    by_found : (r : Option Derivation) → option_map (kernel_page page) r ≡ option_map (page_of page) (option_map map_of r)
    by_found None = refl
    by_found (Some d) = refl

pub frame_same : (list : List Derivation) (pd right address : ℕ) → ArePairs SameSpaceApart list →
    frame_from (reach list pd) right address ≡ frame_from (page_in (maps_of pd list)) right address
frame_same list pd right address apart = ap (option_and_then (frame_with right)) (page_same pd (address / 4096) list apart)

read_found : (maps : List Map) (ram : List (List ℕ)) (offset width : ℕ) (o : Option ℕ) → ((f : ℕ) → o ≡ Some f → is_covered maps f ≡ true) →
    option_map (λ (frame : ℕ). read_in (slice_get ram frame) offset width) o ≡ option_map (λ (frame : ℕ). read_in (cell_at (cells_of maps ram) frame) offset width) o
read_found maps ram offset width None h = refl
read_found maps ram offset width (Some f) h = rw (cell_covered maps ram f (h f refl)) refl

read_same : (list : List Derivation) (ram : List (List ℕ)) (pd right address width : ℕ) → ArePairs SameSpaceApart list →
    found_in (reach list pd) (slice_get ram) right address width ≡ found_in (page_in (maps_of pd list)) (cell_at (cells_of (maps_of pd list) ram)) right address width
read_same list ram pd right address width apart =
    rw (frame_same list pd right address apart)
    (read_found (maps_of pd list) ram (address % 4096) width (frame_from (page_in (maps_of pd list)) right address)
    (λ f h. frame_covered right address f (maps_of pd list) h))

-- one without message words finds none at any address
abbrev wordless : List Derivation → Memory → ℕ → AddressSpace
wordless list memory pd = space_through list memory pd None

pub no_words_if : (t : Bool) → ◌≡◌ {A = Option (List ℕ)} (if t then None else None) None
no_words_if true = refl
no_words_if false = refl

no_words_at : (list : List Derivation) (memory : Memory) (pd address : ℕ) → words_at (wordless list memory pd) address ≡ None
no_words_at list memory pd address = no_words_if ((address / 4096 == own_page) && nat_lt (address % 4096) message_size)

load_same : (list : List Derivation) (memory : Memory) (pd address width : ℕ) → ArePairs SameSpaceApart list →
    loaded_from (wordless list memory pd) address width (words_at (wordless list memory pd) address)
    ≡ found_in (page_in (maps_of pd list)) (cell_at (cells_of (maps_of pd list) memory.ram)) read_right address width
load_same list memory pd address width apart =
    ap (loaded_from (wordless list memory pd) address width) (no_words_at list memory pd address) ∙ read_same list memory.ram pd read_right address width apart

takes_same : (list : List Derivation) (memory : Memory) (pd address : ℕ) → ArePairs SameSpaceApart list →
    (space (wordless list memory pd)).takes address 1 ≡ is_some (frame_from (page_in (maps_of pd list)) write_right address)
takes_same list memory pd address apart = rw (no_words_at list memory pd address) (ap is_some (frame_same list pd write_right address apart))

pub space_same : (list : List Derivation) (memory : Memory) (pd : ℕ) → ArePairs SameSpaceApart list →
    space (space_through list memory pd None) ≡ guest_space (maps_of pd list) (cells_of (maps_of pd list) memory.ram)
space_same list memory pd apart = λ i. record {
  fetch = λ address. read_same list memory.ram pd execute_right address 4 apart i;
  load = λ address width. load_same list memory pd address width apart i;
  takes = λ address width. takes_same list memory pd address apart i;
}
