-- A map that goes: so does each cell that no map covers any more.
use Rattle.std.proofs.Common.{◌≡◌, ℕ, ◌+◌, ◌<◌, ◌⊎◌, ◌≢◌, List, [], ◌∷◌, ap, sym, ◌∙◌, subst, refl, inl, inr, arith}
use Rattle.std.specs.Prelude.{Bool, true, false, not, filter, ◌==◌, ◌||◌, if◌then◌else◌}
use Rattle.std.specs.List.{AllByRecursion, filter_map, list_any}
use Rattle.std.proofs.lemmas.Bool.{cases_Bool, cases_lt}
use Rattle.law_forest.proofs.Members.{IsIn, all_at, all_from, all_weaker, filtered_in}
use Rattle.law_forest.proofs.Pairs.{pairs_at, same_id}
use Rattle.nova_guest.specs.Keyed.{placed}
use Rattle.nova_guest.specs.Maps.{base_of, is_covered, is_map, leads_to, overlaps}
use Rattle.nova_guest.specs.declared.cell.Cell.{Cell}
use Rattle.nova_guest.specs.declared.map.Map.{Map}
use Rattle.nova_model.specs.Delegations.{Delegations, without}
use Rattle.nova_model.specs.Forest.{ArePairs, IsForest}
use Rattle.nova_model.specs.Views.{is_memory_of, map_in, map_of, maps_of, cells_from, cells_of}
use Rattle.nova_model.specs.declared.delegation.Derivation.{Derivation}
use Rattle.law_turns.proofs.Holding.{Apart as SameSpaceApart}
use Rattle.law_isolation.proofs.Exchanges.{bases_apart}
use Rattle.law_isolation.proofs.KeyedLaws.{IsRising, all_placed, rising_placed_all}
use Rattle.law_isolation.proofs.Spaces.{MapsApart, apart_maps_of, maps_apart, maps_more, maps_same, same_kind}

-- some of a list in rising order, where one more is put at its place
placed_first : {T : Type 0} (key : T → ℕ) (x : T) (xs : List T) → AllByRecursion (λ y. key x < key y) xs → placed key x xs ≡ x ∷ xs
placed_first key x [] all = refl
placed_first key x (y ∷ ys) all = let first = all.0 in grind arith

all_left : {T : Type 0} (P : T → Type 0) (p : T → Bool) (xs : List T) → AllByRecursion P xs → AllByRecursion P (filter p xs)
all_left P p xs all = all_from P (filter p xs) (λ x i. all_at P xs x all (filtered_in p xs x i).0)

left_placed : {T : Type 0} (key : T → ℕ) (p : T → Bool) (x : T) (xs : List T) → IsRising key xs → AllByRecursion (λ y. key x ≢ key y) xs →
    filter p (placed key x xs) ≡ (if p x then placed key x (filter p xs) else filter p xs)
left_placed key p x [] rising other = refl
left_placed key p x (y ∷ ys) rising other = elim (cases_lt (key x) (key y)) [
  | inl before ↦
      let first = placed_first key x (filter p (y ∷ ys))
      (all_left (λ z. key x < key z) p (y ∷ ys) (before, all_weaker (λ z. key y < key z) (λ z. key x < key z) ys (λ z h. omega arith) rising.0)) in
      grind (arith, first)
  | inr past ↦ let apart = other.0 in grind (arith, left_placed key p x ys rising.1 other.1, apart)
]

any_placed : {T : Type 0} (key : T → ℕ) (p : T → Bool) (x : T) (xs : List T) → AllByRecursion (λ y. key x ≢ key y) xs →
    list_any p (placed key x xs) ≡ (p x || list_any p xs)
any_placed key p x [] other = refl
any_placed key p x (y ∷ ys) other = let apart = other.0 in grind (arith, any_placed key p x ys other.1, apart)

-- THE MAPS THAT ARE LEFT

-- of a domain's memory just the derivation of an id has the map of a base and an order
abbrev Agrees : ℕ → ℕ → ℕ → ℕ → Derivation → Type 0
Agrees pd id base order d = is_memory_of pd d ≡ true → is_map base order (map_of d) ≡ (d.id == id)

others_apart : (pd : ℕ) (x : Derivation) (xs : List Derivation) → is_memory_of pd x ≡ true → AllByRecursion (SameSpaceApart x) xs →
    AllByRecursion (λ m. base_of (map_of x) ≢ base_of m) (maps_of pd xs)
others_apart pd x xs of_ apart =
    all_weaker (MapsApart (map_of x)) (λ m. base_of (map_of x) ≢ base_of m) (maps_of pd xs) (λ m h e. bases_apart (map_of x) m h (sym e)) (maps_apart pd x xs of_ apart)

maps_rising : (pd : ℕ) (list : List Derivation) → IsRising base_of (maps_of pd list)
maps_rising pd list = rising_placed_all base_of (filter_map (map_in pd) list) [] tt

maps_left : (pd id base order : ℕ) (list : List Derivation) → ArePairs SameSpaceApart list → AllByRecursion (Agrees pd id base order) list →
    maps_of pd (filter (λ d. not (d.id == id)) list) ≡ filter (λ m. not (is_map base order m)) (maps_of pd list)
maps_left pd id base order [] apart all = refl
maps_left pd id base order (x ∷ xs) apart all = elim (cases_Bool (is_memory_of pd x)) [
  | inl of_ ↦
      by_id (x.id == id) of_ (maps_left pd id base order xs apart.1 all.1)
      ∙ sym (ap (filter (λ m. not (is_map base order m))) (maps_more pd x xs of_)
      ∙ (left_placed base_of (λ m. not (is_map base order m)) (map_of x) (maps_of pd xs) (maps_rising pd xs) (others_apart pd x xs of_ apart.0)
      ∙ ap (λ (t : Bool). if not t then placed base_of (map_of x) (left_of xs) else left_of xs) (all.0 of_)))
  | inr not_ ↦ by_other (x.id == id) not_ (maps_left pd id base order xs apart.1 all.1) ∙ sym (ap (filter (λ m. not (is_map base order m))) (maps_same pd x xs not_))
]
  where
    left_of : List Derivation → List Map
    left_of ds = filter (λ m. not (is_map base order m)) (maps_of pd ds)

    by_id : (t : Bool) → is_memory_of pd x ≡ true → maps_of pd (filter (λ d. not (d.id == id)) xs) ≡ filter (λ m. not (is_map base order m)) (maps_of pd xs) →
        maps_of pd (if not t then x ∷ filter (λ d. not (d.id == id)) xs else filter (λ d. not (d.id == id)) xs)
        ≡ (if not t then placed base_of (map_of x) (filter (λ m. not (is_map base order m)) (maps_of pd xs)) else filter (λ m. not (is_map base order m)) (maps_of pd xs))
    by_id true of_ rest = rest
    by_id false of_ rest = maps_more pd x (filter (λ d. not (d.id == id)) xs) of_ ∙ ap (placed base_of (map_of x)) rest

    by_other : (t : Bool) → is_memory_of pd x ≡ false → maps_of pd (filter (λ d. not (d.id == id)) xs) ≡ filter (λ m. not (is_map base order m)) (maps_of pd xs) →
        maps_of pd (if not t then x ∷ filter (λ d. not (d.id == id)) xs else filter (λ d. not (d.id == id)) xs) ≡ filter (λ m. not (is_map base order m)) (maps_of pd xs)
    by_other true not_ rest = rest
    by_other false not_ rest = maps_same pd x (filter (λ d. not (d.id == id)) xs) not_ ∙ rest

-- another domain's derivation, or one of an object
maps_stay : (pd id : ℕ) (list : List Derivation) → AllByRecursion (λ d. (d.id == id) ≡ true → is_memory_of pd d ≡ false) list →
    maps_of pd (filter (λ d. not (d.id == id)) list) ≡ maps_of pd list
maps_stay pd id [] all = refl
maps_stay pd id (x ∷ xs) all = by_id (x.id == id) all.0 (maps_stay pd id xs all.1)
  where
    by_id : (t : Bool) → (t ≡ true → is_memory_of pd x ≡ false) → maps_of pd (filter (λ d. not (d.id == id)) xs) ≡ maps_of pd xs →
        maps_of pd (if not t then x ∷ filter (λ d. not (d.id == id)) xs else filter (λ d. not (d.id == id)) xs) ≡ maps_of pd (x ∷ xs)
    by_id true other rest = rest ∙ sym (maps_same pd x xs (other refl))
    by_id false other rest = elim (cases_Bool (is_memory_of pd x)) [
      | inl of_ ↦ maps_more pd x (filter (λ d. not (d.id == id)) xs) of_ ∙ (ap (placed base_of (map_of x)) rest ∙ sym (maps_more pd x xs of_))
      | inr not_ ↦ maps_same pd x (filter (λ d. not (d.id == id)) xs) not_ ∙ (rest ∙ sym (maps_same pd x xs not_))
    ]

-- the map of a derivation is there
has_map : (pd : ℕ) (d : Derivation) (list : List Derivation) → is_memory_of pd d ≡ true → ArePairs SameSpaceApart list → IsIn list d →
    list_any (is_map d.base d.order) (maps_of pd list) ≡ true
has_map pd d [] is apart i = absurd i
has_map pd d (x ∷ xs) is apart (inl e) =
    let of_ : is_memory_of pd x ≡ true = ap (is_memory_of pd) e ∙ is in
    let own : is_map d.base d.order (map_of x) ≡ true = ap (λ (y : Derivation). is_map d.base d.order (map_of y)) e ∙ grind arith in
    ap (list_any (is_map d.base d.order)) (maps_more pd x xs of_)
    ∙ (any_placed base_of (is_map d.base d.order) (map_of x) (maps_of pd xs) (others_apart pd x xs of_ apart.0) ∙ rw own refl)
has_map pd d (x ∷ xs) is apart (inr i) = elim (cases_Bool (is_memory_of pd x)) [
  | inl of_ ↦
      let rest = has_map pd d xs is apart.1 i in
      ap (list_any (is_map d.base d.order)) (maps_more pd x xs of_)
      ∙ (any_placed base_of (is_map d.base d.order) (map_of x) (maps_of pd xs) (others_apart pd x xs of_ apart.0) ∙ grind (arith, rest))
  | inr not_ ↦ ap (list_any (is_map d.base d.order)) (maps_same pd x xs not_) ∙ has_map pd d xs is apart.1 i
]

-- THE CELLS THAT ARE LEFT

any_left : {T : Type 0} (p q : T → Bool) (xs : List T) → list_any q (filter p xs) ≡ true → list_any q xs ≡ true
any_left p q [] h = h
any_left p q (x ∷ xs) h = by_tests (p x) (q x) h (any_left p q xs)
  where
    by_tests : (keeps passes : Bool) → list_any q (if keeps then x ∷ filter p xs else filter p xs) ≡ true → (list_any q (filter p xs) ≡ true → list_any q xs ≡ true) → list_any q (x ∷ xs) ≡ true
    by_tests keeps passes g rest = grind arith

cells_left : (maps left : List Map) (n : ℕ) (ram : List (List ℕ)) → ((f : ℕ) → is_covered left f ≡ true → is_covered maps f ≡ true) →
    cells_from left n ram ≡ filter (λ c. is_covered left c.frame) (cells_from maps n ram)
cells_left maps left n [] fewer = refl
cells_left maps left n (bytes ∷ ram) fewer = by_tests (is_covered left n) refl (is_covered maps n) refl (cells_left maps left (n + 1) ram fewer)
  where
    by_tests : (t : Bool) → is_covered left n ≡ t → (u : Bool) → is_covered maps n ≡ u →
        cells_from left (n + 1) ram ≡ filter (λ c. is_covered left c.frame) (cells_from maps (n + 1) ram) →
        (if t then record { frame = n; contents = bytes } ∷ cells_from left (n + 1) ram else cells_from left (n + 1) ram)
        ≡ filter (λ c. is_covered left c.frame) (if u then record { frame = n; contents = bytes } ∷ cells_from maps (n + 1) ram else cells_from maps (n + 1) ram)
    by_tests true is true was rest = rw is (ap (λ (cs : List Cell). record { frame = n; contents = bytes } ∷ cs) rest)
    by_tests true is false was rest = let covered = fewer n is in absurd (cc)
    by_tests false is true was rest = rw is rest
    by_tests false is false was rest = rest

-- WHAT A DERIVATION THAT GOES LEAVES OF THEM

-- each derivation of its space is the leaf, or shares no page with it
one_or_apart : (pd : ℕ) (f : Delegations) (leaf d : Derivation) → IsForest f → IsIn f.list leaf → is_memory_of pd leaf ≡ true → IsIn f.list d → is_memory_of pd d ≡ true →
    (d ≡ leaf) ⊎ MapsApart (map_of leaf) (map_of d)
one_or_apart pd f leaf d forest there is i of_ = by_pair (pairs_at SameSpaceApart f.list leaf d forest.apart there i)
  where
    turned : MapsApart (map_of d) (map_of leaf) → MapsApart (map_of leaf) (map_of d)
    turned (inl h) = inr h
    turned (inr h) = inl h

    by_pair : (leaf ≡ d) ⊎ (SameSpaceApart leaf d ⊎ SameSpaceApart d leaf) → (d ≡ leaf) ⊎ MapsApart (map_of leaf) (map_of d)
    by_pair (inl same) = inl (sym same)
    by_pair (inr (inl apart)) = inr (apart_maps_of leaf d (apart (grind arith) (same_kind leaf.kind d.kind (grind arith) (grind arith))))
    by_pair (inr (inr apart)) = inr (turned (apart_maps_of d leaf (apart (grind arith) (same_kind d.kind leaf.kind (grind arith) (grind arith)))))

agrees : (pd : ℕ) (f : Delegations) (leaf : Derivation) → IsForest f → IsIn f.list leaf → is_memory_of pd leaf ≡ true → AllByRecursion (Agrees pd leaf.id leaf.base leaf.order) f.list
agrees pd f leaf forest there is =
    all_from (Agrees pd leaf.id leaf.base leaf.order) f.list (λ d i of_. by_one d i (one_or_apart pd f leaf d forest there is i of_))
  where
    other : (d : Derivation) → d.id ≢ leaf.id → leaf.base ≢ d.base → is_map leaf.base leaf.order (map_of d) ≡ (d.id == leaf.id)
    other d ne apart = grind arith

    by_one : (d : Derivation) → IsIn f.list d → (d ≡ leaf) ⊎ MapsApart (map_of leaf) (map_of d) → is_map leaf.base leaf.order (map_of d) ≡ (d.id == leaf.id)
    by_one d i (inl same) = subst (λ (e : Derivation). is_map leaf.base leaf.order (map_of e) ≡ (e.id == leaf.id)) (sym same) (grind arith)
    by_one d i (inr apart) =
        let ne : d.base ≢ leaf.base = bases_apart (map_of leaf) (map_of d) apart in
        other d (λ e. ne (ap (λ (x : Derivation). x.base) (same_id f.list d leaf forest.rising i there e))) (λ e. ne (sym e))

pub maps_taken : (pd : ℕ) (f : Delegations) (leaf : Derivation) → IsForest f → IsIn f.list leaf → is_memory_of pd leaf ≡ true →
    maps_of pd (without f leaf.id).list ≡ filter (λ m. not (is_map leaf.base leaf.order m)) (maps_of pd f.list)
maps_taken pd f leaf forest there is = maps_left pd leaf.id leaf.base leaf.order f.list forest.apart (agrees pd f leaf forest there is)

pub maps_untaken : (pd : ℕ) (f : Delegations) (leaf : Derivation) → IsForest f → IsIn f.list leaf → is_memory_of pd leaf ≡ false →
    maps_of pd (without f leaf.id).list ≡ maps_of pd f.list
maps_untaken pd f leaf forest there not_ = maps_stay pd leaf.id f.list
    (all_from (λ d. (d.id == leaf.id) ≡ true → is_memory_of pd d ≡ false) f.list
    (λ d i same. ap (is_memory_of pd) (same_id f.list d leaf forest.rising i there (grind arith)) ∙ not_))

pub has_taken : (pd : ℕ) (f : Delegations) (leaf : Derivation) → IsForest f → IsIn f.list leaf → is_memory_of pd leaf ≡ true →
    list_any (is_map leaf.base leaf.order) (maps_of pd f.list) ≡ true
has_taken pd f leaf forest there is = has_map pd leaf f.list is forest.apart there

-- of its pages none is left
abbrev IsOff : ℕ → ℕ → Map → Type 0
IsOff base order m = is_map base order m ≡ false → overlaps base order m ≡ false

maps_all : (P : Map → Type 0) (pd : ℕ) (list : List Derivation) → AllByRecursion (λ d. is_memory_of pd d ≡ true → P (map_of d)) list → AllByRecursion P (maps_of pd list)
maps_all P pd [] all = tt
maps_all P pd (x ∷ xs) all = elim (cases_Bool (is_memory_of pd x)) [
  | inl of_ ↦ rw (maps_more pd x xs of_) (all_placed P base_of (map_of x) (maps_of pd xs) (all.0 of_) (maps_all P pd xs all.1))
  | inr not_ ↦ rw (maps_same pd x xs not_) (maps_all P pd xs all.1)
]

none_left : (base order : ℕ) (maps : List Map) → AllByRecursion (IsOff base order) maps → list_any (overlaps base order) (filter (λ m. not (is_map base order m)) maps) ≡ false
none_left base order [] all = refl
none_left base order (m ∷ maps) all = by_test (is_map base order m) all.0 (none_left base order maps all.1)
  where
    by_test : (t : Bool) → (t ≡ false → overlaps base order m ≡ false) → list_any (overlaps base order) (filter (λ n. not (is_map base order n)) maps) ≡ false →
        list_any (overlaps base order) (if not t then m ∷ filter (λ n. not (is_map base order n)) maps else filter (λ n. not (is_map base order n)) maps) ≡ false
    by_test true off rest = rest
    by_test false off rest = rw (off refl) rest

pub pages_taken : (pd : ℕ) (f : Delegations) (leaf : Derivation) → IsForest f → IsIn f.list leaf → is_memory_of pd leaf ≡ true →
    list_any (overlaps leaf.base leaf.order) (filter (λ m. not (is_map leaf.base leaf.order m)) (maps_of pd f.list)) ≡ false
pages_taken pd f leaf forest there is =
    none_left leaf.base leaf.order (maps_of pd f.list) (maps_all (IsOff leaf.base leaf.order) pd f.list
    (all_from (λ d. is_memory_of pd d ≡ true → IsOff leaf.base leaf.order (map_of d)) f.list (λ d i of_. by_one d (one_or_apart pd f leaf d forest there is i of_))))
  where
    own : is_map leaf.base leaf.order (map_of leaf) ≡ true
    own = grind arith

    by_one : (d : Derivation) → (d ≡ leaf) ⊎ MapsApart (map_of leaf) (map_of d) → IsOff leaf.base leaf.order (map_of d)
    by_one d (inl same) not_ = let is_it : is_map leaf.base leaf.order (map_of d) ≡ true = ap (λ (e : Derivation). is_map leaf.base leaf.order (map_of e)) same ∙ own in absurd (cc)
    by_one d (inr (inl h)) not_ = grind arith
    by_one d (inr (inr h)) not_ = grind arith

pub cells_taken : (p : Map → Bool) (maps : List Map) (ram : List (List ℕ)) → cells_of (filter p maps) ram ≡ filter (λ c. is_covered (filter p maps) c.frame) (cells_of maps ram)
cells_taken p maps ram = cells_left maps (filter p maps) 0 ram (λ f covered. any_left p (leads_to f) maps covered)
