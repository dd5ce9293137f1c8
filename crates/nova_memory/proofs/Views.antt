-- The view of a virtual CPU: maps by rising base, and the cells of the frames that they lead to.
use Rattle.std.proofs.Common.{◌≡◌, ◌∙◌, refl, sym, ap, subst, ℕ, ◌+◌, ◌^◌, ◌<◌, ◌≤◌, List, [], ◌∷◌, ◌++◌, drop, length, inl, inr, arith}
use Rattle.std.specs.Prelude.{Bool, true, false, ◌⊎◌, ◌==◌, ◌&&◌, nat_lt, nat_le, filter, if◌then◌else◌, Some, None, slice_get}
use Rattle.std.specs.List.{filter_map, list_all}
use Rattle.std.proofs.lemmas.Bool.{and_from, and_parts, eqb-true}
use Rattle.std.proofs.lemmas.List.{append_assoc, append-nil, drop_more}
use Rattle.std.proofs.lemmas.Nat.{pow_pos}
use Rattle.std.proofs.lemmas.Option.{get_or_from_slice_get, slice_get_within}
use Rattle.nova_guest.specs.Keyed.{placed, placed_all}
use Rattle.nova_guest.specs.Maps.{base_of, is_covered}
use Rattle.nova_guest.specs.declared.cell.Cell.{Cell}
use Rattle.nova_guest.specs.declared.map.Map.{Map}
use Rattle.nova_range.specs.declared.range.Kind.{Kind}
use Rattle.nova_range.specs.declared.range.Kind.TheVariants.{Mem, Obj}
use Rattle.nova_model.specs.Delegations.{Delegations, first_from, has_place, holds_from, is_memory, least_by, range_of}
use Rattle.nova_model.specs.Delegations as derivation
use Rattle.nova_model.specs.Forest.{ArePairs, IsForest}
use Rattle.nova_model.specs.Views.{cells_from, is_memory_of, map_in, map_of, maps_of}
use Rattle.nova_model.specs.declared.delegation.Derivation.{Derivation}
use Rattle.law_forest.proofs.Members.{IsIn, all_at, all_from, filtered_in, found_in, in_filtered}
use Rattle.nova_nodes.proofs.Found.{all_true as all_passing, not_found, true_at as all_pass}
use Rattle.nova_nodes.proofs.Indexed.{meeting}
use Rattle.nova_nodes.proofs.Sorted.{filter_all, filter_none}

-- LISTS

-- a test after another that it implies
filter_twice : {T : Type 0} (p q : T → Bool) (xs : List T) → ((x : T) → q x ≡ true → p x ≡ true) → filter q (filter p xs) ≡ filter q xs
filter_twice p q [] h = refl
filter_twice p q (x ∷ xs) h = by_test (p x) refl (filter_twice p q xs h)
  where
    fails : p x ≡ false → (t : Bool) → q x ≡ t → t ≡ false
    fails no_pass false is = refl
    fails no_pass true is = let passes = h x is in absurd (cc)

    by_test : (t : Bool) → p x ≡ t → filter q (filter p xs) ≡ filter q xs → filter q (if t then x ∷ filter p xs else filter p xs) ≡ filter q (x ∷ xs)
    by_test true is rest = ap (λ l. if q x then x ∷ l else l) rest
    by_test false is rest = let fail = fails is (q x) refl in rw fail rest

-- RISING KEYS

abbrev IsRising : {T : Type 0} → (T → ℕ) → List T → Type 0
IsRising key xs = ArePairs (λ a b. key a < key b) xs

placed_in : {T : Type 0} (key : T → ℕ) (x : T) (xs : List T) (y : T) → IsIn (placed key x xs) y → (x ≡ y) ⊎ IsIn xs y
placed_in key x [] y (inl e) = inl e
placed_in key x [] y (inr i) = absurd i
placed_in key x (z ∷ zs) y i = by_tests (nat_lt (key x) (key z)) (key x == key z) (λ j. placed_in key x zs y j) i
  where
    later : (x ≡ y) ⊎ IsIn zs y → (x ≡ y) ⊎ IsIn (z ∷ zs) y
    later (inl e) = inl e
    later (inr j) = inr (inr j)

    by_tests : (less equal : Bool) → (IsIn (placed key x zs) y → (x ≡ y) ⊎ IsIn zs y) →
        IsIn (if less then x ∷ (z ∷ zs) else (if equal then z ∷ zs else z ∷ placed key x zs)) y → (x ≡ y) ⊎ IsIn (z ∷ zs) y
    by_tests true equal rest (inl e) = inl e
    by_tests true equal rest (inr j) = inr j
    by_tests false true rest j = inr j
    by_tests false false rest (inl e) = inr (inl e)
    by_tests false false rest (inr j) = later (rest j)

placed_all_in : {T : Type 0} (key : T → ℕ) (xs : List T) (y : T) → IsIn (placed_all key xs []) y → IsIn xs y
placed_all_in key [] y i = absurd i
placed_all_in key (x ∷ xs) y i = by_place (λ j. placed_all_in key xs y j) (placed_in key x (placed_all key xs []) y i)
  where
    by_place : (IsIn (placed_all key xs []) y → IsIn xs y) → (x ≡ y) ⊎ IsIn (placed_all key xs []) y → IsIn (x ∷ xs) y
    by_place rest (inl e) = inl e
    by_place rest (inr j) = inr (rest j)

-- what is there stays, and a key that is put in is there
record HasKey {T : Type 0} (key : T → ℕ) (xs : List T) (n : ℕ) : Type 0 where
  pub of : T
  pub there : IsIn xs of
  pub same : key of ≡ n

key_later : {T : Type 0} (key : T → ℕ) (x : T) (xs : List T) (n : ℕ) → HasKey key xs n → HasKey key (x ∷ xs) n
key_later key x xs n h = record { of = h.of; there = inr h.there; same = h.same }

key_stays : {T : Type 0} (key : T → ℕ) (x : T) (xs : List T) (y : T) → IsIn xs y → IsIn (placed key x xs) y
key_stays key x [] y i = absurd i
key_stays key x (z ∷ zs) y i = by_tests (nat_lt (key x) (key z)) (key x == key z) (λ j. key_stays key x zs y j) i
  where
    by_tests : (less equal : Bool) → (IsIn zs y → IsIn (placed key x zs) y) → IsIn (z ∷ zs) y → IsIn (if less then x ∷ (z ∷ zs) else (if equal then z ∷ zs else z ∷ placed key x zs)) y
    by_tests true equal rest j = inr j
    by_tests false true rest j = j
    by_tests false false rest (inl e) = inl e
    by_tests false false rest (inr j) = inr (rest j)

key_there : {T : Type 0} (key : T → ℕ) (x : T) (xs : List T) → HasKey key (placed key x xs) (key x)
key_there key x [] = record { of = x; there = inl refl; same = refl }
key_there key x (z ∷ zs) = by_tests (nat_lt (key x) (key z)) (key x == key z) refl (key_there key x zs)
  where
    by_tests : (less equal : Bool) → key x == key z ≡ equal → HasKey key (placed key x zs) (key x) →
        HasKey key (if less then x ∷ (z ∷ zs) else (if equal then z ∷ zs else z ∷ placed key x zs)) (key x)
    by_tests true equal is rest = record { of = x; there = inl refl; same = refl }
    by_tests false true is rest = record { of = z; there = inl refl; same = sym (eqb-true (key x) (key z) is) }
    by_tests false false is rest = key_later key z (placed key x zs) (key x) rest

keys_there : {T : Type 0} (key : T → ℕ) (xs : List T) (y : T) → IsIn xs y → HasKey key (placed_all key xs []) (key y)
keys_there key [] y i = absurd i
keys_there key (x ∷ xs) y (inl e) = subst (λ z. HasKey key (placed_all key (x ∷ xs) []) (key z)) e (key_there key x (placed_all key xs []))
keys_there key (x ∷ xs) y (inr i) =
    let h = keys_there key xs y i in
    record { of = h.of; there = key_stays key x (placed_all key xs []) h.of h.there; same = h.same }

-- lists by rising key stay so

rising_placed : {T : Type 0} (key : T → ℕ) (x : T) (xs : List T) → IsRising key xs → IsRising key (placed key x xs)
rising_placed {T} key x [] rising = (tt, tt)
rising_placed {T} key x (y ∷ ys) rising = by_tests (nat_lt (key x) (key y)) refl (key x == key y) refl (rising_placed key x ys rising.1)
  where
    above : (z : T) → IsIn (placed key x ys) z → key y < key x → key y < key z
    above z i low = by_place (placed_in key x ys z i)
      where
        by_place : (x ≡ z) ⊎ IsIn ys z → key y < key z
        by_place (inl e) = subst (λ w. key y < key w) e low
        by_place (inr j) = all_at (λ w. key y < key w) ys z rising.0 j

    by_tests : (less : Bool) → nat_lt (key x) (key y) ≡ less → (equal : Bool) → key x == key y ≡ equal → IsRising key (placed key x ys) →
        IsRising key (if less then x ∷ (y ∷ ys) else (if equal then y ∷ ys else y ∷ placed key x ys))
    by_tests true is equal same rest =
        let low : key x < key y = grind arith in
        ((low, all_from (λ z. key x < key z) ys (λ z i. let more = all_at (λ w. key y < key w) ys z rising.0 i in omega arith)), rising)
    by_tests false is true same rest = rising
    by_tests false is false same rest = (all_from (λ z. key y < key z) (placed key x ys) (λ z i. above z i (grind arith)), rest)

rising_placed_all : {T : Type 0} (key : T → ℕ) (xs : List T) → IsRising key (placed_all key xs [])
rising_placed_all key [] = tt
rising_placed_all key (x ∷ xs) = rising_placed key x (placed_all key xs []) (rising_placed_all key xs)

rising_filter : {T : Type 0} (key : T → ℕ) (p : T → Bool) (xs : List T) → IsRising key xs → IsRising key (filter p xs)
rising_filter key p [] rising = tt
rising_filter key p (x ∷ xs) rising = by_test (p x) (rising_filter key p xs rising.1)
  where
    by_test : (t : Bool) → IsRising key (filter p xs) → IsRising key (if t then x ∷ filter p xs else filter p xs)
    by_test true rest = (all_from (λ z. key x < key z) (filter p xs) (λ z i. all_at (λ w. key x < key w) xs z rising.0 (filtered_in p xs z i).0), rest)
    by_test false rest = rest

-- one of least key stands first, and what follows is of greater keys
record IsFirst {T : Type 0} (key : T → ℕ) (xs : List T) (x : T) : Type 0 where
  pub rest : List T
  pub split : xs ≡ x ∷ rest
  pub greater : (y : T) → IsIn rest y → key x < key y

rising_first : {T : Type 0} (key : T → ℕ) (xs : List T) (x : T) → IsRising key xs → IsIn xs x → ((y : T) → IsIn xs y → key x ≤ key y) → IsFirst key xs x
rising_first key [] x rising i least = absurd i
rising_first key (y ∷ ys) x rising (inl e) least = record {
  rest = ys;
  split = ap (λ z. z ∷ ys) e;
  greater = λ z j. subst (λ w. key w < key z) e (all_at (λ w. key y < key w) ys z rising.0 j);
}
rising_first key (y ∷ ys) x rising (inr i) least =
    let low = least y (inl refl) in
    let high = all_at (λ w. key y < key w) ys x rising.0 i in
    absurd (omega arith)

-- MAPS

-- a map is that of a derivation of the domain's memory
record IsMapOf (pd : ℕ) (list : List Derivation) (m : Map) : Type 0 where
  pub of : Derivation
  pub there : IsIn list of
  pub memory : is_memory_of pd of ≡ true
  pub is : map_of of ≡ m

mapped_in : (pd : ℕ) (list : List Derivation) (m : Map) → IsIn (filter_map (map_in pd) list) m → IsMapOf pd list m
mapped_in pd [] m i = absurd i
mapped_in pd (d ∷ ds) m i = by_test (is_memory_of pd d) refl (λ j. mapped_in pd ds m j) i
  where
    later : IsMapOf pd ds m → IsMapOf pd (d ∷ ds) m
    later h = record { of = h.of; there = inr h.there; memory = h.memory; is = h.is }

    by_test : (t : Bool) → is_memory_of pd d ≡ t → (IsIn (filter_map (map_in pd) ds) m → IsMapOf pd ds m) → IsIn (filter_map (map_in pd) (d ∷ ds)) m → IsMapOf pd (d ∷ ds) m
    by_test true is rest j = by_place (let k : IsIn (map_of d ∷ filter_map (map_in pd) ds) m = rw is at j in k)
      where
        by_place : (map_of d ≡ m) ⊎ IsIn (filter_map (map_in pd) ds) m → IsMapOf pd (d ∷ ds) m
        by_place (inl e) = record { of = d; there = inl refl; memory = is; is = e }
        by_place (inr k) = later (rest k)
    by_test false is rest j = later (rest (let k : IsIn (filter_map (map_in pd) ds) m = rw is at j in k))

in_mapped : (pd : ℕ) (list : List Derivation) (d : Derivation) → IsIn list d → is_memory_of pd d ≡ true → IsIn (filter_map (map_in pd) list) (map_of d)
in_mapped pd [] d i is = absurd i
in_mapped pd (a ∷ ds) d (inl e) is = let first : is_memory_of pd a ≡ true = ap (is_memory_of pd) e ∙ is in rw first (inl (ap map_of e))
in_mapped pd (a ∷ ds) d (inr i) is = by_test (is_memory_of pd a) refl (in_mapped pd ds d i is)
  where
    by_test : (t : Bool) → is_memory_of pd a ≡ t → IsIn (filter_map (map_in pd) ds) (map_of d) → IsIn (filter_map (map_in pd) (a ∷ ds)) (map_of d)
    by_test true first rest = rw first (inr rest)
    by_test false first rest = rw first rest

map_from : (pd : ℕ) (list : List Derivation) (m : Map) → IsIn (maps_of pd list) m → IsMapOf pd list m
map_from pd list m i = mapped_in pd list m (placed_all_in base_of (filter_map (map_in pd) list) m i)

memory_kind : (k : Kind) → is_memory k ≡ true → k ≡ Mem
memory_kind Mem h = refl
memory_kind Obj h = absurd (cc)

-- the kind and the domain
in_memory : (pd : ℕ) (d : Derivation) → is_memory_of pd d ≡ true → (d.kind ≡ Mem) × (d.pd ≡ pd)
in_memory pd d h = let parts = and_parts (is_memory d.kind) (d.pd == pd) h in (memory_kind d.kind parts.0, eqb-true d.pd pd parts.1)

-- two that have one place are the same
same_place : (f : Delegations) (pd : ℕ) (a b : Derivation) (place : ℕ) → IsForest f → IsIn f.list a → IsIn f.list b → is_memory_of pd a ≡ true → is_memory_of pd b ≡ true →
    has_place (range_of a) place ≡ true → has_place (range_of b) place ≡ true → a ≡ b
same_place f pd a b place forest i j first second h k =
    let p = in_memory pd a first in
    let q = in_memory pd b second in
    meeting f a b place forest i j (p.1 ∙ sym q.1) (p.0 ∙ sym q.0) h k

map_there : (f : Delegations) (pd : ℕ) (d : Derivation) → IsForest f → IsIn f.list d → is_memory_of pd d ≡ true → IsIn (maps_of pd f.list) (map_of d)
map_there f pd d forest i is =
    let key = keys_there base_of (filter_map (map_in pd) f.list) (map_of d) (in_mapped pd f.list d i is) in
    let m = map_from pd f.list key.of key.there in
    let base : m.of.base ≡ d.base = ap base_of m.is ∙ key.same in
    let more = pow_pos m.of.order in
    let some = pow_pos d.order in
    let had : has_place (range_of m.of) d.base ≡ true = grind (arith, more, base) in
    let has : has_place (range_of d) d.base ≡ true = grind (arith, some) in
    let one : m.of ≡ d = same_place f pd m.of d d.base forest m.there i m.memory is had has in
    let it : key.of ≡ map_of d = sym m.is ∙ ap map_of one in
    subst (IsIn (maps_of pd f.list)) it key.there

-- the map holds some page from a place on
abbrev pub ends_after : ℕ → Map → Bool
ends_after place m = nat_lt place (m.base + 2 ^ m.order)

pub all_after_0 : (maps : List Map) → filter (ends_after 0) maps ≡ maps
all_after_0 maps = filter_all (ends_after 0) maps (all_from (λ m. ends_after 0 m ≡ true) maps (λ m i. let some = pow_pos m.order in grind (arith, some)))

-- the derivation that is found from a place on
pub record IsLeast (pd place : ℕ) (list : List Derivation) (d : Derivation) : Type 0 where
  pub there : IsIn list d
  pub memory : is_memory_of pd d ≡ true
  pub after : place < d.base + 2 ^ d.order
  pub least : (b : Derivation) → IsIn list b → is_memory_of pd b ≡ true → place < b.base + 2 ^ b.order → d.base ≤ b.base

holds : (pd place : ℕ) (d : Derivation) → is_memory_of pd d ≡ true → place < d.base + 2 ^ d.order → holds_from Mem pd place d ≡ true
holds pd place d is low =
    let parts = and_parts (is_memory d.kind) (d.pd == pd) is in
    and_from (is_memory d.kind) ((d.pd == pd) && nat_lt place (d.base + 2 ^ d.order)) parts.0
    (and_from (d.pd == pd) (nat_lt place (d.base + 2 ^ d.order)) parts.1 (grind arith))

held : (pd place : ℕ) (d : Derivation) → holds_from Mem pd place d ≡ true → (is_memory_of pd d ≡ true) × (place < d.base + 2 ^ d.order)
held pd place d h =
    let a = and_parts (is_memory d.kind) ((d.pd == pd) && nat_lt place (d.base + 2 ^ d.order)) h in
    let b = and_parts (d.pd == pd) (nat_lt place (d.base + 2 ^ d.order)) a.1 in
    let low = b.1 in
    (and_from (is_memory d.kind) (d.pd == pd) a.0 b.0, grind (arith, low))

pub least_from : (pd place : ℕ) (list : List Derivation) (d : Derivation) → first_from list Mem pd place ≡ Some d → IsLeast pd place list d
least_from pd place list d found =
    let ds = filter (holds_from Mem pd place) list in
    let k = found_in (λ (a : Derivation). list_all (λ (b : Derivation). nat_le a.base b.base) ds) ds d found in
    let i = filtered_in (holds_from Mem pd place) list d k.0 in
    let h = held pd place d i.1 in
    record {
      there = i.0;
      memory = h.0;
      after = h.1;
      least = λ b j is low.
          let passes = all_pass (λ (c : Derivation). nat_le d.base c.base) ds b k.1 (in_filtered (holds_from Mem pd place) list b j (holds pd place b is low)) in
          grind (arith, passes);
    }

-- the next map, and those after it
pub next_map : (f : Delegations) (pd place : ℕ) (d : Derivation) → IsForest f → first_from f.list Mem pd place ≡ Some d →
    filter (ends_after place) (maps_of pd f.list) ≡ map_of d ∷ filter (ends_after (d.base + 2 ^ d.order)) (maps_of pd f.list)
next_map f pd place d forest found =
    first.split ∙ ap (λ (l : List Map). map_of d ∷ l) (sym after)
  where
    maps : List Map
    maps = maps_of pd f.list

    is : IsLeast pd place f.list d
    is = least_from pd place f.list d found

    low : (m : Map) → IsIn (filter (ends_after place) maps) m → d.base ≤ m.base
    low m i =
        let j = filtered_in (ends_after place) maps m i in
        let of = map_from pd f.list m j.0 in
        let ends : ends_after place (map_of of.of) ≡ true = ap (ends_after place) of.is ∙ j.1 in
        let least = is.least of.of of.there of.memory (grind (arith, ends)) in
        subst (λ (n : Map). d.base ≤ n.base) of.is least

    first : IsFirst base_of (filter (ends_after place) maps) (map_of d)
    first = rising_first base_of (filter (ends_after place) maps) (map_of d) (rising_filter base_of (ends_after place) maps (rising_placed_all base_of (filter_map (map_in pd) f.list)))
        (in_filtered (ends_after place) maps (map_of d) (map_there f pd d forest is.there is.memory) (let h = is.after in grind (arith, h))) low

    later : (m : Map) → IsIn first.rest m → ends_after (d.base + 2 ^ d.order) m ≡ true
    later m i =
        let above = first.greater m i in
        let j : IsIn (filter (ends_after place) maps) m = subst (λ (l : List Map). IsIn l m) (sym first.split) (inr i) in
        let k = filtered_in (ends_after place) maps m j in
        let of = map_from pd f.list m k.0 in
        let base : of.of.base ≡ m.base = ap base_of of.is in
        let some = pow_pos m.order in
        by_side of base (nat_lt m.base (d.base + 2 ^ d.order)) refl above some
      where
        by_side : (of : IsMapOf pd f.list m) → of.of.base ≡ m.base → (t : Bool) → nat_lt m.base (d.base + 2 ^ d.order) ≡ t → d.base < m.base → 0 < 2 ^ m.order → ends_after (d.base + 2 ^ d.order) m ≡ true
        by_side of base false side above some = grind (arith, side, some)
        by_side of base true side above some =
            let more = pow_pos of.of.order in
            let has : has_place (range_of d) of.of.base ≡ true = grind (arith, side, base, above) in
            let had : has_place (range_of of.of) of.of.base ≡ true = grind (arith, more) in
            let one : d ≡ of.of = same_place f pd d of.of of.of.base forest is.there of.there is.memory of.memory has had in
            let same : d.base ≡ of.of.base = ap (λ (x : Derivation). x.base) one in
            absurd (omega arith)

    passes : (m : Map) → ends_after (d.base + 2 ^ d.order) m ≡ true → ends_after place m ≡ true
    passes m h = let low = is.after in grind (arith, h, low)

    past : ends_after (d.base + 2 ^ d.order) (map_of d) ≡ false
    past = grind arith

    after : filter (ends_after (d.base + 2 ^ d.order)) maps ≡ first.rest
    after =
        let p = ends_after (d.base + 2 ^ d.order) in
        sym (filter_twice (ends_after place) p maps passes)
        ∙ ap (filter p) first.split
        ∙ ap (λ (t : Bool). if t then map_of d ∷ filter p first.rest else filter p first.rest) past
        ∙ filter_all p first.rest (all_from (λ m. p m ≡ true) first.rest later)

-- nothing is left where none is found

-- of some there is a least
record HasLeast (ds : List Derivation) : Type 0 where
  pub of : Derivation
  pub there : IsIn ds of
  pub least : (b : Derivation) → IsIn ds b → of.base ≤ b.base

has_least : (d : Derivation) (ds : List Derivation) → HasLeast (d ∷ ds)
has_least d [] = record { of = d; there = inl refl; least = λ b i. alone b i }
  where
    alone : (b : Derivation) → IsIn (d ∷ []) b → d.base ≤ b.base
    alone b (inl e) = let same : d.base ≡ b.base = ap (λ (x : Derivation). x.base) e in omega arith
    alone b (inr i) = absurd i
has_least d (e ∷ ds) = by_test (has_least e ds) (nat_le d.base (has_least e ds).of.base) refl
  where
    by_test : (h : HasLeast (e ∷ ds)) → (t : Bool) → nat_le d.base h.of.base ≡ t → HasLeast (d ∷ (e ∷ ds))
    by_test h true is = record { of = d; there = inl refl; least = λ b i. above b i }
      where
        above : (b : Derivation) → IsIn (d ∷ (e ∷ ds)) b → d.base ≤ b.base
        above b (inl same) = let base : d.base ≡ b.base = ap (λ (x : Derivation). x.base) same in omega arith
        above b (inr i) = let low = h.least b i in grind (arith, is, low)
    by_test h false is = record { of = h.of; there = inr h.there; least = λ b i. above b i }
      where
        above : (b : Derivation) → IsIn (d ∷ (e ∷ ds)) b → h.of.base ≤ b.base
        above b (inl same) = let base : d.base ≡ b.base = ap (λ (x : Derivation). x.base) same in grind (arith, is, base)
        above b (inr i) = h.least b i

least_none : (ds : List Derivation) → least_by derivation.base_of ds ≡ None → ds ≡ []
least_none [] h = refl
least_none (d ∷ ds) h =
    let it = has_least d ds in
    let a = it.of in
    let fails = not_found (λ (b : Derivation). list_all (λ (c : Derivation). nat_le b.base c.base) (d ∷ ds)) (d ∷ ds) a h it.there in
    let passes = all_passing (λ (c : Derivation). nat_le a.base c.base) (d ∷ ds) (λ c i. let low = it.least c i in grind (arith, low)) in
    absurd (cc)

pub no_map : (f : Delegations) (pd place : ℕ) → first_from f.list Mem pd place ≡ None → filter (ends_after place) (maps_of pd f.list) ≡ []
no_map f pd place none = filter_none (ends_after place) maps (all_from (λ m. ends_after place m ≡ false) maps (λ m i. fails m i (ends_after place m) refl))
  where
    maps : List Map
    maps = maps_of pd f.list

    fails : (m : Map) → IsIn maps m → (t : Bool) → ends_after place m ≡ t → t ≡ false
    fails m i false is = refl
    fails m i true is =
        let of = map_from pd f.list m i in
        let ends : ends_after place (map_of of.of) ≡ true = ap (ends_after place) of.is ∙ is in
        let there = in_filtered (holds_from Mem pd place) f.list of.of of.there (holds pd place of.of of.memory (grind (arith, ends))) in
        absurd (subst (λ (l : List Derivation). IsIn l of.of) (least_none (filter (holds_from Mem pd place) f.list) none) there)

-- CELLS

cells_at : (maps : List Map) (ram : List (List ℕ)) (n : ℕ) (bytes : List ℕ) → slice_get ram n ≡ Some bytes →
    cells_from maps n (drop n ram) ≡ cells_from maps n (bytes ∷ drop (n + 1) ram)
cells_at maps ram n bytes is =
    ap (cells_from maps n) (drop_more ram n [] (slice_get_within ram n bytes is) ∙ ap (λ (b : List ℕ). b ∷ drop (n + 1) ram) (get_or_from_slice_get ram n bytes [] is))

-- what is there already, and what comes of the frames that are left: one frame further, with a cell or without
module _ (maps : List Map) (ram : List (List ℕ)) (n : ℕ) (before all : List Cell) (left : before ++ cells_from maps n (drop n ram) ≡ all) where
  pub one_cell : (bytes : List ℕ) → slice_get ram n ≡ Some bytes → is_covered maps n ≡ true →
      (before ++ record { frame = n; contents = bytes } ∷ []) ++ cells_from maps (n + 1) (drop (n + 1) ram) ≡ all
  one_cell bytes is covered =
      let rest = cells_from maps (n + 1) (drop (n + 1) ram) in
      let cell : Cell = record { frame = n; contents = bytes } in
      append_assoc before (cell ∷ []) rest
      ∙ ap (λ cells. before ++ cells) (sym (ap (λ (t : Bool). if t then cell ∷ rest else rest) covered))
      ∙ ap (λ cells. before ++ cells) (sym (cells_at maps ram n bytes is)) ∙ left

  pub no_cell : n < length ram → is_covered maps n ≡ false → before ++ cells_from maps (n + 1) (drop (n + 1) ram) ≡ all
  no_cell low not_covered = ap (λ cells. before ++ cells) (sym same) ∙ left
    where
      rest : List Cell
      rest = cells_from maps (n + 1) (drop (n + 1) ram)

      same : cells_from maps n (drop n ram) ≡ rest
      same = ap (cells_from maps n) (drop_more ram n [] low) ∙ rw not_covered refl

-- MAPS, ONE BY ONE

module _ (f : Delegations) (pd place : ℕ) (forest : IsForest f) (before : List Map) (left : before ++ filter (ends_after place) (maps_of pd f.list) ≡ maps_of pd f.list) where
  pub one_map : (d : Derivation) → first_from f.list Mem pd place ≡ Some d →
      (before ++ map_of d ∷ []) ++ filter (ends_after (d.base + 2 ^ d.order)) (maps_of pd f.list) ≡ maps_of pd f.list
  one_map d found =
      append_assoc before (map_of d ∷ []) (filter (ends_after (d.base + 2 ^ d.order)) (maps_of pd f.list))
      ∙ ap (λ maps. before ++ maps) (sym (next_map f pd place d forest found)) ∙ left

  pub last_map : first_from f.list Mem pd place ≡ None → before ≡ maps_of pd f.list
  last_map none = sym (append-nil before) ∙ ap (λ maps. before ++ maps) (sym (no_map f pd place none)) ∙ left
