-- Two guests are compared map by map, register by register and input by input.
use Rattle.std.proofs.Common.{◌≡◌, ℕ, zero, suc, ◌+◌, ◌<◌, ◌≤◌, ◌≢◌, List, [], ◌∷◌, ◌++◌, length, drop, ap, sym, ◌∙◌, subst₂, refl, arith, slice_index_or}
use Rattle.std.specs.Prelude.{Bool, true, false, ◌&&◌, ◌^◌, ◌==◌, min, Option, Some, None, option_and_then, if◌then◌else◌}
use Rattle.std.proofs.lemmas.List.{length-drop}
use Rattle.std.proofs.lemmas.Bool.{and_parts, eqb-true}
use Rattle.nova_guest.specs.declared.guest.Guest.{Guest}
use Rattle.nova_guest.specs.declared.input.Input.{Input}
use Rattle.nova_guest.specs.declared.map.Map.{Map}
use Rattle.law_renaming.specs.Forced.{alike, alike_map, alike_maps, among, maps_pairs, paired, same_flag, same_registers, same_state}
use Rattle.law_renaming.specs.Walks.{can_join, joined, walked}
use Rattle.law_renaming.specs.Verdicts.{Differ}

-- MAPS

-- pairs join one after another
pub joined_append : (u v : Guest) (met ps qs : List (ℕ × ℕ)) → joined u v met (ps ++ qs) ≡ option_and_then (λ m. joined u v m qs) (joined u v met ps)
joined_append u v met [] qs = refl
joined_append u v met (p ∷ ps) qs = by_tests (among met p.0 p.1) (can_join u v met p) (joined_append u v met ps qs) (joined_append u v (met ++ (p ∷ [])) ps qs)
  where
    by_tests : (t c : Bool) → joined u v met (ps ++ qs) ≡ option_and_then (λ m. joined u v m qs) (joined u v met ps) →
        joined u v (met ++ (p ∷ [])) (ps ++ qs) ≡ option_and_then (λ m. joined u v m qs) (joined u v (met ++ (p ∷ [])) ps) →
        (if t then joined u v met (ps ++ qs) else (if c then joined u v (met ++ (p ∷ [])) (ps ++ qs) else None))
        ≡ option_and_then (λ m. joined u v m qs) (if t then joined u v met ps else (if c then joined u v (met ++ (p ∷ [])) ps else None))
    by_tests true c here more = here
    by_tests false true here more = more
    by_tests false false here more = refl

maps_next : (ms ns : List Map) (i : ℕ) (d e : Map) → i < length ms → i < length ns →
    maps_pairs (drop i ms) (drop i ns)
    ≡ paired (2 ^ (slice_index_or ms i d).order) (slice_index_or ms i d).frame (slice_index_or ns i e).frame ++ maps_pairs (drop (suc i) ms) (drop (suc i) ns)
maps_next [] ns i d e h g = absurd (omega (arith, h))
maps_next (m ∷ ms) [] i d e h g = absurd (omega (arith, g))
maps_next (m ∷ ms) (n ∷ ns) zero d e h g = refl
maps_next (m ∷ ms) (n ∷ ns) (suc i) d e h g = maps_next ms ns i d e (omega (arith, h)) (omega (arith, g))

map_joins : (u v : Guest) (met : List (ℕ × ℕ)) (ms ns : List Map) (i : ℕ) (d e : Map) → i < length ms → i < length ns →
    joined u v met (maps_pairs (drop i ms) (drop i ns))
    ≡ option_and_then (λ m. joined u v m (maps_pairs (drop (i + 1) ms) (drop (i + 1) ns)))
    (joined u v met (paired (2 ^ (slice_index_or ms i d).order) (slice_index_or ms i d).frame (slice_index_or ns i e).frame))
map_joins u v met ms ns i d e h g =
    let next : suc i ≡ i + 1 = omega arith in
    ap (joined u v met) (maps_next ms ns i d e h g ∙ ap (λ (n : ℕ). paired (2 ^ (slice_index_or ms i d).order) (slice_index_or ms i d).frame (slice_index_or ns i e).frame ++ maps_pairs (drop n ms) (drop n ns)) next)
    ∙ joined_append u v met _ _

-- what a map and its partner, which are met next, make of the pairs
module _ (u v : Guest) (met new : List (ℕ × ℕ)) (ms ns us vs : List Map) (i : ℕ) (d e : Map) (first : ms ≡ us) (second : ns ≡ vs) (less : i < min (length ms) (length ns))
    (can : Bool) (met_now : joined u v met (paired (2 ^ (slice_index_or ms i d).order) (slice_index_or ms i d).frame (slice_index_or ns i e).frame) ≡ (if can then Some new else None)) where
  abbrev Rest : List Map → List Map → List (ℕ × ℕ) → Option (List (ℕ × ℕ))
  Rest xs ys m = joined u v m (maps_pairs (drop (i + 1) xs) (drop (i + 1) ys))

  joins_so : (all : Option (List (ℕ × ℕ))) → joined u v met (maps_pairs (drop i us) (drop i vs)) ≡ all → option_and_then (Rest us vs) (if can then Some new else None) ≡ all
  joins_so all was =
      subst₂ (λ (xs ys : List Map). option_and_then (Rest xs ys) (if can then Some new else None) ≡ joined u v met (maps_pairs (drop i xs) (drop i ys))) first second
      (sym (map_joins u v met ms ns i d e (grind (arith, less)) (grind (arith, less)) ∙ ap (option_and_then (Rest ms ns)) met_now)) ∙ was

  pub map_fails : (all : Option (List (ℕ × ℕ))) → joined u v met (maps_pairs (drop i us) (drop i vs)) ≡ all → can ≡ false → all ≡ None
  map_fails all was cannot = sym (joins_so all was) ∙ ap (λ (t : Bool). option_and_then (Rest us vs) (if t then Some new else None)) cannot

  pub map_goes_on : (all : Option (List (ℕ × ℕ))) → joined u v met (maps_pairs (drop i us) (drop i vs)) ≡ all → can ≡ true → Rest us vs new ≡ all
  map_goes_on all was goes = ap (λ (t : Bool). option_and_then (Rest us vs) (if t then Some new else None)) (sym goes) ∙ joins_so all was

-- where no map or no partner is left
maps_end : (p q : List Map) → min (length p) (length q) ≡ 0 → maps_pairs p q ≡ []
maps_end [] [] h = refl
maps_end [] (n ∷ q) h = refl
maps_end (m ∷ p) [] h = refl
maps_end (m ∷ p) (n ∷ q) h = absurd (omega (arith, h))

pub maps_joined : (u v : Guest) (met : List (ℕ × ℕ)) (us vs : List Map) (i : ℕ) (all : Option (List (ℕ × ℕ))) → min (length us) (length vs) ≤ i →
    joined u v met (maps_pairs (drop i us) (drop i vs)) ≡ all → all ≡ Some met
maps_joined u v met us vs i all past was =
    let first = length-drop i us in
    let second = length-drop i vs in
    sym was ∙ ap (joined u v met) (maps_end (drop i us) (drop i vs) (grind (arith, past, first, second)))

-- a map and its partner have as many frames
pub partners : (ms ns : List Map) (i : ℕ) (d e : Map) → alike_maps ms ns ≡ true → i < length ms → i < length ns → (slice_index_or ns i e).order ≡ (slice_index_or ms i d).order
partners [] ns i d e same h g = absurd (omega (arith, h))
partners (m ∷ ms) [] i d e same h g = absurd (omega (arith, g))
partners (m ∷ ms) (n ∷ ns) zero d e same h g =
    let one = and_parts (alike_map m n) (alike_maps ms ns) same in
    let two = and_parts (m.base == n.base) ((m.order == n.order) && (m.rights.0 == n.rights.0)) one.0 in
    sym (eqb-true m.order n.order (and_parts (m.order == n.order) (m.rights.0 == n.rights.0) two.1).0)
partners (m ∷ ms) (n ∷ ns) (suc i) d e same h g = partners ms ns i d e (and_parts (alike_map m n) (alike_maps ms ns) same).1 (omega (arith, h)) (omega (arith, g))

-- THE END: where one side has no more inputs and the other has, they differ
ends_unlike : (u v : Guest) (met : List (ℕ × ℕ)) (n : ℕ) (p q : List Input) → min (length p) (length q) ≡ 0 → length p ≢ length q → walked u v (Some met) n p q ≡ Differ n
ends_unlike u v met n [] [] least many = absurd (many refl)
ends_unlike u v met n [] (j ∷ q) least many = refl
ends_unlike u v met n (i ∷ p) [] least many = refl
ends_unlike u v met n (i ∷ p) (j ∷ q) least many = absurd (omega (arith, least))

pub differ_at_end : (u v : Guest) (met : List (ℕ × ℕ)) (n : ℕ) (is js : List Input) → n ≡ min (length is) (length js) → length is ≢ length js →
    walked u v (Some met) n (drop n is) (drop n js) ≡ Differ n
differ_at_end u v met n is js least many =
    let first = length-drop n is in
    let second = length-drop n js in
    ends_unlike u v met n (drop n is) (drop n js) (grind (arith, least, first, second)) (λ same. many (omega (arith, least, first, second, same)))

-- guests that are alike have maps that are
pub maps_alike : (u v : Guest) → alike u v ≡ true → alike_maps u.maps v.maps ≡ true
maps_alike u v same =
    let one = and_parts (same_registers u.regs v.regs) _ same in
    let two = and_parts (same_state u.state v.state) _ one.1 in
    (and_parts (same_flag u.recall v.recall) (alike_maps u.maps v.maps) two.1).1
