-- Numbers in bytes of which some were replaced.
use Rattle.std.proofs.Common.{◌≡◌, ℕ, zero, suc, ◌+◌, ◌<◌, ◌≤◌, ◌⊎◌, ◌≢◌, ◌%◌, ◌^◌, List, ◌++◌, [], length, take, drop, set, get_or, slice_get, Some, refl, ap, ◌∙◌, inl, inr, arith}
use Rattle.std.proofs.Math.Nat.{div-one}
use Rattle.std.proofs.lemmas.List.{length-take-le, length-set, drop_at, get_or-drop, get_or-set_same, places}
use Rattle.std.proofs.lemmas.Bool.{cases_eq}
use Rattle.std.proofs.lemmas.Grind.{common_steps, elements}
use Rattle.std.proofs.lemmas.Option.{slice_get-get_or, gets}
use Rattle.byteorder.specs.Endian.{little_from, little_number, little_bytes}
use Rattle.byteorder.specs.Numbers.{little_from-bytes, length-bytes_low_first}
use Rattle.nova_model.specs.Memory.{Memory, read, written}
use Rattle.nova_guest.specs.Frames.{replaced}
use Rattle.nova_frames.specs.Store.{AreWhole, AreApart}

-- the number that was stored there
little_number-replaced_same : (bytes : List ℕ) (offset width value : ℕ) → offset + width ≤ length bytes
    → little_number width (drop offset (replaced bytes offset (little_bytes width value))) ≡ value % 256 ^ width
little_number-replaced_same bytes offset width value h =
    let front : length (take offset bytes) ≡ offset = length-take-le offset bytes (omega arith) in
    let new = little_bytes width value in
    rw (drop_at (take offset bytes) (new ++ drop (offset + length new) bytes) offset front)
    (little_from-bytes width 0 value (drop (offset + length new) bytes) ∙ ap (λ (y : ℕ). y % 256 ^ width) (div-one value))

-- a number goes by its bytes alone
little_from-same : (n i : ℕ) (xs ys : List ℕ) → ((k : ℕ) → i ≤ k → k < i + n → get_or xs k 0 ≡ get_or ys k 0)
    → little_from i n xs ≡ little_from i n ys
little_from-same zero i xs ys h = refl
little_from-same (suc n) i xs ys h =
    let byte = h i (omega arith) (omega arith) in
    let rest = little_from-same n (suc i) xs ys (λ k low high. h k (omega arith) (omega arith)) in
    rw (byte, rest) refl

get_or-replaced_other : (bytes new : List ℕ) (offset k : ℕ) → offset + length new ≤ length bytes → (k < offset) ⊎ (offset + length new ≤ k)
    → get_or (replaced bytes offset new) k 0 ≡ get_or bytes k 0
get_or-replaced_other bytes new offset k h apart = grind (arith, places)

-- a number that lies apart from what was stored
pub little_number-replaced_other : (bytes new : List ℕ) (offset o width : ℕ) → offset + length new ≤ length bytes
    → (o + width ≤ offset) ⊎ (offset + length new ≤ o)
    → little_number width (drop o (replaced bytes offset new)) ≡ little_number width (drop o bytes)
little_number-replaced_other bytes new offset o width h apart =
    little_from-same width 0 (drop o (replaced bytes offset new)) (drop o bytes)
    (λ k low high. rw (get_or-drop o (replaced bytes offset new) k 0, get_or-drop o bytes k 0)
    (get_or-replaced_other bytes new offset (o + k) h
    (elim apart [ inl before ↦ inl (omega arith) | inr after ↦ inr (omega arith) ])))

slice_get-set_same : (xs : List (List ℕ)) (i : ℕ) (x : List ℕ) → i < length xs → slice_get (set xs i x) i ≡ Some x
slice_get-set_same xs i x h =
    slice_get-get_or (set xs i x) i x (omega (arith, length-set xs i x)) ∙ ap Some (get_or-set_same xs i x x h)

slice_get-set_other : (xs : List (List ℕ)) (i j : ℕ) (x : List ℕ) → j ≢ i → slice_get (set xs i x) j ≡ slice_get xs j
slice_get-set_other xs i j x ne = grind (arith, common_steps, elements, gets)

-- a load gives what was stored at its place last
pub read-written_same : (m : Memory) (frame offset width value : ℕ) → AreWhole m.ram → frame < length m.ram → offset + width ≤ 4096
    → read (written m frame offset width value) frame offset width ≡ value % 256 ^ width
read-written_same m frame offset width value whole there within =
    let bytes = get_or m.ram frame [] in
    let found : slice_get m.ram frame ≡ Some bytes = slice_get-get_or m.ram frame [] there in
    let size : length bytes ≡ 4096 = whole frame [] there in
    rw found (rw (slice_get-set_same m.ram frame (replaced bytes offset (little_bytes width value)) there)
    (little_number-replaced_same bytes offset width value (omega arith)))

read-written_other_frame : (m : Memory) (frame offset width value f o w : ℕ) → frame < length m.ram → f ≢ frame
    → read (written m frame offset width value) f o w ≡ read m f o w
read-written_other_frame m frame offset width value f o w there ne =
    let bytes = get_or m.ram frame [] in
    let found : slice_get m.ram frame ≡ Some bytes = slice_get-get_or m.ram frame [] there in
    rw found (rw (slice_get-set_other m.ram frame f (replaced bytes offset (little_bytes width value)) ne) refl)

read-written_same_frame : (m : Memory) (frame offset width value o w : ℕ) → AreWhole m.ram → frame < length m.ram → offset + width ≤ 4096
    → (o + w ≤ offset) ⊎ (offset + width ≤ o) → read (written m frame offset width value) frame o w ≡ read m frame o w
read-written_same_frame m frame offset width value o w whole there within apart =
    let bytes = get_or m.ram frame [] in
    let new = little_bytes width value in
    let found : slice_get m.ram frame ≡ Some bytes = slice_get-get_or m.ram frame [] there in
    let size : length bytes ≡ 4096 = whole frame [] there in
    let count : length new ≡ width = length-bytes_low_first 0 width value in
    rw found (rw (slice_get-set_same m.ram frame (replaced bytes offset new) there)
    (little_number-replaced_other bytes new offset o w (omega arith)
    (elim apart [ inl before ↦ inl before | inr after ↦ inr (omega arith) ])))

-- a store leaves what lies apart from its place
pub read-written_other : (m : Memory) (frame offset width value f o w : ℕ) → AreWhole m.ram → frame < length m.ram → offset + width ≤ 4096
    → AreApart frame offset width f o w → read (written m frame offset width value) f o w ≡ read m f o w
read-written_other m frame offset width value f o w whole there within apart =
    elim apart [
      | inl ne ↦ read-written_other_frame m frame offset width value f o w there ne
      | inr places ↦ elim (cases_eq f frame) [
        | inl same ↦ rw same (read-written_same_frame m frame offset width value o w whole there within places)
        | inr ne ↦ read-written_other_frame m frame offset width value f o w there ne
      ]
    ]
