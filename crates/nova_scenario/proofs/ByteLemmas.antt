-- What the block of an executable writes are bytes.
use Rattle.std.proofs.Common.{◌≡◌, ℕ, ◌+◌, ◌-◌, ◌<◌, ◌≤◌, ◌⊎◌, List, [], ◌∷◌, ◌++◌, length, Option, Some, None, Result, Ok, Err, get_or, ap, sym, ◌∙◌, subst, inl, inr, refl, arith}
use Rattle.std.specs.Prelude.{slice_index}
use Rattle.std.specs.List.{flat_map}
use Rattle.std.proofs.lemmas.Bool.{cases_lt}
use Rattle.std.proofs.lemmas.List.{get_or_append_left, get_or-append-add}
use Rattle.std.proofs.lemmas.List.Concat.{flat_map-cons}
use Rattle.hex.specs.Hex.{IsBytes, decode_of}
use Rattle.hex.specs.declared.error.FromHexError.{FromHexError}
use Rattle.hex.proofs.HexLemmas.{decode_of-ok}
use Rattle.nova_text.specs.Line.{Row}
use Rattle.nova_scenario.specs.Digits.{bytes_in, line_bytes, elf_by, elf_bytes}
use Rattle.nova_scenario.specs.Words.{words_in}

none_small : IsBytes []
none_small i = omega arith

joined_small : (xs ys : List ℕ) → IsBytes xs → IsBytes ys → IsBytes (xs ++ ys)
joined_small xs ys left right i = go (cases_lt i (length xs)) where
  go : (i < length xs) ⊎ (length xs ≤ i) → slice_index (xs ++ ys) i < 256
  go (inl below) = let is = get_or_append_left xs ys 0 i below in let l = left i in subst (λ b. b < 256) (sym is) l
  go (inr past) =
      let place : i ≡ length xs + (i - length xs) = omega arith in
      let is : slice_index (xs ++ ys) i ≡ slice_index ys (i - length xs) = ap (λ k. get_or (xs ++ ys) k 0) place ∙ get_or-append-add xs ys (i - length xs) 0 in
      subst (λ b. b < 256) (sym is) (right (i - length xs))

flat_small : {X : Type 0} (f : X → List ℕ) → ((x : X) → IsBytes (f x)) → (xs : List X) → IsBytes (flat_map f xs)
flat_small f each [] = none_small
flat_small f each (x ∷ xs) = subst IsBytes (sym (flat_map-cons f x xs)) (joined_small (f x) (flat_map f xs) (each x) (flat_small f each xs))

token_small : (token : List ℕ) → IsBytes (bytes_in token)
token_small token = go (decode_of token) refl where
  go : (r : Result (List ℕ) FromHexError) → decode_of token ≡ r → IsBytes (bytes_in token)
  go (Ok bytes) is = rw is (decode_of-ok token bytes is).3
  go (Err e) is = rw is none_small

by_first : (rows : List Row) (o : Option Row) (file : List ℕ) → elf_by rows o ≡ Ok file → IsBytes file
by_first rows None file is =
    let same : file ≡ flat_map line_bytes rows = cc in
    subst IsBytes (sym same) (flat_small line_bytes (λ row. flat_small bytes_in token_small (words_in row)) rows)
by_first rows (Some row) file is = cc

pub file_small : (rows : List Row) (file : List ℕ) → elf_bytes rows ≡ Ok file → (i : ℕ) → slice_index file i < 256
file_small rows file is = by_first rows _ file is
