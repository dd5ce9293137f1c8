-- The first token of a line, by the places that the code finds.
use Rattle.std.proofs.Common.{◌≡◌, ℕ, suc, ◌+◌, ◌<◌, Bool, true, false, not, List, [], ◌∷◌, length, take, drop, refl, ap, sym, subst, ◌∙◌, arith}
use Rattle.std.specs.Prelude.{filter}
use Rattle.std.specs.List.{position_or_len, slice_split, onto_first}
use Rattle.std.proofs.lemmas.List.Splits.{slice_split-cons_yes, slice_split-cons_no}
use Rattle.std.proofs.lemmas.List.Folds.{length-prefix_len}
use Rattle.nova_text.specs.Bytes.{is_separator, is_comment_sign, ends_token, before_comment, has_bytes}
use Rattle.nova_text.specs.Piece.{Piece, pieces_from}
use Rattle.nova_text.specs.Token.{tokens}
use Rattle.nova_text.proofs.Scans.{position_or_len-here, position_or_len-later, before_first-here, before_first-later}

-- the parts of a line between separators, and those of them that are tokens
abbrev pub parts : List ℕ → List (List ℕ)
parts line = slice_split is_separator (before_comment line)

abbrev pub tokens_of_parts : ℕ → List (List ℕ) → List Piece
tokens_of_parts at ps = filter (λ piece. has_bytes piece.text) (pieces_from at ps)

module _ (b : ℕ) (bs : List ℕ) where
  parts-comment : is_comment_sign b ≡ true → parts (b ∷ bs) ≡ [] ∷ []
  parts-comment is = ap (slice_split is_separator) (before_first-here is_comment_sign b bs is)

  parts-separator : is_comment_sign b ≡ false → is_separator b ≡ true → parts (b ∷ bs) ≡ [] ∷ parts bs
  parts-separator not_comment is = ap (slice_split is_separator) (before_first-later is_comment_sign b bs not_comment) ∙ slice_split-cons_yes is_separator b (before_comment bs) is

  parts-other : is_comment_sign b ≡ false → is_separator b ≡ false → parts (b ∷ bs) ≡ onto_first b (parts bs)
  parts-other not_comment not_separator = ap (slice_split is_separator) (before_first-later is_comment_sign b bs not_comment) ∙ slice_split-cons_no is_separator b (before_comment bs) not_separator

-- the first part ends where a token ends, and the others are those after it
record FirstPart (bs : List ℕ) : Type 0 where
  others : List (List ℕ)
  parts_are : parts bs ≡ take (position_or_len ends_token bs) bs ∷ others
  after : (at : ℕ) → tokens_of_parts at (parts (drop (position_or_len ends_token bs) bs)) ≡ tokens_of_parts (at + 1) others

first_part-cons : (b : ℕ) (bs : List ℕ) (s c : Bool) → is_separator b ≡ s → is_comment_sign b ≡ c → FirstPart bs → FirstPart (b ∷ bs)
first_part-cons b bs s true is_s is_c tail =
    let zero_len = position_or_len-here ends_token b bs (grind arith) in
    let here = parts-comment b bs is_c in
    record {
      others = [];
      parts_are = here ∙ ap (λ n. take n (b ∷ bs) ∷ []) (sym zero_len);
      after = λ at. ap (λ n. tokens_of_parts at (parts (drop n (b ∷ bs)))) zero_len ∙ ap (tokens_of_parts at) here;
    }
first_part-cons b bs true false is_s is_c tail =
    let zero_len = position_or_len-here ends_token b bs (grind arith) in
    let here = parts-separator b bs is_c is_s in
    record {
      others = parts bs;
      parts_are = here ∙ ap (λ n. take n (b ∷ bs) ∷ parts bs) (sym zero_len);
      after = λ at. ap (λ n. tokens_of_parts at (parts (drop n (b ∷ bs)))) zero_len ∙ ap (tokens_of_parts at) here ∙ ap (λ k. tokens_of_parts k (parts bs)) (let e : at + 0 + 1 ≡ at + 1 = omega arith in e);
    }
first_part-cons b bs false false is_s is_c tail =
    let more = position_or_len-later ends_token b bs (grind arith) in
    record {
      others = tail.others;
      parts_are = parts-other b bs is_c is_s ∙ ap (onto_first b) tail.parts_are ∙ ap (λ n. take n (b ∷ bs) ∷ tail.others) (sym more);
      after = λ at. ap (λ n. tokens_of_parts at (parts (drop n (b ∷ bs)))) more ∙ tail.after at;
    }

first_part : (bs : List ℕ) → FirstPart bs
first_part [] = record { others = []; parts_are = refl; after = λ at. refl }
first_part (b ∷ bs) = first_part-cons b bs (is_separator b) (is_comment_sign b) refl refl (first_part bs)

-- ts are what follows in a line from the place at on, where no separator stands in front
pub record BeginsWithToken (at : ℕ) (line : List ℕ) (ts : List Piece) : Type 0 where
  pub none : position_or_len ends_token line ≡ 0 → ts ≡ []
  pub some : 0 < position_or_len ends_token line → let n = position_or_len ends_token line in ts ≡ record { text = take n line; span = record { start = at; end = at + n } } ∷ tokens_of_parts (at + n) (parts (drop n line))

abbrev pub gap : List ℕ → ℕ
gap line = position_or_len (λ b. not (is_separator b)) line

-- where a token begins at once
begins-other : (at b : ℕ) (bs : List ℕ) → is_separator b ≡ false → is_comment_sign b ≡ false → BeginsWithToken at (b ∷ bs) (tokens_of_parts at (parts (b ∷ bs)))
begins-other at b bs is_s is_c =
    let more = position_or_len-later ends_token b bs (grind arith) in
    let tail = first_part bs in
    let n = position_or_len ends_token bs in
    let len : length (take n bs) ≡ n = length-prefix_len (λ x. not (ends_token x)) bs in
    let parts_are = parts-other b bs is_c is_s ∙ ap (onto_first b) tail.parts_are in
    let next : tokens_of_parts (at + suc (length (take n bs)) + 1) tail.others ≡ tokens_of_parts (at + suc n) (parts (drop n bs)) = ap (λ k. tokens_of_parts (at + suc k + 1) tail.others) len ∙ sym (tail.after (at + suc n)) in
    record {
      none = λ zero_len. absurd (omega arith);
      some = λ _. ap (tokens_of_parts at) parts_are ∙ (λ i. record { text = b ∷ take n bs; span = record { start = at; end = at + suc (len i) } } ∷ next i) ∙ ap (λ k. record { text = take k (b ∷ bs); span = record { start = at; end = at + k } } ∷ tokens_of_parts (at + k) (parts (drop k (b ∷ bs)))) (sym more);
    }

begins-comment : (at b : ℕ) (bs : List ℕ) → is_comment_sign b ≡ true → BeginsWithToken at (b ∷ bs) (tokens_of_parts at (parts (b ∷ bs)))
begins-comment at b bs is_c =
    let zero_len = position_or_len-here ends_token b bs (grind arith) in
    record { none = λ _. ap (tokens_of_parts at) (parts-comment b bs is_c); some = λ more. absurd (omega arith) }

begins-here : (at b : ℕ) (bs : List ℕ) → is_separator b ≡ false → (c : Bool) → is_comment_sign b ≡ c → BeginsWithToken at (b ∷ bs) (tokens_of_parts at (parts (b ∷ bs)))
begins-here at b bs is_s true is_c = begins-comment at b bs is_c
begins-here at b bs is_s false is_c = begins-other at b bs is_s is_c

-- after the separators in front
begins-cons : (b : ℕ) (bs : List ℕ) (s c : Bool) → is_separator b ≡ s → is_comment_sign b ≡ c → ((at : ℕ) → BeginsWithToken (at + gap bs) (drop (gap bs) bs) (tokens_of_parts at (parts bs))) → (at : ℕ) → BeginsWithToken (at + gap (b ∷ bs)) (drop (gap (b ∷ bs)) (b ∷ bs)) (tokens_of_parts at (parts (b ∷ bs)))
begins-cons b bs true true is_s is_c tail at = absurd (grind arith)
begins-cons b bs true false is_s is_c tail at =
    let more : gap (b ∷ bs) ≡ suc (gap bs) = position_or_len-later (λ x. not (is_separator x)) b bs (grind arith) in
    let after = parts-separator b bs is_c is_s in
    let place : at + 1 + gap bs ≡ at + suc (gap bs) = omega arith in
    let next : at + 1 ≡ at + 0 + 1 = omega arith in
    let from_next = subst (λ k. BeginsWithToken (at + 1 + gap bs) (drop (gap bs) bs) (tokens_of_parts k (parts bs))) next (tail (at + 1)) in
    rw (more, after) (subst (λ k. BeginsWithToken k (drop (gap bs) bs) (tokens_of_parts (at + 0 + 1) (parts bs))) place from_next)
begins-cons b bs false c is_s is_c tail at =
    let here : gap (b ∷ bs) ≡ 0 = position_or_len-here (λ x. not (is_separator x)) b bs (grind arith) in
    let place : at ≡ at + 0 = omega arith in
    rw here (subst (λ k. BeginsWithToken k (b ∷ bs) (tokens_of_parts at (parts (b ∷ bs)))) place (begins-here at b bs is_s c is_c))

-- the first token of a line that begins at a place
pub begins : (bs : List ℕ) (at : ℕ) → BeginsWithToken (at + gap bs) (drop (gap bs) bs) (tokens_of_parts at (parts bs))
begins [] at = record { none = λ _. refl; some = λ more. absurd (omega arith) }
begins (b ∷ bs) at = begins-cons b bs (is_separator b) (is_comment_sign b) refl refl (begins bs) at

-- the same of a line that was cut: g separators in front, and then a token of n bytes
module _ (at g n : ℕ) (line rest : List ℕ) (is_g : g ≡ gap line) (is_rest : rest ≡ drop g line) (is_n : n ≡ position_or_len ends_token rest) where
  at_cut : BeginsWithToken (at + g) rest (tokens_of_parts at (parts line))
  at_cut =
      let P : ℕ → Type 0 = λ k. BeginsWithToken (at + k) (drop k line) (tokens_of_parts at (parts line)) in
      let Q : List ℕ → Type 0 = λ r. BeginsWithToken (at + g) r (tokens_of_parts at (parts line)) in
      subst Q (sym is_rest) (subst P (sym is_g) (begins line at))

  pub tokens-none : n ≡ 0 → tokens at line ≡ []
  unfolding tokens
  tokens-none zero_len = at_cut.none (sym is_n ∙ zero_len)

  pub tokens-first : (text after : List ℕ) → 0 < n → text ≡ take n rest → after ≡ drop n rest → tokens at line ≡ record { text = text; span = record { start = at + g; end = at + g + n } } ∷ tokens (at + g + n) after
  unfolding tokens
  tokens-first text after more is_text is_after =
      let from_text = sym is_text in
      let from_after = sym is_after in
      at_cut.some (omega arith)
      ∙ ap (λ k. record { text = take k rest; span = record { start = at + g; end = at + g + k } } ∷ tokens_of_parts (at + g + k) (parts (drop k rest))) (sym is_n)
      ∙ (λ i. record { text = from_text i; span = record { start = at + g; end = at + g + n } } ∷ tokens_of_parts (at + g + n) (parts (from_after i)))
