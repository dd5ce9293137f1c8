-- The first line of a text, by the place of its line feed.
use Rattle.std.proofs.Common.{◌≡◌, ℕ, ◌+◌, ◌-◌, ◌≤◌, ◌<◌, Bool, true, false, cond, not, List, [], ◌∷◌, length, take, refl, ap, sym, ◌∙◌, ⊎_elim, arith, length-take-le, length-drop}
use Rattle.std.proofs.str.Laws.{order}
use Rattle.std.proofs.Math.Seq.{take-length}
use Rattle.std.proofs.lemmas.List.{drop_all}
use Rattle.std.specs.List.{position_or_len, slice_split, onto_first, before_first, after_first}
use Rattle.std.proofs.lemmas.List.Splits.{slice_split_first, slice_split_none}
use Rattle.std.proofs.lemmas.List.Sums.{fails_before_first, prefix_len-le-length}
use Rattle.nova_text.specs.Bytes.{is_line_feed}
use Rattle.nova_text.specs.Line.{lines_of_parts, line_texts, rows_from}

-- there is always a first part
pub record Parts (ps : List (List ℕ)) : Type 0 where
  pub first : List ℕ
  pub others : List (List ℕ)
  pub are : ps ≡ first ∷ others

parts-onto_first : (b : ℕ) (ps : List (List ℕ)) → Parts (onto_first b ps)
parts-onto_first b [] = record { first = b ∷ []; others = []; are = refl }
parts-onto_first b (p ∷ ps) = record { first = b ∷ p; others = ps; are = refl }

parts-cond : (feed : Bool) (b : ℕ) (ps : List (List ℕ)) → Parts (cond feed ([] ∷ ps) (onto_first b ps))
parts-cond true b ps = record { first = []; others = ps; are = refl }
parts-cond false b ps = parts-onto_first b ps

pub parts : (bs : List ℕ) → Parts (slice_split is_line_feed bs)
parts [] = record { first = []; others = []; are = refl }
parts (b ∷ bs) = parts-cond (is_line_feed b) b (slice_split is_line_feed bs)

-- a part before another is a line
pub lines_of_parts-cons : (p : List ℕ) (ps : List (List ℕ)) → Parts ps → lines_of_parts (p ∷ ps) ≡ p ∷ lines_of_parts ps
lines_of_parts-cons p ps some = rw (some.are) refl

-- where a line feed ends the first line
line_texts-feed : (bs : List ℕ) → position_or_len is_line_feed bs < length bs → line_texts bs ≡ before_first is_line_feed bs ∷ line_texts (after_first is_line_feed bs)
unfolding line_texts
line_texts-feed bs within =
    ap lines_of_parts (slice_split_first is_line_feed bs 0 within)
    ∙ lines_of_parts-cons (before_first is_line_feed bs) (slice_split is_line_feed (after_first is_line_feed bs)) (parts (after_first is_line_feed bs))

-- where it is the last
line_texts-end : (b : ℕ) (bs : List ℕ) → length (b ∷ bs) ≤ position_or_len is_line_feed (b ∷ bs) → line_texts (b ∷ bs) ≡ (b ∷ bs) ∷ []
unfolding line_texts
line_texts-end b bs beyond =
    ap lines_of_parts (slice_split_none is_line_feed (b ∷ bs) (λ k d below. fails_before_first is_line_feed (b ∷ bs) k d (omega arith)))

-- a text without bytes has no lines
pub rows-none : (number start : ℕ) (bs : List ℕ) → bs ≡ [] → rows_from number start (line_texts bs) ≡ []
unfolding line_texts
rows-none number start bs none = rw none refl

-- the lines of a text are a first one and those after it
abbrev pub BeginsWithLine : ℕ → ℕ → List ℕ → List ℕ → List ℕ → Type 0
BeginsWithLine number start bs text after =
    rows_from number start (line_texts bs) ≡ record { number = number; start = start; text = text } ∷ rows_from (number + 1) (start + (length bs - length after)) (line_texts after)

module _ (number start b : ℕ) (bs text after : List ℕ) (is_text : text ≡ before_first is_line_feed (b ∷ bs)) (is_after : after ≡ after_first is_line_feed (b ∷ bs)) where
  rows-first_feed : position_or_len is_line_feed (b ∷ bs) < length (b ∷ bs) → BeginsWithLine number start (b ∷ bs) text after
  rows-first_feed feed =
      let n = position_or_len is_line_feed (b ∷ bs) in
      let from_text = sym is_text in
      let from_after = sym is_after in
      let text_len : length (before_first is_line_feed (b ∷ bs)) ≡ n = length-take-le n (b ∷ bs) (omega arith) in
      let after_len : length after ≡ length (b ∷ bs) - (n + 1) = ap length is_after ∙ length-drop (n + 1) (b ∷ bs) in
      let place : start + length (before_first is_line_feed (b ∷ bs)) + 1 ≡ start + (length (b ∷ bs) - length after) = omega arith in
      ap (rows_from number start) (line_texts-feed (b ∷ bs) feed)
      ∙ (λ i. record { number = number; start = start; text = from_text i } ∷ rows_from (number + 1) (place i) (line_texts (from_after i)))

  rows-first_end : length (b ∷ bs) ≤ position_or_len is_line_feed (b ∷ bs) → BeginsWithLine number start (b ∷ bs) text after
  rows-first_end beyond =
      let n = position_or_len is_line_feed (b ∷ bs) in
      let n_is : n ≡ length (b ∷ bs) = omega (arith, prefix_len-le-length (λ x. not (is_line_feed x)) (b ∷ bs)) in
      let all : text ≡ b ∷ bs = is_text ∙ ap (λ k. take k (b ∷ bs)) n_is ∙ take-length (b ∷ bs) in
      let none : after ≡ [] = is_after ∙ drop_all (n + 1) (b ∷ bs) (omega arith) in
      let from_all = sym all in
      let from_none = sym (rows-none (number + 1) (start + (length (b ∷ bs) - length after)) after none) in
      ap (rows_from number start) (line_texts-end b bs beyond)
      ∙ (λ i. record { number = number; start = start; text = from_all i } ∷ from_none i)

-- the first line ends at the first line feed, or is the whole text
pub rows-first : (number start : ℕ) (bs text after : List ℕ) → 0 < length bs → text ≡ before_first is_line_feed bs → after ≡ after_first is_line_feed bs → BeginsWithLine number start bs text after
rows-first number start [] text after some is_text is_after = absurd (omega arith)
rows-first number start (b ∷ bs) text after some is_text is_after =
    ⊎_elim
    (rows-first_feed number start b bs text after is_text is_after)
    (rows-first_end number start b bs text after is_text is_after)
    (order (position_or_len is_line_feed (b ∷ bs)) (length (b ∷ bs)))
