-- The parts of a text between separators are slices of it, in order.
use Rattle.std.proofs.Common.{◌≡◌, ℕ, ◌+◌, ◌-◌, ◌≤◌, Bool, true, false, cond, List, [], ◌∷◌, ◌++◌, length, take, drop, map, refl, ap, sym, subst, ◌∙◌, arith, append_assoc, length-append, length-take-le, take-append-drop}
use Rattle.std.specs.Prelude.{filter}
use Rattle.std.proofs.Math.Seq.{take-append_seam, drop-append_seam}
use Rattle.std.proofs.lemmas.List.Folds.{drop_split}
use Rattle.std.specs.List.{position_or_len, slice_split, onto_first}
use Rattle.nova_text.specs.Bytes.{is_separator, is_comment_sign, is_line_feed, has_bytes}
use Rattle.nova_text.specs.Line.{piece_of_row, last_line, lines_of_parts, line_texts, rows_from, lines}
use Rattle.nova_text.specs.Token.{tokens}
use Rattle.nova_text.specs.Piece.{Piece, piece_at, pieces_from, IsSliceOf, AreSlicesBetween}

-- a part stands in a text at a place, between what is in front of it and what is after it
pub record StandsAt (bytes : List ℕ) (at : ℕ) (part : List ℕ) : Type 0 where
  pub front : List ℕ
  pub back : List ℕ
  pub is : bytes ≡ front ++ (part ++ back)
  pub place : length front ≡ at

-- it is then the slice at that place
slice_of : (front part back : List ℕ) → IsSliceOf (front ++ (part ++ back)) (piece_at (length front) part)
slice_of front part back = record {
  ordered = omega arith;
  within = omega (arith, length-append front (part ++ back), length-append part back);
  same =
      let after : drop (length front) (front ++ (part ++ back)) ≡ part ++ back = drop-append_seam front (part ++ back) in
      let len : length front + length part - length front ≡ length part = omega arith in
      sym ((λ i. take (len i) (after i)) ∙ take-append_seam part back);
}

pub slice-stands : (bytes : List ℕ) (at : ℕ) (part : List ℕ) → StandsAt bytes at part → IsSliceOf bytes (piece_at at part)
slice-stands bytes at part stands =
    let whole = sym stands.is in
    let P : ℕ → Type 0 = λ k. IsSliceOf bytes (piece_at k part) in
    let Q : List ℕ → Type 0 = λ bs. IsSliceOf bs (piece_at (length stands.front) part) in
    subst P stands.place (subst Q whole (slice_of stands.front part stands.back))

-- and what is its slice stands there
pub stands-slice : (bytes : List ℕ) (at : ℕ) (part : List ℕ) → IsSliceOf bytes (piece_at at part) → StandsAt bytes at part
stands-slice bytes at part slice = record {
  front = take at bytes;
  back = drop (at + length part) bytes;
  is =
      let split = drop_split bytes at (at + length part) (omega arith) in
      let from_slice = sym slice.same in
      sym (take-append-drop at bytes) ∙ ap (λ bs. take at bytes ++ bs) (split ∙ ap (λ bs. bs ++ drop (at + length part) bytes) from_slice);
  place = length-take-le at bytes (omega (arith, slice.within));
}

pub stands-whole : (bytes : List ℕ) → StandsAt bytes 0 bytes
stands-whole bytes = record { front = []; back = []; is = sym (append-nil bytes); place = refl } where
  append-nil : (xs : List ℕ) → xs ++ [] ≡ xs
  append-nil [] = refl
  append-nil (x ∷ xs) = ap (λ ys. x ∷ ys) (append-nil xs)

-- a part of two stands as each of them does
pub stands-first : (bytes : List ℕ) (at : ℕ) (part more : List ℕ) → StandsAt bytes at (part ++ more) → StandsAt bytes at part
stands-first bytes at part more stands = record {
  front = stands.front;
  back = more ++ stands.back;
  is = stands.is ∙ ap (λ bs. stands.front ++ bs) (append_assoc part more stands.back);
  place = stands.place;
}

pub stands-after : (bytes : List ℕ) (at : ℕ) (part : List ℕ) (c : ℕ) (more : List ℕ) → StandsAt bytes at (part ++ c ∷ more) → StandsAt bytes (at + length part + 1) more
stands-after bytes at part c more stands = record {
  front = stands.front ++ (part ++ c ∷ []);
  back = stands.back;
  is = stands.is ∙ ap (λ bs. stands.front ++ bs) (append_assoc part (c ∷ more) stands.back ∙ sym (append_assoc part (c ∷ []) (more ++ stands.back))) ∙ sym (append_assoc stands.front (part ++ c ∷ []) (more ++ stands.back));
  place = length-append stands.front (part ++ c ∷ []) ∙ (λ i. stands.place i + length-append part (c ∷ []) i) ∙ (let e : at + (length part + 1) ≡ at + length part + 1 = omega arith in e);
}

-- the parts make the text, with one byte between each and the next
abbrev ArePartsOf : List ℕ → List (List ℕ) → Type 0
ArePartsOf text [] = ⊥
ArePartsOf text (part ∷ []) = text ≡ part
ArePartsOf text (part ∷ next ∷ parts) = (c : ℕ) × (more : List ℕ) × (text ≡ part ++ c ∷ more) × ArePartsOf more (next ∷ parts)

parts-onto_first : (b : ℕ) (text : List ℕ) (parts : List (List ℕ)) → ArePartsOf text parts → ArePartsOf (b ∷ text) (onto_first b parts)
parts-onto_first b text [] are = absurd are
parts-onto_first b text (part ∷ []) are = ap (λ bs. b ∷ bs) are
parts-onto_first b text (part ∷ next ∷ parts) are = (are.0, are.1, ap (λ bs. b ∷ bs) are.2, are.3)

parts-separator : (b : ℕ) (text : List ℕ) (parts : List (List ℕ)) → ArePartsOf text parts → ArePartsOf (b ∷ text) ([] ∷ parts)
parts-separator b text [] are = absurd are
parts-separator b text (part ∷ parts) are = (b, text, refl, are)

parts-cons : (separates : Bool) (b : ℕ) (text : List ℕ) (parts : List (List ℕ)) → ArePartsOf text parts → ArePartsOf (b ∷ text) (cond separates ([] ∷ parts) (onto_first b parts))
parts-cons true b text parts are = parts-separator b text parts are
parts-cons false b text parts are = parts-onto_first b text parts are

parts-slice_split : (p : ℕ → Bool) (text : List ℕ) → ArePartsOf text (slice_split p text)
parts-slice_split p [] = refl
parts-slice_split p (b ∷ text) = parts-cons (p b) b text (slice_split p text) (parts-slice_split p text)

-- slices in order may begin earlier and end later
pub slices-wider : (bytes : List ℕ) (at from end upto : ℕ) (pieces : List Piece) → from ≤ at → end ≤ upto → AreSlicesBetween bytes at end pieces → AreSlicesBetween bytes from upto pieces
slices-wider bytes at from end upto [] earlier later are = omega arith
slices-wider bytes at from end upto (piece ∷ pieces) earlier later are = (omega arith, are.1, slices-wider bytes piece.span.end piece.span.end end upto pieces (omega arith) later are.2)

-- the parts of what stands at a place are slices from there on
slices-parts : (bytes : List ℕ) (at : ℕ) (text : List ℕ) (parts : List (List ℕ)) → StandsAt bytes at text → ArePartsOf text parts → AreSlicesBetween bytes at (at + length text) (pieces_from at parts)
slices-parts bytes at text [] stands are = absurd are
slices-parts bytes at text (part ∷ []) stands are =
    let P : List ℕ → Type 0 = λ t. StandsAt bytes at t in
    (omega arith, slice-stands bytes at part (subst P are stands), omega (arith, ap length are))
slices-parts bytes at text (part ∷ next ∷ parts) stands are =
    let P : List ℕ → Type 0 = λ t. StandsAt bytes at t in
    let here = subst P are.2 stands in
    let len = ap length are.2 ∙ length-append part (are.0 ∷ are.1) in
    let after = slices-parts bytes (at + length part + 1) are.1 (next ∷ parts) (stands-after bytes at part are.0 are.1 here) are.3 in
    (omega arith, slice-stands bytes at part (stands-first bytes at part (are.0 ∷ are.1) here), slices-wider bytes (at + length part + 1) (at + length part) _ (at + length text) (pieces_from (at + length part + 1) (next ∷ parts)) (omega arith) (omega arith) after)

pub slices-slice_split : (p : ℕ → Bool) (bytes : List ℕ) (at : ℕ) (text : List ℕ) → StandsAt bytes at text → AreSlicesBetween bytes at (at + length text) (pieces_from at (slice_split p text))
slices-slice_split p bytes at text stands = slices-parts bytes at text (slice_split p text) stands (parts-slice_split p text)

-- some of them are slices in order too
slices-cond : (keep : Bool) (bytes : List ℕ) (at end : ℕ) (piece : Piece) (pieces : List Piece) → at ≤ piece.span.start → IsSliceOf bytes piece → AreSlicesBetween bytes piece.span.end end pieces → AreSlicesBetween bytes at end (cond keep (piece ∷ pieces) pieces)
slices-cond true bytes at end piece pieces le slice are = (le, slice, are)
slices-cond false bytes at end piece pieces le slice are = slices-wider bytes piece.span.end at end end pieces (omega (arith, slice.ordered)) (omega arith) are

pub slices-filter : (keeps : Piece → Bool) (bytes : List ℕ) (at end : ℕ) (pieces : List Piece) → AreSlicesBetween bytes at end pieces → AreSlicesBetween bytes at end (filter keeps pieces)
slices-filter keeps bytes at end [] are = are
slices-filter keeps bytes at end (piece ∷ pieces) are = slices-cond (keeps piece) bytes at end piece (filter keeps pieces) are.0 are.1 (slices-filter keeps bytes piece.span.end end pieces are.2)

-- the lines among the parts
slices-last_line : (bytes : List ℕ) (from at end : ℕ) (part : List ℕ) → AreSlicesBetween bytes from end (pieces_from at (part ∷ [])) → AreSlicesBetween bytes from end (pieces_from at (last_line part))
slices-last_line bytes from at end [] are = omega (arith, are.2)
slices-last_line bytes from at end (b ∷ bs) are = are

slices-lines_of_parts : (bytes : List ℕ) (from at end : ℕ) (parts : List (List ℕ)) → AreSlicesBetween bytes from end (pieces_from at parts) → AreSlicesBetween bytes from end (pieces_from at (lines_of_parts parts))
slices-lines_of_parts bytes from at end [] are = are
slices-lines_of_parts bytes from at end (part ∷ []) are = slices-last_line bytes from at end part are
slices-lines_of_parts bytes from at end (part ∷ next ∷ parts) are = (are.0, are.1, slices-lines_of_parts bytes (at + length part) (at + length part + 1) end (next ∷ parts) are.2)

pieces-rows_from : (number start : ℕ) (texts : List (List ℕ)) → map piece_of_row (rows_from number start texts) ≡ pieces_from start texts
pieces-rows_from number start [] = refl
pieces-rows_from number start (text ∷ texts) = ap (λ pieces. piece_at start text ∷ pieces) (pieces-rows_from (number + 1) (start + length text + 1) texts)

pub slices-lines : (bytes : List ℕ) → AreSlicesBetween bytes 0 (length bytes) (map piece_of_row (lines bytes))
unfolding lines line_texts
slices-lines bytes =
    let P : List Piece → Type 0 = λ pieces. AreSlicesBetween bytes 0 (length bytes) pieces in
    subst P (sym (pieces-rows_from 1 0 (lines_of_parts (slice_split is_line_feed bytes)))) (slices-lines_of_parts bytes 0 0 (length bytes) (slice_split is_line_feed bytes) (slices-wider bytes 0 0 (0 + length bytes) (length bytes) _ (omega arith) (omega arith) (slices-slice_split is_line_feed bytes 0 bytes (stands-whole bytes))))

pub slices-tokens : (bytes : List ℕ) (start : ℕ) (line : List ℕ) → IsSliceOf bytes (piece_at start line) → AreSlicesBetween bytes start (start + length line) (tokens start line)
unfolding tokens
slices-tokens bytes start line slice =
    let n = position_or_len is_comment_sign line in
    let P : List ℕ → Type 0 = λ t. StandsAt bytes start t in
    let stands = stands-first bytes start (take n line) (drop n line) (subst P (sym (take-append-drop n line)) (stands-slice bytes start line slice)) in
    let len = length-append (take n line) (drop n line) in
    let whole = ap length (take-append-drop n line) in
    slices-filter (λ piece. has_bytes piece.text) bytes start (start + length line) _ (slices-wider bytes start start (start + length (take n line)) (start + length line) _ (omega arith) (omega arith) (slices-slice_split is_separator bytes start (take n line) stands))
