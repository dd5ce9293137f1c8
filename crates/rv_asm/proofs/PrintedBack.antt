-- What is printed is one line, which is taken apart into the name and the operands.
use Rattle.std.proofs.Common.{◌≡◌, ℕ, ◌+◌, ◌-◌, ◌==◌, ◌<◌, Bool, true, false, not, ◌&&◌, List, [], ◌∷◌, ◌++◌, length, take, drop, map, Option, Some, None, refl, ap, ◌∙◌, append-nil, arith}
use Rattle.std.specs.Prelude.{nat_lt, nat_eq, codes, if◌then◌else◌}
use Rattle.std.specs.List.{list_all, filter, onto_first, slice_split, position_or_len, starts_with}
use Rattle.std.proofs.Math.Seq.{drop-append_seam}
use Rattle.rv_model.specs.Table.{row_of}
use Rattle.rv_model.specs.declared.mnemonic.Mnemonic.{Mnemonic}
use Rattle.rv_model.specs.declared.mnemonic.Mnemonic.TheVariants.{Lui}
use Rattle.nova_text.specs.Bytes.{is_line_feed, is_separator, is_comment_sign, has_bytes}
use Rattle.nova_text.specs.Line.{Row, lines_of_parts, line_texts, rows_from, lines}
use Rattle.nova_text.specs.Piece.{Piece, piece_at, pieces_from}
use Rattle.nova_text.specs.Token.{tokens, row_after}
use Rattle.rv_asm.specs.Syntax.{continues_name, is_name, is_comma, gap, skipped, name_len, front, after_colon, label_at, label_in, labelled_by, labelled, operand_in, operand_of, separated, operands_by, operands_in, Written, written_from, written}
use Rattle.rv_asm.specs.Name.{name_of}
use Rattle.rv_asm.specs.Printed.{separator, separated_from}
use Rattle.rv_asm.specs.declared.name.Name.TheVariants.{Instruction}
use Rattle.rv_asm.proofs.Parts.{Without, Each, without-append, each-without, len_past, before-none, split_past, split_none}
use Rattle.rv_asm.proofs.OperandsBack.{is_plain, IsPlain, some-append}

-- a plain byte is no sign between parts
plain_separator : (b : ℕ) → is_plain b ≡ true → is_separator b ≡ false
plain_separator b is = grind arith

plain_comment : (b : ℕ) → is_plain b ≡ true → is_comment_sign b ≡ false
plain_comment b is = grind arith

plain_feed : (b : ℕ) → is_plain b ≡ true → is_line_feed b ≡ false
plain_feed b is = grind arith

plain_comma : (b : ℕ) → is_plain b ≡ true → is_comma b ≡ false
plain_comma b is = grind arith

-- operands after a name
abbrev pub ArePlain : List (List ℕ) → Type 0
ArePlain [] = Unit {0}
ArePlain (text ∷ texts) = IsPlain text × ArePlain texts

comma_next : (k : ℕ) → separator (k + 1) ≡ codes ", "
comma_next k = let some : (k + 1 == 0) ≡ false = grind arith in rw some refl

-- of the signs between them spaces and commas alone
rest_without : (p : ℕ → Bool) → ((b : ℕ) → is_plain b ≡ true → p b ≡ false) → p 32 ≡ false → p 44 ≡ false → (index : ℕ) (texts : List (List ℕ)) → ArePlain texts → Without p (separated_from index texts)
rest_without p fails space comma index [] plain = tt
rest_without p fails space comma index (text ∷ texts) plain =
    without-append p (separator index) (text ++ separated_from (index + 1) texts) (sign (index == 0))
    (without-append p text (separated_from (index + 1) texts) (each-without p is_plain fails text plain.0.plain) (rest_without p fails space comma (index + 1) texts plain.1))
  where
    sign : (first : Bool) → Without p (if first then codes " " else codes ", ")
    sign true = (space, tt)
    sign false = (comma, (space, tt))

-- they are what stands between the commas
abbrev with_space : List ℕ → List ℕ
with_space text = 32 ∷ text

cut_at_commas : (k : ℕ) (text : List ℕ) (texts : List (List ℕ)) → IsPlain text → ArePlain texts → slice_split is_comma (32 ∷ (text ++ separated_from (k + 1) texts)) ≡ map with_space (text ∷ texts)
cut_at_commas k text [] plain others =
    ap (λ t. slice_split is_comma (32 ∷ t)) (append-nil text)
    ∙ split_none is_comma (32 ∷ text) (refl, each-without is_comma is_plain plain_comma text plain.plain)
cut_at_commas k text (next ∷ texts) plain others =
    ap (λ sign. slice_split is_comma (32 ∷ (text ++ (sign ++ (next ++ separated_from (k + 1 + 1) texts))))) (comma_next k)
    ∙ split_past is_comma (32 ∷ text) (44 ∷ 32 ∷ (next ++ separated_from (k + 1 + 1) texts)) (map with_space (next ∷ texts)) (refl, each-without is_comma is_plain plain_comma text plain.plain)
    (ap (λ parts. [] ∷ parts) (cut_at_commas (k + 1) next texts others.0 others.1))

-- without the space in front
token_after : (at : ℕ) (text : List ℕ) → IsPlain text → tokens at (32 ∷ text) ≡ piece_at (at + 0 + 1) text ∷ []
unfolding tokens
token_after at [] plain = absurd (let some = plain.some in omega arith)
token_after at (b ∷ bs) plain =
    let words = before-none is_comment_sign (32 ∷ b ∷ bs) (refl, each-without is_comment_sign is_plain plain_comment (b ∷ bs) plain.plain) in
    let parts = split_none is_separator (b ∷ bs) (each-without is_separator is_plain plain_separator (b ∷ bs) plain.plain) in
    ap (λ t. filter (λ piece. has_bytes piece.text) (pieces_from at (slice_split is_separator t))) words
    ∙ ap (λ ts. filter (λ piece. has_bytes piece.text) (pieces_from at ([] ∷ ts))) parts

trimmed : (at : ℕ) (texts : List (List ℕ)) → ArePlain texts → map (λ piece. piece.text) (map operand_of (pieces_from at (map with_space texts))) ≡ texts
trimmed at [] plain = refl
trimmed at (text ∷ texts) plain =
    (λ i. (operand_in at (token_after at text plain.0 i)).text ∷ trimmed (at + length (32 ∷ text) + 1) texts plain.1 i)

-- a name of the table is found by itself, and is a text of small letters
abbrev pub is_letter : ℕ → Bool
is_letter b = nat_lt 96 b && nat_lt b 123

pub record IsWord (text : List ℕ) : Type 0 where
  pub some : 0 < length text
  pub letters : Each is_letter text

letter_plain : (b : ℕ) → is_letter b ≡ true → is_plain b ≡ true
letter_plain b is = grind arith

letter_continues : (b : ℕ) → is_letter b ≡ true → not (continues_name b) ≡ false
letter_continues b is = grind arith

letters_each : (text : List ℕ) → list_all is_letter text ≡ true → Each is_letter text
letters_each [] all = tt
letters_each (b ∷ bs) all = (grind arith, letters_each bs (grind arith))

name_letters : (m : Mnemonic) → nat_lt 0 (length (row_of m).name) && list_all is_letter (row_of m).name ≡ true
name_letters Lui = refl
name_letters _ = refl

pub name_word : (m : Mnemonic) → IsWord (row_of m).name
name_word m =
    let all = name_letters m in
    record { some = grind arith; letters = letters_each (row_of m).name (grind arith) }

pub name_back : (m : Mnemonic) → name_of (row_of m).name ≡ Some (Instruction m)
name_back Lui = refl
name_back _ = refl

-- the text is one line
one_line : (text : List ℕ) → 0 < length text → Without is_line_feed text → lines text ≡ record { number = 1; start = 0; text = text } ∷ []
unfolding lines line_texts
one_line [] some none = absurd (omega arith)
one_line (b ∷ bs) some none = ap (λ parts. rows_from 1 0 (lines_of_parts parts)) (split_none is_line_feed (b ∷ bs) none)

-- a text with a word in front has no gap
no_gap : (name rest : List ℕ) → IsWord name → gap (name ++ rest) ≡ 0
no_gap [] rest word = absurd (let some = word.some in omega arith)
no_gap (b ∷ bs) rest word = rw (plain_separator b (letter_plain b word.letters.0)) refl

-- its first token
kept : (at : ℕ) (text : List ℕ) (more : List (List ℕ)) → 0 < length text → filter (λ piece. has_bytes piece.text) (pieces_from at (text ∷ more)) ≡ piece_at at text ∷ filter (λ piece. has_bytes piece.text) (pieces_from (at + length text + 1) more)
kept at [] more some = absurd (omega arith)
kept at (b ∷ bs) more some = refl

-- what stands after it
rest_parts : List (List ℕ) → List (List ℕ)
rest_parts [] = []
rest_parts (text ∷ texts) = slice_split is_separator (text ++ separated_from 1 texts)

rest_split : (texts : List (List ℕ)) → slice_split is_separator (separated_from 0 texts) ≡ [] ∷ rest_parts texts
unfolding rest_parts
rest_split [] = refl
rest_split (text ∷ texts) = refl

rest_ends_name : (texts : List (List ℕ)) → position_or_len (λ b. not (continues_name b)) (separated_from 0 texts) ≡ 0
rest_ends_name [] = refl
rest_ends_name (text ∷ texts) = refl

rest_no_colon : (texts : List (List ℕ)) → starts_with nat_eq (separated_from 0 texts) (codes ":") ≡ false
rest_no_colon [] = refl
rest_no_colon (text ∷ texts) = refl

-- a row that has a token has operands
some_token : (row : Row) (at b : ℕ) (parts : List (List ℕ)) → operands_by row (filter (λ piece. has_bytes piece.text) (pieces_from at ([] ∷ onto_first b parts))) ≡ separated row
some_token row at b [] = refl
some_token row at b (part ∷ parts) = refl

has_operands : (row : Row) (at : ℕ) (text rest : List ℕ) → IsPlain text → Without is_comment_sign (32 ∷ (text ++ rest)) → operands_by row (tokens at (32 ∷ (text ++ rest))) ≡ separated row
unfolding tokens
has_operands row at [] rest plain none = absurd (let some = plain.some in omega arith)
has_operands row at (b ∷ bs) rest plain none =
    ap (λ t. operands_by row (filter (λ piece. has_bytes piece.text) (pieces_from at (slice_split is_separator t)))) (before-none is_comment_sign (32 ∷ b ∷ (bs ++ rest)) none)
    ∙ rw (plain_separator b plain.plain.0) (some_token row at b (slice_split is_separator (bs ++ rest)))

rest_comments : (texts : List (List ℕ)) → ArePlain texts → Without is_comment_sign (separated_from 0 texts)
rest_comments texts plain = rest_without is_comment_sign plain_comment refl refl 0 texts plain

operands_after : (number at : ℕ) (texts : List (List ℕ)) → ArePlain texts → map (λ piece. piece.text) (operands_in (record { number = number; start = at; text = separated_from 0 texts })) ≡ texts
unfolding tokens
operands_after number at [] plain = refl
operands_after number at (text ∷ texts) plain =
    let row : Row = record { number = number; start = at; text = separated_from 0 (text ∷ texts) } in
    let none = rest_comments (text ∷ texts) plain in
    ap (map (λ piece. piece.text)) (has_operands row at text (separated_from 1 texts) plain.0 none)
    ∙ ap (λ t. map (λ piece. piece.text) (map operand_of (pieces_from at (slice_split is_comma t)))) (before-none is_comment_sign (separated_from 0 (text ∷ texts)) none)
    ∙ ap (λ parts. map (λ piece. piece.text) (map operand_of (pieces_from at parts))) (cut_at_commas 0 text texts plain.0 plain.1)
    ∙ trimmed at (text ∷ texts) plain

module _ (name : List ℕ) (word : IsWord name) (texts : List (List ℕ)) (plain : ArePlain texts) where
  abbrev pub whole : Row
  whole = record { number = 1; start = 0; text = name ++ separated_from 0 texts }

  name_without : (p : ℕ → Bool) → ((b : ℕ) → is_letter b ≡ true → p b ≡ false) → Without p name
  name_without p fails = each-without p is_letter fails name word.letters

  whole_without : (p : ℕ → Bool) → ((b : ℕ) → is_plain b ≡ true → p b ≡ false) → p 32 ≡ false → p 44 ≡ false → Without p (name ++ separated_from 0 texts)
  whole_without p fails space comma =
      without-append p name (separated_from 0 texts) (name_without p (λ b is. fails b (letter_plain b is))) (rest_without p fails space comma 0 texts plain)

  name_length : name_len (name ++ separated_from 0 texts) ≡ length name
  name_length = len_past (λ b. not (continues_name b)) name (separated_from 0 texts) (name_without (λ b. not (continues_name b)) letter_continues) (rest_ends_name texts)

  no_label : label_at whole (length name) ≡ None
  no_label = go (is_name (take (length name) (name ++ separated_from 0 texts))) where
    found : Option (Piece × Row)
    found = let p : Piece × Row = (front (length name) whole, after_colon (length name) whole) in Some p

    go : (b : Bool) → (if b then (if starts_with nat_eq (drop (length name) (name ++ separated_from 0 texts)) (codes ":") then found else None) else None) ≡ None
    go true = rw (drop-append_seam name (separated_from 0 texts), rest_no_colon texts) refl
    go false = refl

  pub all_rest : labelled whole ≡ record { label = None; rest = whole }
  all_rest =
      ap (λ n. labelled_by whole (label_in (skipped n whole))) (no_gap name (separated_from 0 texts) word)
      ∙ ap (λ n. labelled_by whole (label_at whole n)) name_length
      ∙ ap (labelled_by whole) no_label

  pub is_line : lines (name ++ separated_from 0 texts) ≡ whole ∷ []
  is_line = one_line (name ++ separated_from 0 texts) (some-append name (separated_from 0 texts) word.some) (whole_without is_line_feed plain_feed refl refl)

  -- its name and operands
  abbrev pub named : Written
  named = record { name = piece_at 0 name; operands = operands_in (row_after (Some (piece_at 0 name)) whole) }

  first_token : tokens 0 (name ++ separated_from 0 texts) ≡ piece_at 0 name ∷ filter (λ piece. has_bytes piece.text) (pieces_from (0 + length name + 1) (rest_parts texts))
  unfolding tokens
  first_token =
      ap (λ t. filter (λ piece. has_bytes piece.text) (pieces_from 0 (slice_split is_separator t)))
      (before-none is_comment_sign (name ++ separated_from 0 texts) (whole_without is_comment_sign plain_comment refl refl))
      ∙ ap (λ parts. filter (λ piece. has_bytes piece.text) (pieces_from 0 parts))
      (split_past is_separator name (separated_from 0 texts) (rest_parts texts) (name_without is_separator (λ b is. plain_separator b (letter_plain b is))) (rest_split texts))
      ∙ kept 0 name (rest_parts texts) word.some

  pub is_written : written whole ≡ Some named
  is_written = ap (written_from whole) first_token

  pub operand_texts : map (λ piece. piece.text) named.operands ≡ texts
  operand_texts =
      let skip : 0 + length name - 0 ≡ length name = omega arith in
      ap (λ n. map (λ piece. piece.text) (operands_in (record { number = 1; start = 0 + length name; text = drop n (name ++ separated_from 0 texts) }))) skip
      ∙ ap (λ t. map (λ piece. piece.text) (operands_in (record { number = 1; start = 0 + length name; text = t }))) (drop-append_seam name (separated_from 0 texts))
      ∙ operands_after 1 (0 + length name) texts plain
