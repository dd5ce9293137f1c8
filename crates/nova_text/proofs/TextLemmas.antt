-- What the lines of a text are together.
use Rattle.std.proofs.Common.{◌≡◌, ℕ, ◌+◌, Bool, true, false, cond, List, [], ◌∷◌, ◌++◌, length, map, refl, ap, sym, ◌∙◌, arith, append_assoc}
use Rattle.std.specs.List.{slice_split, onto_first, flat_map, list_all, range_with_len}
use Rattle.std.specs.List.{All}
use Rattle.std.proofs.lemmas.List.Elements.{All-nil, All-cons}
use Rattle.std.proofs.lemmas.List.Splits.{slice_split-cons_yes, slice_split-cons_no, slice_split_at}
use Rattle.nova_text.specs.Bytes.{is_line_feed}
use Rattle.nova_text.proofs.LineLemmas.{Parts, parts, lines_of_parts-cons}
use Rattle.nova_text.specs.Line.{lines_of_parts, line_texts, rows_from, lines, with_line_feed, is_one_line, is_ended, ended_text}

-- the numbers and texts of lines
numbers-rows_from : (number start : ℕ) (texts : List (List ℕ)) → map (λ row. row.number) (rows_from number start texts) ≡ range_with_len number (length texts)
numbers-rows_from number start [] = refl
numbers-rows_from number start (text ∷ texts) = ap (λ numbers. number ∷ numbers) (numbers-rows_from (number + 1) (start + length text + 1) texts)

texts-rows_from : (number start : ℕ) (texts : List (List ℕ)) → map (λ row. row.text) (rows_from number start texts) ≡ texts
texts-rows_from number start [] = refl
texts-rows_from number start (text ∷ texts) = ap (λ others. text ∷ others) (texts-rows_from (number + 1) (start + length text + 1) texts)

pub numbers-lines : (bytes : List ℕ) → map (λ row. row.number) (lines bytes) ≡ range_with_len 1 (length (line_texts bytes))
unfolding lines
numbers-lines bytes = numbers-rows_from 1 0 (line_texts bytes)

pub texts-lines : (bytes : List ℕ) → map (λ row. row.text) (lines bytes) ≡ line_texts bytes
unfolding lines
texts-lines bytes = texts-rows_from 1 0 (line_texts bytes)

-- each line with its line feed, from the parts
abbrev written : List (List ℕ) → List ℕ
written parts = flat_map with_line_feed (lines_of_parts parts)

-- the parts hold a byte or a line feed
abbrev HoldBytes : List (List ℕ) → Type 0
HoldBytes [] = ⊥
HoldBytes ([] ∷ []) = ⊥
HoldBytes ((b ∷ bs) ∷ []) = Unit {0}
HoldBytes (part ∷ next ∷ parts) = Unit {0}

hold-feed : (ps : List (List ℕ)) → Parts ps → HoldBytes ([] ∷ ps)
hold-feed ps some = rw some.are tt

hold-byte : (b : ℕ) (ps : List (List ℕ)) → HoldBytes (onto_first b ps)
hold-byte b [] = tt
hold-byte b (p ∷ []) = tt
hold-byte b (p ∷ q ∷ ps) = tt

hold-cond : (feed : Bool) (b : ℕ) (ps : List (List ℕ)) → Parts ps → HoldBytes (cond feed ([] ∷ ps) (onto_first b ps))
hold-cond true b ps some = hold-feed ps some
hold-cond false b ps some = hold-byte b ps

hold-slice_split : (b : ℕ) (bs : List ℕ) → HoldBytes (slice_split is_line_feed (b ∷ bs))
hold-slice_split b bs = hold-cond (is_line_feed b) b (slice_split is_line_feed bs) (parts bs)

written-onto_first : (b : ℕ) (ps : List (List ℕ)) → HoldBytes ps → written (onto_first b ps) ≡ b ∷ written ps
written-onto_first b [] hold = absurd hold
written-onto_first b ([] ∷ []) hold = absurd hold
written-onto_first b ((c ∷ cs) ∷ []) hold = refl
written-onto_first b (p ∷ q ∷ ps) hold = refl

written-feed : (b : ℕ) (ps : List (List ℕ)) → Parts ps → is_line_feed b ≡ true → written ([] ∷ ps) ≡ b ∷ written ps
written-feed b ps some is =
    let ten : 10 ≡ b = grind arith in
    ap (flat_map with_line_feed) (lines_of_parts-cons [] ps some) ∙ ap (λ c. c ∷ written ps) ten

ended_text-cond : (b : ℕ) (bs : List ℕ) (is : Bool) → cond is (b ∷ bs) (with_line_feed (b ∷ bs)) ≡ b ∷ cond is bs (with_line_feed bs)
ended_text-cond b bs true = refl
ended_text-cond b bs false = refl

ended_text-more : (b c : ℕ) (bs : List ℕ) → ended_text (b ∷ c ∷ bs) ≡ b ∷ ended_text (c ∷ bs)
ended_text-more b c bs = ended_text-cond b (c ∷ bs) (is_ended (c ∷ bs))

ended_text-feed : (b : ℕ) (bs : List ℕ) → is_line_feed b ≡ true → ended_text (b ∷ bs) ≡ b ∷ ended_text bs
ended_text-feed b [] is = rw is refl
ended_text-feed b (c ∷ bs) is = ended_text-more b c bs

ended_text-byte : (b : ℕ) → is_line_feed b ≡ false → ended_text (b ∷ []) ≡ b ∷ 10 ∷ []
ended_text-byte b is = rw is refl

written-cons : (feed : Bool) (b : ℕ) (bs : List ℕ) → is_line_feed b ≡ feed → written (slice_split is_line_feed bs) ≡ ended_text bs → written (slice_split is_line_feed (b ∷ bs)) ≡ ended_text (b ∷ bs)
written-cons true b bs is tail =
    ap written (slice_split-cons_yes is_line_feed b bs is) ∙ written-feed b (slice_split is_line_feed bs) (parts bs) is ∙ ap (λ cs. b ∷ cs) tail ∙ sym (ended_text-feed b bs is)
written-cons false b [] is tail = ap written (slice_split-cons_no is_line_feed b [] is) ∙ sym (ended_text-byte b is)
written-cons false b (c ∷ bs) is tail =
    ap written (slice_split-cons_no is_line_feed b (c ∷ bs) is) ∙ written-onto_first b (slice_split is_line_feed (c ∷ bs)) (hold-slice_split c bs) ∙ ap (λ cs. b ∷ cs) tail ∙ sym (ended_text-more b c bs)

written-slice_split : (bs : List ℕ) → written (slice_split is_line_feed bs) ≡ ended_text bs
written-slice_split [] = refl
written-slice_split (b ∷ bs) = written-cons (is_line_feed b) b bs refl (written-slice_split bs)

pub written-line_texts : (bytes : List ℕ) → flat_map with_line_feed (line_texts bytes) ≡ ended_text bytes
unfolding line_texts
written-line_texts bytes = written-slice_split bytes

-- what was written so is read back
line_texts-after : (line bytes : List ℕ) → is_one_line line ≡ true → line_texts (line ++ 10 ∷ bytes) ≡ line ∷ line_texts bytes
unfolding line_texts
line_texts-after line bytes is =
    ap lines_of_parts (slice_split_at is_line_feed line 10 bytes (no_feed line is) refl) ∙ lines_of_parts-cons line (slice_split is_line_feed bytes) (parts bytes)
  where
    no_feed : (bs : List ℕ) → is_one_line bs ≡ true → All (λ b. is_line_feed b ≡ false) bs
    no_feed [] none = All-nil (λ b. is_line_feed b ≡ false)
    no_feed (b ∷ bs) none = All-cons (λ c. is_line_feed c ≡ false) b bs (grind arith) (no_feed bs (grind arith))

pub line_texts-written : (texts : List (List ℕ)) → list_all is_one_line texts ≡ true → line_texts (flat_map with_line_feed texts) ≡ texts
unfolding line_texts
line_texts-written [] all = refl
line_texts-written (text ∷ texts) all =
    ap line_texts (append_assoc text (10 ∷ []) (flat_map with_line_feed texts))
    ∙ line_texts-after text (flat_map with_line_feed texts) (grind arith)
    ∙ ap (λ others. text ∷ others) (line_texts-written texts (grind arith))
