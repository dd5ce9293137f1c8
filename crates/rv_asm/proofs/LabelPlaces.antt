-- A label that is still to come changes the count of no line, so each label stands where all labels together say.
use Rattle.std.proofs.Common.{◌≡◌, ℕ, suc, ◌+◌, ◌≤◌, ◌<◌, ◌||◌, Bool, true, false, List, [], ◌∷◌, length, Option, Some, None, Result, Ok, Err, take, refl, ap, sym, subst, ◌∙◌, arith}
use mathlib.Core.Path.{fun_ext}
use Rattle.std.specs.Prelude.{nat_eq, find, is_some, option_map, IfSome, if◌then◌else◌}
use Rattle.std.specs.List.{list_any, position_or_len, before_first}
use Rattle.std.specs.Str.{bytes_eq}
use Rattle.std.proofs.lemmas.Bool.Decides.{nat_tests}
use Rattle.std.proofs.lemmas.Slice.Eq.{bytes_eq-Decides}
use Rattle.rv_model.specs.declared.instr.Operands.{Operands}
use Rattle.nova_text.specs.Line.{Row, rows_from, line_texts, lines}
use Rattle.nova_text.specs.Piece.{Piece}
use Rattle.rv_asm.specs.Syntax.{labelled, Written, written}
use Rattle.rv_asm.specs.Operand.{Labels, with_operands}
use Rattle.rv_asm.specs.Name.{name_of, slots_of, given, items_of}
use Rattle.rv_asm.specs.Program.{items_or_fault, statement, statement_of, is_earlier, with_colon, after_label, line_items, word_count, added, with_label, no_labels, has_label, bears, repeats, count_after, count_from, labels_of, label_among}
use Rattle.rv_asm.proofs.Passes.{labels_from}
use Rattle.rv_asm.specs.declared.fault.AsmFault.TheVariants.{BadOperand, TwiceLabel}
use Rattle.rv_asm.specs.declared.fault.FaultyOperand.{FaultyOperand}
use Rattle.rv_asm.specs.declared.label.Label.{Label}
use Rattle.rv_asm.specs.declared.name.Name.{Name}
use Rattle.rv_asm.specs.declared.name.Name.TheVariants.{Instruction, Short}
use Rattle.rv_asm.specs.declared.name.ShortForm.TheVariants.{Nop, Mv, J, Ret, Li, Word}

-- a statement has as many words by some labels as by others: a statement that has a target has one word, at fault too
one_word : (name : Name) (r s : Result Operands FaultyOperand) → ((o : Operands) → length (items_of name o) ≡ 1) → word_count (items_or_fault name r) ≡ word_count (items_or_fault name s)
one_word name (Ok o) (Ok p) one = one o ∙ sym (one p)
one_word name (Ok o) (Err faulty) one = one o
one_word name (Err faulty) (Ok p) one = sym (one p)
one_word name (Err faulty) (Err other) one = refl

module _ (some all : Labels) (place other : ℕ) where
  li_same : (pieces : List Piece) (o : Operands) → with_operands some place (slots_of (Short Li)) pieces o ≡ with_operands all other (slots_of (Short Li)) pieces o
  li_same [] o = refl
  li_same (p ∷ []) o = refl
  li_same (p ∷ q ∷ pieces) o = refl

  name_count : (name : Name) (pieces : List Piece) → word_count (items_or_fault name (with_operands some place (slots_of name) pieces (given name))) ≡ word_count (items_or_fault name (with_operands all other (slots_of name) pieces (given name)))
  name_count (Instruction m) pieces = one_word (Instruction m) (with_operands some place (slots_of (Instruction m)) pieces (given (Instruction m))) (with_operands all other (slots_of (Instruction m)) pieces (given (Instruction m))) (λ o. refl)
  name_count (Short Li) pieces = ap (λ r. word_count (items_or_fault (Short Li) r)) (li_same pieces (given (Short Li)))
  name_count (Short Nop) pieces = refl
  name_count (Short Mv) pieces = one_word (Short Mv) (with_operands some place (slots_of (Short Mv)) pieces (given (Short Mv))) (with_operands all other (slots_of (Short Mv)) pieces (given (Short Mv))) (λ o. refl)
  name_count (Short J) pieces = one_word (Short J) (with_operands some place (slots_of (Short J)) pieces (given (Short J))) (with_operands all other (slots_of (Short J)) pieces (given (Short J))) (λ o. refl)
  name_count (Short Ret) pieces = refl
  name_count (Short Word) pieces = one_word (Short Word) (with_operands some place (slots_of (Short Word)) pieces (given (Short Word))) (with_operands all other (slots_of (Short Word)) pieces (given (Short Word))) (λ o. refl)

  statement_count : (w : Written) (name : Option Name) → word_count (statement some place w name) ≡ word_count (statement all other w name)
  statement_count w None = refl
  statement_count w (Some name) = go (nat_eq (length w.operands) (length (slots_of name))) where
    go : (b : Bool) → word_count (if b then items_or_fault name (with_operands some place (slots_of name) w.operands (given name)) else Err (BadOperand w.name.span)) ≡ word_count (if b then items_or_fault name (with_operands all other (slots_of name) w.operands (given name)) else Err (BadOperand w.name.span))
    go true = name_count name w.operands
    go false = refl

  written_count : (w : Option Written) → word_count (statement_of some place w) ≡ word_count (statement_of all other w)
  written_count None = refl
  written_count (Some w) = statement_count w (name_of w.name.text)

-- and a line has, where both agree on what stands on earlier lines
module _ (some all : Labels) (place : ℕ) where
  module _ (row : Row) (agree : (name : List ℕ) → is_earlier row.number (some name) ≡ is_earlier row.number (all name)) where
    after_count : (label : Option Piece) → word_count (after_label some row.number label (statement_of some place (written (labelled row).rest))) ≡ word_count (after_label all row.number label (statement_of all place (written (labelled row).rest)))
    after_count None = written_count some all place place (written (labelled row).rest)
    after_count (Some piece) =
        ap (λ b. word_count (if b then Err (TwiceLabel (with_colon piece.span)) else statement_of some place (written (labelled row).rest))) (agree piece.text)
        ∙ go (is_earlier row.number (all piece.text))
      where
        go : (b : Bool) → word_count (if b then Err (TwiceLabel (with_colon piece.span)) else statement_of some place (written (labelled row).rest)) ≡ word_count (if b then Err (TwiceLabel (with_colon piece.span)) else statement_of all place (written (labelled row).rest))
        go true = refl
        go false = written_count some all place place (written (labelled row).rest)

    line_count : word_count (line_items some place row) ≡ word_count (line_items all place row)
    line_count = after_count (labelled row).label

-- a line adds its label where it is new, and changes no other
module _ (labels : Labels) (label : Label) (name : List ℕ) where
  pub label_stays : (found : Option Piece) (old : Label) → labels name ≡ Some old → with_label labels found label name ≡ Some old
  label_stays None old e = e
  label_stays (Some piece) old e = go (labels piece.text) refl where
    go : (there : Option Label) → labels piece.text ≡ there → added labels piece.text label there name ≡ Some old
    go (Some other) is = e
    go None is = inner (bytes_eq piece.text name) refl where
      inner : (b : Bool) → bytes_eq piece.text name ≡ b → (if b then Some label else labels name) ≡ Some old
      inner true same = absurd (let e2 : labels piece.text ≡ labels name = ap labels ((bytes_eq-Decides piece.text name).0 same) in cc)
      inner false other = e

  pub label_new : (found : Option Piece) → labels name ≡ None → has_label name found ≡ true → with_label labels found label name ≡ Some label
  label_new None none has = cc
  label_new (Some piece) none has =
      let same : piece.text ≡ name = (bytes_eq-Decides piece.text name).0 has in
      let there : labels piece.text ≡ None = ap labels same ∙ none in
      ap (λ o. added labels piece.text label o name) there ∙ rw has refl

  pub label_other : (found : Option Piece) → has_label name found ≡ false → with_label labels found label name ≡ labels name
  label_other None has = refl
  label_other (Some piece) has = go (labels piece.text) where
    go : (there : Option Label) → added labels piece.text label there name ≡ labels name
    go (Some other) = refl
    go None = rw has refl

  label_late : (n : ℕ) (found : Option Piece) → n ≤ label.line → is_earlier n (labels name) ≡ false → is_earlier n (with_label labels found label name) ≡ false
  label_late n None late e = e
  label_late n (Some piece) late e = go (labels piece.text) where
    go : (there : Option Label) → is_earlier n (added labels piece.text label there name) ≡ false
    go (Some other) = e
    go None = inner (bytes_eq piece.text name) where
      inner : (b : Bool) → is_earlier n (if b then Some label else labels name) ≡ false
      inner true = grind (arith, nat_tests)
      inner false = e

-- lines in the order of their numbers
abbrev LinesFrom : ℕ → List Row → Type 0
LinesFrom n [] = Unit {0}
LinesFrom n (row ∷ rows) = (n ≤ row.number) × LinesFrom row.number rows

lines_before : (m n : ℕ) (rows : List Row) → n ≤ m → LinesFrom m rows → LinesFrom n rows
lines_before m n [] le h = tt
lines_before m n (row ∷ rows) le h = (let first = h.0 in omega arith, h.1)

lines_ordered : (number start : ℕ) (texts : List (List ℕ)) → LinesFrom number (rows_from number start texts)
lines_ordered number start [] = tt
lines_ordered number start (text ∷ texts) =
    (omega arith, lines_before (number + 1) number (rows_from (number + 1) (start + length text + 1) texts) (omega arith) (lines_ordered (number + 1) (start + length text + 1) texts))

-- lines whose numbers follow each other
abbrev LinesUp : ℕ → List Row → Type 0
LinesUp n [] = Unit {0}
LinesUp n (row ∷ rows) = (n ≡ row.number) × LinesUp (row.number + 1) rows

lines_up : (number start : ℕ) (texts : List (List ℕ)) → LinesUp number (rows_from number start texts)
lines_up number start [] = tt
lines_up number start (text ∷ texts) = (refl, lines_up (number + 1) (start + length text + 1) texts)

-- what stands before the first that passes a test, where the first of all does not
module _ {X : Type 0} (p : X → Bool) (x : X) (xs : List X) (fails : p x ≡ false) where
  before_later : before_first p (x ∷ xs) ≡ x ∷ before_first p xs
  before_later = let later : position_or_len p (x ∷ xs) ≡ suc (position_or_len p xs) = rw fails (omega arith) in ap (λ n. take n (x ∷ xs)) later

  find_later : find p (x ∷ xs) ≡ find p xs
  find_later = rw fails refl

-- so a label that a line has stays, and those that come later stand on later lines
stays_from : (labels : Labels) (place : ℕ) (rows : List Row) (name : List ℕ) (old : Label) → labels name ≡ Some old → labels_from labels place rows name ≡ Some old
stays_from labels place [] name old e = e
stays_from labels place (row ∷ rows) name old e =
    let label : Label = record { line = row.number; place = place } in
    stays_from (with_label labels (labelled row).label label) (place + word_count (line_items labels place row)) rows name old (label_stays labels label name (labelled row).label old e)

late_from : (n : ℕ) (labels : Labels) (place : ℕ) (rows : List Row) (name : List ℕ) → LinesFrom n rows → is_earlier n (labels name) ≡ false → is_earlier n (labels_from labels place rows name) ≡ false
late_from n labels place [] name late e = e
late_from n labels place (row ∷ rows) name late e =
    let label : Label = record { line = row.number; place = place } in
    late_from n (with_label labels (labelled row).label label) (place + word_count (line_items labels place row)) rows name
    (lines_before row.number n rows late.0 late.1) (label_late labels label name n (labelled row).label late.0 e)

agree_from : (n : ℕ) (labels : Labels) (place : ℕ) (rows : List Row) (name : List ℕ) → LinesFrom n rows → is_earlier n (labels name) ≡ is_earlier n (labels_from labels place rows name)
agree_from n labels place rows name late = go (labels name) refl where
  go : (there : Option Label) → labels name ≡ there → is_earlier n (labels name) ≡ is_earlier n (labels_from labels place rows name)
  go (Some old) is = ap (is_earlier n) is ∙ sym (ap (is_earlier n) (stays_from labels place rows name old is))
  go None is = ap (is_earlier n) is ∙ sym (late_from n labels place rows name late (ap (is_earlier n) is))

-- each label is the first of its name
label_stands : (n : ℕ) (labels all : Labels) (place : ℕ) (rows : List Row) (name : List ℕ) → LinesFrom n rows → labels_from labels place rows ≡ all → labels name ≡ None → all name ≡ label_among all name place rows
label_stands n labels all place [] name late e none = sym (ap (λ f. f name) e) ∙ none
label_stands n labels all place (row ∷ rows) name late e none =
    go (has_label name (labelled row).label) refl
    (λ others. label_stands row.number (with_label labels (labelled row).label (record { line = row.number; place = place })) all (place + word_count (line_items labels place row)) rows name late.1 e others)
  where
    agree : (other : List ℕ) → is_earlier row.number (labels other) ≡ is_earlier row.number (all other)
    agree other = agree_from row.number labels place (row ∷ rows) other (omega arith, late.1) ∙ ap (λ f. is_earlier row.number (f other)) e

    go : (b : Bool) → has_label name (labelled row).label ≡ b → (with_label labels (labelled row).label (record { line = row.number; place = place }) name ≡ None → all name ≡ label_among all name (place + word_count (line_items labels place row)) rows) → all name ≡ (if b then Some (record { line = row.number; place = place }) else label_among all name (place + word_count (line_items all place row)) rows)
    go true is rest =
        sym (ap (λ f. f name) e)
        ∙ stays_from (with_label labels (labelled row).label (record { line = row.number; place = place })) (place + word_count (line_items labels place row)) rows name (record { line = row.number; place = place }) (label_new labels (record { line = row.number; place = place }) name (labelled row).label none is)
    go false is rest =
        rest (label_other labels (record { line = row.number; place = place }) name (labelled row).label is ∙ none)
        ∙ ap (λ k. label_among all name (place + k) rows) (line_count labels all place row agree)

-- the labels up to now are those of the lines before, and all stand on earlier lines
record AreOf (n : ℕ) (labels : Labels) (before : List Row) : Type 0 where
  there : (name : List ℕ) → is_some (labels name) ≡ list_any (bears name) before
  earlier : (name : List ℕ) → IfSome (labels name) (λ label. label.line < n)

is_there : (n : ℕ) (found : Option Label) → IfSome found (λ label. label.line < n) → is_earlier n found ≡ is_some found
is_there n None h = refl
is_there n (Some label) h = grind (arith, nat_tests)

-- a line's count by the lines before it
plain_count : (labels : Labels) (place : ℕ) (before : List Row) (row : Row) → AreOf row.number labels before → word_count (line_items labels place row) ≡ count_after before row
plain_count labels place before row are = go (labelled row).label where
  own : word_count (statement_of labels place (written (labelled row).rest)) ≡ word_count (statement_of no_labels 0 (written (labelled row).rest))
  own = written_count labels no_labels place 0 (written (labelled row).rest)

  go : (label : Option Piece) → word_count (after_label labels row.number label (statement_of labels place (written (labelled row).rest))) ≡ (if repeats before label then 1 else word_count (statement_of no_labels 0 (written (labelled row).rest)))
  go None = own
  go (Some piece) =
      ap (λ b. word_count (if b then Err (TwiceLabel (with_colon piece.span)) else statement_of labels place (written (labelled row).rest)))
      (is_there row.number (labels piece.text) (are.earlier piece.text) ∙ are.there piece.text)
      ∙ inner (list_any (bears piece.text) before)
    where
      inner : (b : Bool) → word_count (if b then Err (TwiceLabel (with_colon piece.span)) else statement_of labels place (written (labelled row).rest)) ≡ (if b then 1 else word_count (statement_of no_labels 0 (written (labelled row).rest)))
      inner true = refl
      inner false = own

-- a line's label stands among those of the lines after it
are_more : (m n : ℕ) (labels : Labels) (before : List Row) (row : Row) (label : Label) → AreOf m labels before → label.line < n → m ≤ n → AreOf n (with_label labels (labelled row).label label) (row ∷ before)
are_more m n labels before row label are line le = record {
  there = λ name. there name (labels name) refl (bears name row) refl;
  earlier = λ name. earlier name (labels name) refl (bears name row) refl;
} where
  there : (name : List ℕ) (old : Option Label) → labels name ≡ old → (b : Bool) → bears name row ≡ b → is_some (with_label labels (labelled row).label label name) ≡ (bears name row || list_any (bears name) before)
  there name (Some old) is b has =
      ap is_some (label_stays labels label name (labelled row).label old is)
      ∙ (let e : list_any (bears name) before ≡ true = sym (are.there name) ∙ ap is_some is in grind (arith, e))
  there name None is true has = ap is_some (label_new labels label name (labelled row).label is has) ∙ rw has refl
  there name None is false has = ap is_some (label_other labels label name (labelled row).label has) ∙ are.there name ∙ rw has refl

  earlier : (name : List ℕ) (old : Option Label) → labels name ≡ old → (b : Bool) → bears name row ≡ b → IfSome (with_label labels (labelled row).label label name) (λ l. l.line < n)
  earlier name (Some old) is b has =
      let less : old.line < m = subst (λ (o : Option Label). IfSome o (λ l. l.line < m)) is (are.earlier name) in
      rw (label_stays labels label name (labelled row).label old is) (omega arith)
  earlier name None is true has = rw (label_new labels label name (labelled row).label is has) line
  earlier name None is false has = rw (label_other labels label name (labelled row).label has ∙ is) tt

-- so the pass finds the first line of each name
plain_from : (n : ℕ) (labels : Labels) (before : List Row) (place : ℕ) (rows : List Row) (name : List ℕ) → LinesUp n rows → AreOf n labels before → labels name ≡ None
    → labels_from labels place rows name ≡ option_map (λ row. record { line = row.number; place = place + count_from before (before_first (bears name) rows) }) (find (bears name) rows)
plain_from n labels before place [] name up are none = none
plain_from n labels before place (row ∷ rows) name up are none =
    go (bears name row) refl
    (λ others. plain_from (row.number + 1) (with_label labels (labelled row).label (record { line = row.number; place = place })) (row ∷ before) (place + word_count (line_items labels place row)) rows name up.1
    (are_more n (row.number + 1) labels before row (record { line = row.number; place = place }) are (omega arith) (let first = up.0 in omega arith)) others)
  where
    label : Label
    label = record { line = row.number; place = place }

    count : word_count (line_items labels place row) ≡ count_after before row
    count = plain_count labels place before row (let first : n ≡ row.number = up.0 in subst (λ (k : ℕ). AreOf k labels before) first are)

    go : (b : Bool) → bears name row ≡ b → (with_label labels (labelled row).label label name ≡ None → labels_from (with_label labels (labelled row).label label) (place + word_count (line_items labels place row)) rows name ≡ option_map (λ found. record { line = found.number; place = place + word_count (line_items labels place row) + count_from (row ∷ before) (before_first (bears name) rows) }) (find (bears name) rows))
        → labels_from (with_label labels (labelled row).label label) (place + word_count (line_items labels place row)) rows name ≡ option_map (λ found. record { line = found.number; place = place + count_from before (before_first (bears name) (row ∷ rows)) }) (find (bears name) (row ∷ rows))
    go true is rest =
        stays_from (with_label labels (labelled row).label label) (place + word_count (line_items labels place row)) rows name label (label_new labels label name (labelled row).label none is)
        ∙ rw (is) (ap (λ k. Some (record { line = row.number; place = k })) (let e : place ≡ place + 0 = omega arith in e))
    go false is rest =
        let sum : place + word_count (line_items labels place row) + count_from (row ∷ before) (before_first (bears name) rows) ≡ place + count_from before (row ∷ before_first (bears name) rows) = let c = count in omega arith in
        rest (label_other labels label name (labelled row).label is ∙ none)
        ∙ ap (λ k. option_map (λ found. record { line = found.number; place = k }) (find (bears name) rows)) sum
        ∙ ap (λ front. option_map (λ found. record { line = found.number; place = place + count_from before front }) (find (bears name) rows)) (sym (before_later (bears name) row rows is))
        ∙ ap (option_map (λ found. record { line = found.number; place = place + count_from before (before_first (bears name) (row ∷ rows)) })) (sym (find_later (bears name) row rows is))

none_before : AreOf 1 no_labels []
none_before = record { there = λ name. refl; earlier = λ name. tt }

pub labels_are : (text : List ℕ) → labels_from no_labels 0 (lines text) ≡ labels_of text
unfolding labels_of lines
labels_are text = fun_ext (λ name.
    let place = count_from [] (before_first (bears name) (lines text)) in
    let none : 0 + place ≡ place = omega arith in
    plain_from 1 no_labels [] 0 (lines text) name (lines_up 1 0 (line_texts text)) none_before refl
    ∙ ap (λ k. option_map (λ row. record { line = row.number; place = k }) (find (bears name) (lines text))) none)

pub labels_stand : (text name : List ℕ) → labels_of text name ≡ label_among (labels_of text) name 0 (lines text)
unfolding lines
labels_stand text name =
    label_stands 1 no_labels (labels_of text) 0 (lines text) name (lines_ordered 1 0 (line_texts text)) (labels_are text) refl
