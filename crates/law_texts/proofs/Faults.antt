-- A fault at a line of a text whose blocks are closed stays, whatever comes behind.
use Rattle.std.proofs.Common.{◌≡◌, ℕ, ◌+◌, ◌-◌, ◌<◌, ◌≤◌, ◌||◌, Bool, true, false, not, List, [], ◌∷◌, ◌++◌, length, map, take, drop, Option, Some, None, refl, ap, sym, ◌∙◌, subst, inl, inr, arith}
use Rattle.std.proofs.lemmas.Bool.{cases_lt}
use Rattle.std.specs.Prelude.{◌⊎◌, is_some, slice_range, Result, Ok, Err}
use Rattle.std.specs.List.{AllByRecursion, before_first, find, position_or_len}
use Rattle.std.specs.Option.{option_or}
use Rattle.std.proofs.lemmas.List.{drop-append-le, length-drop, take-append-le}
use Rattle.std.proofs.lemmas.List.Folds.{find-append}
use Rattle.nova_text.specs.Line.{Row, lines, piece_of_row}
use Rattle.nova_text.specs.Piece.{AreSlicesBetween}
use Rattle.nova_text.proofs.SliceLemmas.{slices-lines}
use Rattle.rv_asm.specs.Program.{assembled}
use Rattle.nova_scenario.specs.Fault.{At, and_then, on_line}
use Rattle.nova_scenario.specs.Images.{Draft, begun, empty}
use Rattle.nova_scenario.specs.Items.{Block, block, is_end, item_before, items}
use Rattle.nova_scenario.specs.Scenario.{block_bytes, ended, finished, or_missing, read_items, scenario, with_block, with_bytes}
use Rattle.nova_scenario.specs.Segments.{with_settings}
use Rattle.nova_scenario.specs.Settings.{with_setting}
use Rattle.nova_scenario.specs.Sources.{closing, with_source}
use Rattle.nova_scenario.specs.Statement.{said}
use Rattle.nova_scenario.specs.Words.{asm_by, forbidden_in, in_bytes, place_after, place_of_end, text_of}
use Rattle.nova_scenario.specs.declared.fault.Why.{Why}
use Rattle.nova_scenario.specs.declared.scenario.Scenario.{Scenario}
use Rattle.nova_scenario.specs.declared.statement.Form.{Form}
use Rattle.nova_scenario.specs.declared.statement.Form.TheVariants as form
use Rattle.nova_scenario.specs.declared.statement.Head.{Head}
use Rattle.nova_scenario.specs.declared.statement.Statement.{Statement}
use Rattle.nova_scenario.specs.declared.statement.Statement.TheVariants.{Sets, Adds, Begins}
use Rattle.law_texts.specs.Faults.{AreClosed, begins_none}

-- WHAT IS CLOSED

found_in : (o : Option Row) → is_some o ≡ true → (r : Row) × (o ≡ Some r)
found_in (Some r) is = (r, refl)
found_in None is = cc

find_more : (rows more : List Row) (r : Row) → find is_end rows ≡ Some r → find is_end (rows ++ more) ≡ Some r
find_more rows more r is = find-append is_end rows more ∙ ap (λ o. option_or o (find is_end more)) is

place_more : (rows more : List Row) (r : Row) → find is_end rows ≡ Some r → (position_or_len is_end (rows ++ more) ≡ position_or_len is_end rows) × (position_or_len is_end rows ≤ length rows)
place_more [] more r is = cc
place_more (row ∷ rows) more r is = go (place_more rows more r) (is_end row) refl where
  go : (find is_end rows ≡ Some r → (position_or_len is_end (rows ++ more) ≡ position_or_len is_end rows) × (position_or_len is_end rows ≤ length rows)) → (b : Bool) → is_end row ≡ b →
      (position_or_len is_end (row ∷ rows ++ more) ≡ position_or_len is_end (row ∷ rows)) × (position_or_len is_end (row ∷ rows) ≤ length (row ∷ rows))
  go rest true t = rw t (refl, omega arith)
  go rest false t =
      let later = rest (rw t at is) in
      rw t (ap (λ n. 1 + n) later.0, (let few = later.1 in omega arith))

lines_more : (rows more : List Row) (r : Row) → find is_end rows ≡ Some r → before_first is_end (rows ++ more) ≡ before_first is_end rows
lines_more rows more r is =
    let places = place_more rows more r is in
    ap (λ n. take n (rows ++ more)) places.0 ∙ take-append-le (position_or_len is_end rows) rows more places.1

block_more : (row : Row) (rows more : List Row) (r : Row) → find is_end rows ≡ Some r → block row (rows ++ more) ≡ block row rows
block_more row rows more r is =
    let before = lines_more rows more r is in
    let end = find_more rows more r is ∙ sym is in
    λ i. record { first = row; lines = before i; end = end i }

-- THE BYTES OF A BLOCK

part_more : (a more : List ℕ) (i j : ℕ) → j ≤ length a → i ≤ j → slice_range (a ++ more) i j ≡ slice_range a i j
part_more a more i j within ordered =
    ap (take (j - i)) (drop-append-le i a more (omega arith)) ∙ take-append-le (j - i) (drop i a) more (let n = length-drop i a in omega arith)

none_between : (a more : List ℕ) (i j : ℕ) → j < i → slice_range (a ++ more) i j ≡ slice_range a i j
none_between a more i j less = let none : j - i ≡ 0 = omega arith in ap (λ n. take n (drop i (a ++ more))) none ∙ sym (ap (λ n. take n (drop i a)) none)

end_in : (a more : List ℕ) (i j : ℕ) → j ≤ length a → slice_range (a ++ more) i j ≡ slice_range a i j
end_in a more i j within = go (cases_lt j i) where
  go : (j < i) ⊎ (i ≤ j) → slice_range (a ++ more) i j ≡ slice_range a i j
  go (inl less) = none_between a more i j less
  go (inr ordered) = part_more a more i j within ordered

found_within : (n : ℕ) (rows : List Row) (r : Row) → AllByRecursion (λ row. row.start ≤ n) rows → find is_end rows ≡ Some r → r.start ≤ n
found_within n [] r all is = cc
found_within n (row ∷ rows) r all is = go (λ later. found_within n rows r all.1 later) (is_end row) refl where
  go : (find is_end rows ≡ Some r → r.start ≤ n) → (b : Bool) → is_end row ≡ b → r.start ≤ n
  go rest true t = let same : Some row ≡ Some r = rw t at is in let row_is : row ≡ r = cc in subst (λ (x : Row). x.start ≤ n) row_is all.0
  go rest false t = rest (rw t at is)

starts_within : (bytes : List ℕ) (at end : ℕ) (rows : List Row) → AreSlicesBetween bytes at end (map piece_of_row rows) → AllByRecursion (λ row. row.start ≤ length bytes) rows
starts_within bytes at end [] are = tt
starts_within bytes at end (row ∷ rows) are =
    ((let low = are.1.ordered in let high = are.1.within in omega arith), starts_within bytes (row.start + length row.text) end rows are.2)

and_then_same : {A B E : Type 0} (w : Result A E) (f g : A → Result B E) → ((x : A) → f x ≡ g x) → and_then w f ≡ and_then w g
and_then_same (Ok x) f g same = same x
and_then_same (Err e) f g same = refl

module _ (a x : List ℕ) (blk : Block) (e : Row) (end : blk.end ≡ Some e) (within : e.start ≤ length a) where
  text_more : text_of (a ++ x) blk ≡ text_of a blk
  text_more =
      ap (λ o. slice_range (a ++ x) (place_after blk.first) (place_of_end (length (a ++ x)) o)) end
      ∙ end_in a x (place_after blk.first) e.start within
      ∙ sym (ap (λ o. slice_range a (place_after blk.first) (place_of_end (length a) o)) end)

  bytes_more : (f : Form) → block_bytes (a ++ x) blk f ≡ block_bytes a blk f
  bytes_more form.Hex = refl
  bytes_more form.Asm = ap (λ text. in_bytes (asm_by blk.first.number text (forbidden_in blk.lines) (assembled text))) text_more
  bytes_more form.Elf = refl

  ended_more : (laid : Result Draft Why) → ended (a ++ x) blk.end laid ≡ ended a blk.end laid
  ended_more laid = ap (λ o. ended (a ++ x) o laid) end ∙ sym (ap (λ o. ended a o laid) end)

  whole_more : (d : Draft) (head : Head) → with_block (a ++ x) d head blk ≡ with_block a d head blk
  whole_more d head =
      and_then_same (on_line blk.first.number (begun d.settings head.address)) _ _ (λ address.
      ap (λ w. and_then {B = Draft} w (λ laid. ended (a ++ x) blk.end (with_bytes head.form d address laid))) (bytes_more head.form)
      ∙ and_then_same (block_bytes a blk head.form) _ _ (λ laid. ended_more (with_bytes head.form d address laid)))

-- ALL LINES

abbrev line_in : Result Scenario At → ℕ
line_in (Ok s) = 0
line_in (Err fault) = fault.line

or_cases : (p q : Bool) → (p || q) ≡ true → (p ≡ true) ⊎ (q ≡ true)
or_cases true q is = inl refl
or_cases false q is = inr is

module _ (a x : List ℕ) (f : At) (within : f.line ≤ length (lines a)) where
  at_end : (o : Option Scenario) (r : Result Scenario At) → or_missing a o ≡ Err f → r ≡ Err f
  at_end None r is = let place : f.line ≡ length (lines a) + 1 = ap line_in (sym is) in absurd (omega arith)
  at_end (Some s) r is = cc

  step_stays : (w : Result Draft At) (next other : Draft → Result Scenario At) → ((e : Draft) → next e ≡ Err f → other e ≡ Err f) → and_then w next ≡ Err f → and_then w other ≡ Err f
  step_stays (Err fault) next other each is = is
  step_stays (Ok e) next other each is = each e is

  abbrev ReadOn : List Row → List Row → Type 0
  ReadOn rows more = (m : Bool) (d : Draft) → read_items a d (items m rows) ≡ Err f → read_items (a ++ x) d (items m (rows ++ more)) ≡ Err f

  block_stays : (d : Draft) (row : Row) (rows more : List Row) (head : Head) (e : Row) → find is_end rows ≡ Some e → e.start ≤ length a → ReadOn rows more →
      and_then (with_block a (closing d) head (block row rows)) (λ next. read_items a next (items true rows)) ≡ Err f →
      and_then (with_block (a ++ x) (closing d) head (block row (rows ++ more))) (λ next. read_items (a ++ x) next (items true (rows ++ more))) ≡ Err f
  block_stays d row rows more head e end inside rest is =
      let same : with_block (a ++ x) (closing d) head (block row (rows ++ more)) ≡ with_block a (closing d) head (block row rows) =
      ap (λ (blk : Block). with_block (a ++ x) (closing d) head blk) (block_more row rows more e end) ∙ whole_more a x (block row rows) e end inside (closing d) head in
      ap (λ w. and_then w (λ next. read_items (a ++ x) next (items true (rows ++ more)))) same
      ∙ step_stays (with_block a (closing d) head (block row rows)) (λ next. read_items a next (items true rows)) (λ next. read_items (a ++ x) next (items true (rows ++ more))) (rest true) is

  line_stays : (d : Draft) (row : Row) (rows more : List Row) (s : Result (Option Statement) Why) → (begins_none s || is_some (find is_end rows)) ≡ true →
      AllByRecursion (λ r. r.start ≤ length a) rows → ReadOn rows more →
      read_items a d (item_before row s rows (λ in_block. items in_block rows)) ≡ Err f →
      read_items (a ++ x) d (item_before row s (rows ++ more) (λ in_block. items in_block (rows ++ more))) ≡ Err f
  line_stays d row rows more (Err why) closed starts rest is = is
  line_stays d row rows more (Ok None) closed starts rest is = rest false d is
  line_stays d row rows more (Ok (Some (Sets setting))) closed starts rest is = step_stays (on_line row.number (with_settings d (with_setting d.settings setting))) _ _ (rest false) is
  line_stays d row rows more (Ok (Some (Adds head))) closed starts rest is = step_stays (on_line row.number (with_source d head)) _ _ (rest false) is
  line_stays d row rows more (Ok (Some (Begins head))) closed starts rest is =
      let e = found_in (find is_end rows) closed in block_stays d row rows more head e.0 e.1 (found_within (length a) rows e.0 starts e.1) rest is

  lines_stay : (rows more : List Row) → AreClosed rows → AllByRecursion (λ r. r.start ≤ length a) rows → ReadOn rows more
  lines_stay [] more closed starts m d is = at_end (finished d) _ is
  lines_stay (row ∷ rows) more closed starts true d is = lines_stay rows more closed.1 starts.1 (not (is_end row)) d is
  lines_stay (row ∷ rows) more closed starts false d is = line_stays d row rows more (said row) closed.0 starts.1 (lines_stay rows more closed.1 starts.1) is

pub fault_stays : (a x : List ℕ) (more : List Row) (f : At) → scenario a ≡ Err f → f.line ≤ length (lines a) → AreClosed (lines a) → lines (a ++ x) ≡ lines a ++ more →
    scenario (a ++ x) ≡ Err f
unfolding scenario
fault_stays a x more f is within closed begins =
    ap (λ (rows : List Row). read_items (a ++ x) empty (items false rows)) begins
    ∙ lines_stay a x f within (lines a) more closed (starts_within a 0 (length a) (lines a) (slices-lines a)) false empty is
