use Rattle.std.proofs.Common.{rules, ◌≡◌, true, ◌+◌, ◌≤◌, ◌∷◌, sym, subst, ◌∙◌, List, length, arith}
use Rattle.std.specs.List.{list_any}
use Rattle.nova_text.specs.Line.{Row, row_of, lines}
use Rattle.rv_asm.specs.Places.{places_of}
use Rattle.rv_asm.specs.Program.{labels_of, says, takes_memory, line_items, word_count, words_of}
use Rattle.rv_asm.specs.Words.{line_shown}
use Rattle.rv_asm.proofs.Passes.{BeginsFrom, begins_lines, begins_before, counted, few_words, labels_from, labels_step, says_rest}
use Rattle.rv_asm.proofs.LabelPlaces.{labels_are}
use Rattle.rv_asm.proofs.program.labels_of.Goals as goal

pub loop-line-init : goal.loop-line-init
unfolding takes_memory
loop-line-init c =
    let here : c.into_iter-line-iterator.result ≡ lines c.args.text.now = c.into_iter-line-iterator.ensures.into_iter_gives ∙ c.new-line-items.ensures.lines in
    record {
      labels = (λ i. labels_from (c.new-labels.ensures i) 0 (here i)) ∙ labels_are c.args.text.now;
      takes = subst (λ (rows : List Row). list_any says rows ≡ true → list_any says (lines c.args.text.now) ≡ true) (sym here) (λ h. h);
      begins = subst (λ (rows : List Row). BeginsFrom 0 rows) (sym here) (begins_lines c.args.text.now);
    }

pub loop-line-preserved : goal.loop-line-preserved
loop-line-preserved c =
    let labels = places_of c.loop-line.labels in
    let place = c.loop-line.place in
    let row = row_of c.in-Some.line in
    let rows = c.next.new.self in
    let here = c.in-Some.ensures.steps in
    let shown : line_shown c.in_ok-words.words ≡ words_of (line_items labels place row) = search rules in
    let count : c.word_count-place.result ≡ word_count (line_items labels place row) =
    c.word_count-place.ensures.count ∙ counted (line_items labels place row) (line_shown c.in_ok-words.words) shown in
    let begins : BeginsFrom place (row ∷ rows) = subst (λ (all : List Row). BeginsFrom place all) here c.loop-line.invariant.begins in
    let few : word_count (line_items labels place row) ≤ length row.text + 1 =
    few_words labels place row (let two = c.word_count-place.ensures.bound in omega arith) in
    record {
      labels = labels_step labels place row rows c.loop-line.line-iterator here (places_of c.add_label.new.labels) (labels_of c.args.text.now) c.word_count-place.result (search rules) count c.loop-line.invariant.labels;
      takes = says_rest row rows c.loop-line.line-iterator here c.loop-line.invariant.takes;
      begins = begins_before (row.start + length row.text + 1) (place + c.word_count-place.result) rows (let first = begins.0 in omega arith) begins.1;
    }
