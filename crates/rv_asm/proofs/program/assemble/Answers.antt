use Rattle.std.proofs.Common.{rules, ◌≡◌, true, List, subst, Err, Ok, sym, ap, ◌∙◌, length}
use Rattle.std.proofs.lemmas.Result.{err_from_is_err_and}
use Rattle.std.specs.List.{list_any}
use Rattle.nova_text.specs.Line.{Row, row_of, lines}
use Rattle.rv_asm.specs.Places.{places_of}
use Rattle.rv_asm.specs.Program.{line_items, words_of, says, takes_memory, assembled}
use Rattle.rv_asm.specs.Words.{words_in, line_shown}
use Rattle.rv_asm.proofs.Passes.{rest_words, words_begin, words_step, words_stop, or_memory, says_rest}
use Rattle.rv_asm.proofs.program.assemble.Goals as goal

pub loop-line-init : goal.loop-line-init
unfolding takes_memory
loop-line-init c =
    let labels = places_of c.in_ok-labels.labels in
    let here : c.into_iter-line-iterator.result ≡ lines c.args.text.now = c.into_iter-line-iterator.ensures.into_iter_gives ∙ c.new-line-items.ensures.lines in
    record {
      words = (λ i. rest_words labels (c.new-words.ensures.items i) (here i)) ∙ words_begin labels c.args.text.now c.in_ok-labels.ensures.labels;
      takes = subst (λ (rows : List Row). list_any says rows ≡ true → list_any says (lines c.args.text.now) ≡ true) (sym here) (λ h. h);
    }

pub returns-in_err-more-clause-exact : goal.returns-in_err-more-clause-exact
returns-in_err-more-clause-exact c =
    let labels = places_of c.in_ok-labels.labels in
    let row = row_of c.in-Some.line in
    let fault = c.in_err-more.field-0.0 in
    let place : c.len-place.result ≡ length c.loop-line.words.items = search rules in
    let is_fault : Err fault ≡ words_of (line_items labels (length c.loop-line.words.items) row) =
    sym (ap line_shown c.in_err-more.was) ∙ c.in_ok-line_words.ensures.words ∙ ap (λ n. words_of (line_items labels n row)) place in
    let stopped = words_stop labels c.loop-line.words.items c.loop-line.line-iterator (assembled c.args.text.now) c.loop-line.invariant.words row c.next.new.self fault c.in-Some.ensures.steps is_fault in
    let p = err_from_is_err_and c.from_residual-in_err-more.result c.from_residual-in_err-more.ensures.1 in
    rw (p.1, p.2) (or_memory (assembled c.args.text.now) fault stopped)

pub loop-line-preserved : goal.loop-line-preserved
loop-line-preserved c =
    let labels = places_of c.in_ok-labels.labels in
    let row = row_of c.in-Some.line in
    let place : c.len-place.result ≡ length c.loop-line.words.items = search rules in
    let is_more : Ok (words_in c.in_ok-more.more) ≡ words_of (line_items labels (length c.loop-line.words.items) row) =
    sym (ap line_shown c.in_ok-more.was) ∙ c.in_ok-line_words.ensures.words ∙ ap (λ n. words_of (line_items labels n row)) place in
    record {
      words = words_step labels c.loop-line.words.items c.loop-line.line-iterator (assembled c.args.text.now) c.loop-line.invariant.words row c.next.new.self (words_in c.in_ok-more.more) c.push_to.new.list.items c.in-Some.ensures.steps is_more c.in_ok-push_to.ensures.words;
      takes = says_rest row c.next.new.self c.loop-line.line-iterator c.in-Some.ensures.steps c.loop-line.invariant.takes;
    }
