use Rattle.std.proofs.Common.{◌≡◌, ◌<◌, ◌≤◌, length, rules}
use Rattle.std.proofs.lemmas.Result.{err_from_is_err_and}
use Rattle.std.specs.List.{position_or_len}
use Rattle.nova_answers.specs.Subjects.{is_line_feed}
use Rattle.nova_answers.proofs.TwoLines.{no_line, first_fault, one_line, second_fault, more_lines, all_read}
use Rattle.nova_answers.proofs.subjects.read_subjects.Goals as goal

pub returns-in_default : goal.returns-in_default
returns-in_default c =
    let beyond : length c.args.text.now ≤ position_or_len is_line_feed c.args.text.now = search rules in
    no_line c.args.text.now beyond

pub returns-in_err-first : goal.returns-in_err-first
returns-in_err-first c =
    let there : position_or_len is_line_feed c.args.text.now < length c.args.text.now = search rules in
    let p = err_from_is_err_and c.from_residual.result c.from_residual.ensures.1 in
    rw (p.1, p.2) (first_fault c.args.text.now c.in-Some.line.now c.in-Some.rest.now c.in_err-first.field-0.0
    (record { there = there; before = c.in-Some.ensures.before; after = c.in-Some.ensures.after }) c.in_err-first.ensures)

pub returns-in_default-split_once : goal.returns-in_default-split_once
returns-in_default-split_once c =
    let there : position_or_len is_line_feed c.args.text.now < length c.args.text.now = search rules in
    let beyond : length c.in-Some.rest.now ≤ position_or_len is_line_feed c.in-Some.rest.now = search rules in
    one_line c.args.text.now c.in-Some.line.now c.in-Some.rest.now c.in_ok-first.first
    (record { there = there; before = c.in-Some.ensures.before; after = c.in-Some.ensures.after }) c.in_ok-first.ensures beyond

pub returns-in_err-second : goal.returns-in_err-second
returns-in_err-second c =
    let there : position_or_len is_line_feed c.args.text.now < length c.args.text.now = search rules in
    let there_too : position_or_len is_line_feed c.in-Some.rest.now < length c.in-Some.rest.now = search rules in
    let p = err_from_is_err_and c.from_residual-in_err-second.result c.from_residual-in_err-second.ensures.1 in
    rw (p.1, p.2) (second_fault c.args.text.now c.in-Some.line.now c.in-Some.rest.now c.in-Some-split_once.line.now c.in-Some-split_once.rest.now c.in_ok-first.first c.in_err-second.field-0.0
    (record { there = there; before = c.in-Some.ensures.before; after = c.in-Some.ensures.after })
    (record { there = there_too; before = c.in-Some-split_once.ensures.before; after = c.in-Some-split_once.ensures.after }) c.in_ok-first.ensures c.in_err-second.ensures)

pub returns-then-not-is_empty : goal.returns-then-not-is_empty
returns-then-not-is_empty c =
    let there : position_or_len is_line_feed c.args.text.now < length c.args.text.now = search rules in
    let there_too : position_or_len is_line_feed c.in-Some.rest.now < length c.in-Some.rest.now = search rules in
    let some : 0 < length c.in-Some-split_once.rest.now = search rules in
    more_lines c.args.text.now c.in-Some.line.now c.in-Some.rest.now c.in-Some-split_once.line.now c.in-Some-split_once.rest.now c.in_ok-first.first c.in_ok-second.second
    (record { there = there; before = c.in-Some.ensures.before; after = c.in-Some.ensures.after })
    (record { there = there_too; before = c.in-Some-split_once.ensures.before; after = c.in-Some-split_once.ensures.after }) c.in_ok-first.ensures c.in_ok-second.ensures some

pub returns : goal.returns
returns c =
    let there : position_or_len is_line_feed c.args.text.now < length c.args.text.now = search rules in
    let there_too : position_or_len is_line_feed c.in-Some.rest.now < length c.in-Some.rest.now = search rules in
    let none : length c.in-Some-split_once.rest.now ≡ 0 = search rules in
    all_read c.args.text.now c.in-Some.line.now c.in-Some.rest.now c.in-Some-split_once.line.now c.in-Some-split_once.rest.now c.in_ok-first.first c.in_ok-second.second
    (record { there = there; before = c.in-Some.ensures.before; after = c.in-Some.ensures.after })
    (record { there = there_too; before = c.in-Some-split_once.ensures.before; after = c.in-Some-split_once.ensures.after }) c.in_ok-first.ensures c.in_ok-second.ensures none
