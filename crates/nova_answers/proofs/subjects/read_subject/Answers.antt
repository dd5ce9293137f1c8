use Rattle.std.proofs.Common.{◌≡◌, ◌≤◌, true, Ok, ap, length, rules}
use Rattle.std.specs.List.{position_or_len}
use Rattle.nova_text.specs.Number.{number}
use Rattle.nova_answers.specs.Subjects.{at_line, guest_read, is_name, is_space}
use Rattle.nova_answers.proofs.TwoLines.{no_number, line_named}
use Rattle.nova_answers.proofs.subjects.read_subject.Goals as goal

pub returns-in_default-split_once : goal.returns-in_default-split_once
returns-in_default-split_once c =
    let beyond : length c.in-Some.rest.now ≤ position_or_len is_space c.in-Some.rest.now = search rules in
    ap (at_line c.args.number) (no_number c.args.line.now c.in-Some.rest.now c.in-Some.ensures.after beyond)

pub returns : goal.returns
returns c =
    let read : guest_read (number c.in-Some-split_once.guest.now) ≡ Ok c.in-Ok.guest = search rules in
    let named : is_name c.in-Some.scenario.now ≡ true = search rules in
    let named_too : is_name c.in-Some-split_once.order.now ≡ true = search rules in
    rw (c.in_ok-name_of.ensures, c.in_ok-name_of-2.ensures)
    (line_named c.args.number c.args.line.now c.in-Some.rest.now c.in-Some.scenario.now c.in-Some-split_once.order.now c.in-Some-split_once.guest.now c.in-Ok.guest
    c.in-Some.ensures.before c.in-Some.ensures.after c.in-Some-split_once.ensures.before c.in-Some-split_once.ensures.after read named named_too)
