use Rattle.std.proofs.Common.{rules, ◌≡◌, ◌<◌, ◌≤◌, inr, length}
use Rattle.std.proofs.lemmas.Result.{err_from_is_err_and}
use Rattle.std.specs.List.{position_or_len}
use Rattle.nova_order.specs.Text.{is_line_feed}
use Rattle.nova_order.proofs.LineLemmas.{goes_on, stops, ends_at, ends_well}
use Rattle.nova_order.proofs.OrderLemmas.{begun, line_read, read_is_order, read_is_within}
use Rattle.nova_order.proofs.order.Order.read.Goals as goal

pub loop-line-preserved : goal.loop-line-preserved
loop-line-preserved c =
    let within : position_or_len is_line_feed c.loop-line.rest.now < length c.loop-line.rest.now = search rules in
    let good = line_read c.args.cpus c.args.most _ _ c.in-Some.line.now c.in_ok-add_line.ensures.exact in (
      goes_on c.args.cpus c.args.most _ c.loop-line.rest.now _ c.loop-line.invariant.0 c.in-Some.line.now c.in-Some.after.now within c.in-Some.ensures.before c.in-Some.ensures.after _ c.in_ok-add_line.ensures.exact,
      inr (begun c.args.bytes.now c.args.cpus c.args.most _ c.loop-line.rest.now c.in-Some.line.now c.in-Some.after.now c.loop-line.invariant.1 within c.in-Some.ensures.before c.in-Some.ensures.after good),
    )

pub returns-in_err-add_line-clause-exact : goal.returns-in_err-add_line-clause-exact
returns-in_err-add_line-clause-exact c =
    let fault = c.in_err-add_line.field-0.0 in
    let within : position_or_len is_line_feed c.loop-line.rest.now < length c.loop-line.rest.now = search rules in
    let p = err_from_is_err_and c.from_residual.result c.from_residual.ensures.1 in
    rw (p.1, p.2) (stops c.args.cpus c.args.most _ c.loop-line.rest.now _ c.loop-line.invariant.0 c.in-Some.line.now c.in-Some.after.now within c.in-Some.ensures.before c.in-Some.ensures.after fault c.in_err-add_line.ensures.exact)

pub returns-in_err-add_line-clause-memory : goal.returns-in_err-add_line-clause-memory
returns-in_err-add_line-clause-memory c =
    let within : position_or_len is_line_feed c.loop-line.rest.now < length c.loop-line.rest.now = search rules in
    let p = err_from_is_err_and c.from_residual.result c.from_residual.ensures.1 in
    rw (p.1, p.2) (λ is.
    begun c.args.bytes.now c.args.cpus c.args.most _ c.loop-line.rest.now c.in-Some.line.now c.in-Some.after.now c.loop-line.invariant.1 within c.in-Some.ensures.before c.in-Some.ensures.after (c.in_err-add_line.ensures.memory is))

pub returns-then-not-is_empty-clause-exact : goal.returns-then-not-is_empty-clause-exact
returns-then-not-is_empty-clause-exact c =
    let beyond : length c.loop-line.rest.now ≤ position_or_len is_line_feed c.loop-line.rest.now = search rules in
    let some : 0 < length c.loop-line.rest.now = search rules in
    rw c.next_line.ensures (ends_at c.args.cpus c.args.most _ c.loop-line.rest.now _ c.loop-line.invariant.0 beyond some)

pub returns-clause-exact : goal.returns-clause-exact
returns-clause-exact c =
    let beyond : length c.loop-line.rest.now ≤ position_or_len is_line_feed c.loop-line.rest.now = search rules in
    let none : length c.loop-line.rest.now ≡ 0 = search rules in
    ends_well c.args.cpus c.args.most _ c.loop-line.rest.now _ c.loop-line.invariant.0 beyond none

pub returns-clause-order : goal.returns-clause-order
returns-clause-order c = read_is_order c.args.bytes.now c.args.cpus c.args.most _ (returns-clause-exact c) (search rules)

pub returns-clause-within : goal.returns-clause-within
returns-clause-within c = read_is_within c.args.bytes.now c.args.cpus c.args.most _ (returns-clause-exact c)
