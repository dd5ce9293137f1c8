use Rattle.std.proofs.Common.{◌≡◌, ap, Result, Err, rules}
use Rattle.nova_io.specs.Outside.{depots}
use Rattle.nova_answers.specs.Prepared.{exit_of}
use Rattle.nova_answers.specs.declared.exit.Exit.{Exit}
use Rattle.nova_answers.specs.declared.outcome.Outcome.{Outcome}
use Rattle.nova_pair.proofs.Twins.{first_unfollowed, second_unfollowed, compared_by, first_fetched, second_fetched, all_fetched}
use Rattle.nova_pair.proofs.guests.both.Goals as goal

pub returns-in_err-first-clause-prepared : goal.returns-in_err-first-clause-prepared
returns-in_err-first-clause-prepared g c = λ name before came kept.
    let is : c.from_residual.result ≡ Err c.in_err-first.field-0.0 = search rules in
    first_unfollowed (depots g.D.Depot.files g.D.Depot.gave g.D.Depot.fetch_failed g.D.Depot.fetch_faults g.D.Depot.took g.D.Depot.append_failed g.D.Depot.append_faults) name c.args.limit c.args.subjects.now before c.args.depot.now c.follow_at.new.depot
    c.in_err-first.field-0.0 c.from_residual.result is came kept c.in_err-first.ensures.counts c.in_err-first.ensures.followed

pub returns-in_err-first-clause-fetches : goal.returns-in_err-first-clause-fetches
returns-in_err-first-clause-fetches g c = λ name before came text.
    let is : c.from_residual.result ≡ Err c.in_err-first.field-0.0 = search rules in
    first_fetched (depots g.D.Depot.files g.D.Depot.gave g.D.Depot.fetch_failed g.D.Depot.fetch_faults g.D.Depot.took g.D.Depot.append_failed g.D.Depot.append_faults) name c.args.limit c.args.subjects.now before c.args.depot.now c.follow_at.new.depot
    c.in_err-first.field-0.0 (exit_of c.from_residual.result) (ap (λ (r : Result Outcome Exit). exit_of r) is) came text c.in_err-first.ensures.fetches

pub returns-in_err-second-clause-prepared : goal.returns-in_err-second-clause-prepared
returns-in_err-second-clause-prepared g c = λ name before came kept.
    let is : c.from_residual-in_err-second.result ≡ Err c.in_err-second.field-0.0 = search rules in
    second_unfollowed (depots g.D.Depot.files g.D.Depot.gave g.D.Depot.fetch_failed g.D.Depot.fetch_faults g.D.Depot.took g.D.Depot.append_failed g.D.Depot.append_faults) name c.args.limit c.args.subjects.now before c.args.depot.now c.follow_at.new.depot c.follow_at-2.new.depot c.in_ok-first.first
    c.in_err-second.field-0.0 c.from_residual-in_err-second.result is came c.in_ok-first.ensures.followed kept c.in_ok-first.ensures.counts
    c.in_err-second.ensures.counts c.in_err-second.ensures.followed

pub returns-in_err-second-clause-fetches : goal.returns-in_err-second-clause-fetches
returns-in_err-second-clause-fetches g c = λ name before came text.
    let is : c.from_residual-in_err-second.result ≡ Err c.in_err-second.field-0.0 = search rules in
    second_fetched (depots g.D.Depot.files g.D.Depot.gave g.D.Depot.fetch_failed g.D.Depot.fetch_faults g.D.Depot.took g.D.Depot.append_failed g.D.Depot.append_faults) name c.args.limit c.args.subjects.now before c.args.depot.now c.follow_at.new.depot c.follow_at-2.new.depot c.in_ok-first.first
    c.in_err-second.field-0.0 (exit_of c.from_residual-in_err-second.result) (ap (λ (r : Result Outcome Exit). exit_of r) is) came text
    c.in_ok-first.ensures.followed c.in_ok-first.ensures.fetches c.in_err-second.ensures.fetches

pub returns-clause-prepared : goal.returns-clause-prepared
returns-clause-prepared g c = λ name before came kept.
    compared_by (depots g.D.Depot.files g.D.Depot.gave g.D.Depot.fetch_failed g.D.Depot.fetch_faults g.D.Depot.took g.D.Depot.append_failed g.D.Depot.append_faults) name c.args.limit c.args.subjects.now before c.args.depot.now c.follow_at.new.depot c.follow_at-2.new.depot c.in_ok-first.first c.in_ok-second.second
    c.compared.result came c.in_ok-first.ensures.followed c.in_ok-second.ensures.followed c.compared.ensures.verdict c.compared.ensures.memory

pub returns-clause-fetches : goal.returns-clause-fetches
returns-clause-fetches g c = λ name before came text.
    all_fetched (depots g.D.Depot.files g.D.Depot.gave g.D.Depot.fetch_failed g.D.Depot.fetch_faults g.D.Depot.took g.D.Depot.append_failed g.D.Depot.append_faults) name c.args.limit c.args.subjects.now before c.args.depot.now c.follow_at.new.depot c.follow_at-2.new.depot c.in_ok-first.first
    c.compared.result c.compared.ensures.memory came text c.in_ok-first.ensures.followed c.in_ok-first.ensures.fetches c.in_ok-second.ensures.fetches
