use Rattle.std.proofs.Common.{◌≤◌, ◌∙◌, ℕ, List, length, sym, ap, arith}
use Rattle.std.specs.Prelude.{Option}
use Rattle.nova_ties.specs.Ties.{settled}
use Rattle.nova_ties.specs.declared.tie.Tie.{Tie}
use Rattle.nova_ties.proofs.Settling.{step_end, step_off, step_on, step_stops}
use Rattle.nova_ties.proofs.sides.settle_each.Goals as goal

pub returns-then-not-meet-clause-labels : goal.returns-then-not-meet-clause-labels
returns-then-not-meet-clause-labels c =
    let is = sym c.meet.ensures.is ∙ c.if-not-meet.true in
    step_stops c.args.ties.now c.loop-tie.labels c.args.labels.now c.meet.new.labels c.loop-tie.tie-index _ c.loop-tie-test.true c.loop-tie.invariant is c.meet.ensures.met

pub returns-then-not-meet-clause-stuck : goal.returns-then-not-meet-clause-stuck
returns-then-not-meet-clause-stuck c =
    let is = sym c.meet.ensures.is ∙ c.if-not-meet.true in
    sym (ap (λ (r : List ℕ × Option Tie). r.1) (step_off c.args.ties.now c.loop-tie.labels c.args.labels.now c.loop-tie.tie-index _ c.loop-tie-test.true c.loop-tie.invariant is))

pub loop-tie-preserved : goal.loop-tie-preserved
loop-tie-preserved c =
    let is = sym c.meet.ensures.is ∙ c.if-not-meet.false in
    ap (settled _) c.meet.ensures.met ∙ step_on c.args.ties.now c.loop-tie.labels c.args.labels.now c.loop-tie.tie-index _ c.loop-tie-test.true c.loop-tie.invariant is

pub returns-clause-labels : goal.returns-clause-labels
returns-clause-labels c =
    let all : length c.args.ties.now ≤ c.loop-tie.tie-index = omega arith in
    sym (ap (λ (r : List ℕ × Option Tie). r.0) (step_end c.args.ties.now c.loop-tie.labels c.args.labels.now c.loop-tie.tie-index all c.loop-tie.invariant))

pub returns-clause-stuck : goal.returns-clause-stuck
returns-clause-stuck c =
    let all : length c.args.ties.now ≤ c.loop-tie.tie-index = omega arith in
    sym (ap (λ (r : List ℕ × Option Tie). r.1) (step_end c.args.ties.now c.loop-tie.labels c.args.labels.now c.loop-tie.tie-index all c.loop-tie.invariant))
