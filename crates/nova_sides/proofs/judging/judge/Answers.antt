use Rattle.std.proofs.Common.{rules, ◌≡◌, ◌∙◌, sym, ap, List, find, Some, None}
use Rattle.nova_ties.specs.Ties.{is_broken, label_in}
use Rattle.nova_ties.specs.declared.tie.Tie.{Tie}
use Rattle.law_sides.specs.Tied.{ties}
use Rattle.law_sides.specs.Resting.{IsAtRest}
use Rattle.nova_sides.specs.Among.{flows_in, is_among, is_flow}
use Rattle.nova_sides.specs.Verdicts.{IsRestless}
use Rattle.nova_sides.proofs.Verdicts.{breach_found, isolation_found, restless_not}
use Rattle.nova_sides.proofs.judging.judge.Goals as goal

pub returns-in-Some : goal.returns-in-Some
returns-in-Some c =
    let same : c.deref.result.now ≡ ties (is_among c.args.shared.now) (flows_in c.args.flows.now c.args.labels.now) c.args.kernel.now.state = search rules in
    let found : find (is_broken (label_in c.args.labels.now)) (ties (is_among c.args.shared.now) (flows_in c.args.flows.now c.args.labels.now) c.args.kernel.now.state) ≡ Some c.in-Some.tie =
    ap (λ (l : List Tie). find (is_broken (label_in c.args.labels.now)) l) (sym same) ∙ sym c.first_broken.ensures ∙ c.in-Some.is in
    record { judged = breach_found (is_among c.args.shared.now) (is_flow c.args.flows.now) c.args.kernel.now.state (label_in c.args.labels.now) c.in-Some.tie found }

pub returns-in-Some-first_restless : goal.returns-in-Some-first_restless
returns-in-Some-first_restless c =
    let same : c.deref.result.now ≡ ties (is_among c.args.shared.now) (flows_in c.args.flows.now c.args.labels.now) c.args.kernel.now.state = search rules in
    let found : find (is_broken (label_in c.args.labels.now)) (ties (is_among c.args.shared.now) (flows_in c.args.flows.now c.args.labels.now) c.args.kernel.now.state) ≡ None =
    ap (λ (l : List Tie). find (is_broken (label_in c.args.labels.now)) l) (sym same) ∙ sym c.first_broken.ensures ∙ c.in-None.is in
    let why : IsRestless c.args.kernel.now.state (label_in c.args.labels.now) c.in-Some-first_restless.why = c.in-Some-first_restless.ensures.why in
    record {
      judged = (
        isolation_found (is_among c.args.shared.now) (is_flow c.args.flows.now) c.args.kernel.now.state (label_in c.args.labels.now) c.actor.ensures.reached.sound.kept.tables found,
        (why, restless_not c.args.kernel.now.state (label_in c.args.labels.now) c.in-Some-first_restless.why why),
      );
    }

pub returns : goal.returns
returns c =
    let same : c.deref.result.now ≡ ties (is_among c.args.shared.now) (flows_in c.args.flows.now c.args.labels.now) c.args.kernel.now.state = search rules in
    let found : find (is_broken (label_in c.args.labels.now)) (ties (is_among c.args.shared.now) (flows_in c.args.flows.now c.args.labels.now) c.args.kernel.now.state) ≡ None =
    ap (λ (l : List Tie). find (is_broken (label_in c.args.labels.now)) l) (sym same) ∙ sym c.first_broken.ensures ∙ c.in-None.is in
    let rest : IsAtRest c.args.kernel.now.state (label_in c.args.labels.now) = c.in-None-first_restless.ensures.rest in
    record { judged = (isolation_found (is_among c.args.shared.now) (is_flow c.args.flows.now) c.args.kernel.now.state (label_in c.args.labels.now) c.actor.ensures.reached.sound.kept.tables found, rest) }
