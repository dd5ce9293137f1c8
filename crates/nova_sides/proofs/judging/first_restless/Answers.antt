use Rattle.std.proofs.Common.{◌∙◌, sym, ap, List, find}
use Rattle.nova_model.specs.declared.delegation.Derivation.{Derivation}
use Rattle.nova_ties.specs.Ties.{label_in}
use Rattle.law_sides.specs.Resting.{is_leading}
use Rattle.nova_sides.proofs.Verdicts.{astray_why, leading_found, rest_why, stirring_why}
use Rattle.nova_sides.proofs.judging.first_restless.Goals as goal

pub returns-in-Some-clause-why : goal.returns-in-Some-clause-why
returns-in-Some-clause-why c = astray_why c.args.kernel.now.state c.args.labels.now c.in-Some.n (sym c.first_astray.ensures ∙ c.in-Some.is)

pub returns-in-Some-first_leading-clause-why : goal.returns-in-Some-first_leading-clause-why
returns-in-Some-first_leading-clause-why c =
    leading_found c.args.kernel.now.state (label_in c.args.labels.now) c.in-Some-first_leading.d
    (ap (λ (l : List Derivation). find (is_leading c.args.kernel.now.state (label_in c.args.labels.now)) l) (sym c.requires.list) ∙ sym c.first_leading.ensures ∙ c.in-Some-first_leading.is)

pub returns-in-Some-first_stirring-clause-why : goal.returns-in-Some-first_stirring-clause-why
returns-in-Some-first_stirring-clause-why c =
    stirring_why c.args.kernel.now.state (label_in c.args.labels.now) c.in-Some-first_stirring.n (sym c.first_stirring.ensures ∙ c.in-Some-first_stirring.is)

pub returns-in-None-first_stirring-clause-rest : goal.returns-in-None-first_stirring-clause-rest
returns-in-None-first_stirring-clause-rest c =
    rest_why c.args.kernel.now.state c.args.labels.now c.requires.tables (sym c.first_astray.ensures ∙ c.in-None.is)
    (ap (λ (l : List Derivation). find (is_leading c.args.kernel.now.state (label_in c.args.labels.now)) l) (sym c.requires.list) ∙ sym c.first_leading.ensures ∙ c.in-None-first_leading.is)
    (sym c.first_stirring.ensures ∙ c.in-None-first_stirring.is)
