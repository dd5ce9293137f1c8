use Rattle.std.proofs.Common.{◌∙◌, ap₂}
use Rattle.std.proofs.lemmas.Result.{IfOk-weaker}
use Rattle.clap.specs.Simple.{with_rule}
use Rattle.nova_explore.proofs.form.form.Goals as goal

pub returns : goal.returns
returns c =
    let one = c.in_ok-arg.ensures.shape c.turns.ensures.local ∙ ap₂ with_rule c.in_ok-worded.ensures c.turns.ensures.rule in
    IfOk-weaker c.arg-2.result _ _ (λ command adds. adds.shape c.states.ensures.local ∙ ap₂ with_rule one c.states.ensures.rule) c.arg-2.ensures
