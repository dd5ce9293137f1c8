use Rattle.std.proofs.Common.{◌∙◌, ap₂}
use Rattle.std.proofs.lemmas.Result.{IfOk-weaker}
use Rattle.clap.specs.Simple.{with_rule}
use Rattle.nova_explore.proofs.form.named.Goals as goal

-- one argument after another
pub returns : goal.returns
returns c =
    let one = c.in_ok-arg.ensures.shape c.new-2.ensures.optional.1 ∙ ap₂ with_rule c.new.ensures.app c.new-2.ensures.rule in
    IfOk-weaker c.arg-2.result _ _ (λ command adds. adds.shape c.new-3.ensures.optional.1 ∙ ap₂ with_rule one c.new-3.ensures.rule) c.arg-2.ensures
