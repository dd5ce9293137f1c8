use Rattle.std.proofs.Common.{◌∙◌, ap₂}
use Rattle.std.proofs.lemmas.Result.{IfOk-weaker}
use Rattle.clap.specs.Simple.{with_rule}
use Rattle.nova_explore.proofs.form.worded.Goals as goal

-- one argument after another
pub returns : goal.returns
returns c =
    let one = c.in_ok-arg.ensures.shape c.new.ensures.optional.1 ∙ ap₂ with_rule c.in_ok-named.ensures c.new.ensures.rule in
    let two = c.in_ok-arg-2.ensures.shape c.new-2.ensures.optional.1 ∙ ap₂ with_rule one c.new-2.ensures.rule in
    let three = c.in_ok-arg-3.ensures.shape c.new-3.ensures.optional.1 ∙ ap₂ with_rule two c.new-3.ensures.rule in
    IfOk-weaker c.arg-4.result _ _ (λ command adds. adds.shape c.new-4.ensures.optional.1 ∙ ap₂ with_rule three c.new-4.ensures.rule) c.arg-4.ensures
