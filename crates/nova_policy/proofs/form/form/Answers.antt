use Rattle.std.proofs.Common.{◌∙◌, ap₂}
use Rattle.std.proofs.lemmas.Result.{IfOk-weaker}
use Rattle.clap.specs.Simple.{with_rule}
use Rattle.nova_policy.proofs.form.form.Goals as goal

-- one argument after another
pub returns : goal.returns
returns c =
    let one = c.in_ok-arg.ensures.shape c.new-2.ensures.optional.1 ∙ ap₂ with_rule c.new.ensures.app c.new-2.ensures.rule in
    let two = c.in_ok-arg-2.ensures.shape c.order_option.ensures.local ∙ ap₂ with_rule one c.order_option.ensures.rule in
    let three = c.in_ok-arg-3.ensures.shape c.at_option.ensures.local ∙ ap₂ with_rule two c.at_option.ensures.rule in
    let four = c.in_ok-arg-4.ensures.shape c.until_option.ensures.local ∙ ap₂ with_rule three c.until_option.ensures.rule in
    let five = c.in_ok-arg-5.ensures.shape c.policy_option.ensures.local ∙ ap₂ with_rule four c.policy_option.ensures.rule in
    IfOk-weaker c.arg-6.result _ _ (λ command adds. adds.shape c.flow_option.ensures.local ∙ ap₂ with_rule five c.flow_option.ensures.rule) c.arg-6.ensures
