use Rattle.std.proofs.Common.{◌∙◌, ap₂}
use Rattle.std.proofs.lemmas.Result.{IfOk-weaker}
use Rattle.clap.specs.Simple.{with_rule}
use Rattle.nova_command.proofs.form.form.Goals as goal

pub returns : goal.returns
returns c =
    IfOk-weaker c.arg.result _ _ (λ command adds. adds.shape c.limit.ensures.local ∙ ap₂ with_rule c.in_ok-named.ensures c.limit.ensures.rule) c.arg.ensures
