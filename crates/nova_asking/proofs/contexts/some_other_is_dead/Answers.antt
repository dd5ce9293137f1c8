use Rattle.std.proofs.Common.{◌∙◌, length, rules}
use Rattle.nova_asking.specs.Questions.{is_other_dead}
use Rattle.nova_asking.proofs.Ranges.{any_more}
use Rattle.nova_asking.proofs.contexts.some_other_is_dead.Goals as goal

pub loop-n-preserved : goal.loop-n-preserved
loop-n-preserved c =
    any_more (is_other_dead c.args.ec c.args.kernel.now.state) c.loop-n.n (length c.args.kernel.now.state.objects) (search rules) (search rules)
    ∙ c.loop-n.invariant
