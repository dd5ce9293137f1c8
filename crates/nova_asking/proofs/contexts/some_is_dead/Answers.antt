use Rattle.std.proofs.Common.{◌∙◌, ℕ, length, rules}
use Rattle.nova_model.specs.State.{context_at}
use Rattle.nova_asking.specs.Questions.{is_dead}
use Rattle.nova_asking.proofs.Ranges.{any_more}
use Rattle.nova_asking.proofs.contexts.some_is_dead.Goals as goal

pub loop-n-preserved : goal.loop-n-preserved
loop-n-preserved c =
    any_more (λ (n : ℕ). is_dead (context_at c.args.kernel.now.state n)) c.loop-n.n (length c.args.kernel.now.state.objects) (search rules) (search rules)
    ∙ c.loop-n.invariant
