use Rattle.std.proofs.Common.{◌∙◌, rules}
use Rattle.std.specs.Prelude.{ℕ, ◌==◌, ◌&&◌, not}
use Rattle.nova_asking.specs.Locations.{is_at}
use Rattle.nova_asking.proofs.Ranges.{any_more}
use Rattle.nova_asking.proofs.locations.another_is_at.Goals as goal

pub loop-other-preserved : goal.loop-other-preserved
loop-other-preserved c =
    any_more (λ (other : ℕ). not (other == c.args.cpu) && is_at c.args.kernel.now.state c.args.location other) c.loop-other.other c.args.kernel.now.state.cpus (search rules) (search rules)
    ∙ c.loop-other.invariant
