use Rattle.std.proofs.Common.{Bool, subst}
use Rattle.nova_watching.specs.Watched.{IsKnown}
use Rattle.nova_watching.proofs.telling.told_from.Goals as goal

pub returns-then-known : goal.returns-then-known
returns-then-known c = λ late. subst (λ (b : Bool). IsKnown b c.args.policy.now c.args.kernel.now.state) c.if-known.true c.requires.known
