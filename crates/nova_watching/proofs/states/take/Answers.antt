use Rattle.std.proofs.Common.{Bool, sym, subst}
use Rattle.nova_watching.specs.Watched.{IsKnown}
use Rattle.nova_watching.proofs.Unchanged.{known_after}
use Rattle.nova_watching.proofs.states.take.Goals as goal

pub returns-clause-known : goal.returns-clause-known
returns-clause-known c =
    subst (λ (b : Bool). IsKnown b c.args.policy.now c.turn.new.self.state) (sym c.both.ensures)
    (known_after c.args.kernel.now.state c.turn.new.self.state c.args.cpu c.in_ok-turn.turn c.args.policy.now c.args.known c.is_plain.result c.in_ok-turn.ensures.state c.in_ok-turn.ensures.answer
    c.actor.ensures.reached.sound.kept.tables c.requires.known c.is_plain.ensures)
