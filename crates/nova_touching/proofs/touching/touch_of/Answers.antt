use Rattle.std.proofs.Common.{◌≡◌, ℕ, Some, None, rules, sym, subst}
use Rattle.std.specs.Prelude.{option_map}
use Rattle.nova_model.specs.Choice.{Candidate, choice}
use Rattle.nova_touching.specs.Touching.{TouchesAtMost}
use Rattle.nova_touching.proofs.Taking.{acts_result, nobody_acts, wakes_result}
use Rattle.nova_touching.proofs.touching.touch_of.Goals as goal

pub returns-then-is_due : goal.returns-then-is_due
returns-then-is_due c = wakes_result c.args.kernel.now.state c.args.cpu c.waking.result c.actor-actor.ensures.reached.sound c.if-is_due.ensures.yes c.waking.ensures

pub returns-in-Some : goal.returns-in-Some
returns-in-Some c =
    let actor : option_map {U = ℕ} (λ (c : Candidate). c.actor) (choice c.args.kernel.now.state c.args.cpu) ≡ Some c.in-Some.ec = search rules in
    acts_result c.args.kernel.now.state c.args.cpu c.in-Some.ec c.acting.result c.instructions_read_their_frames.ensures c.actor-actor.ensures.reached.sound c.if-is_due.ensures.no actor c.acting.ensures

pub returns-in-None : goal.returns-in-None
returns-in-None c =
    let none : option_map {U = ℕ} (λ (c : Candidate). c.actor) (choice c.args.kernel.now.state c.args.cpu) ≡ None = search rules in
    subst (TouchesAtMost c.args.kernel.now.state c.args.cpu) (sym c.nothing.ensures) (nobody_acts c.args.kernel.now.state c.args.cpu c.actor-actor.ensures.reached.sound c.if-is_due.ensures.no none)
