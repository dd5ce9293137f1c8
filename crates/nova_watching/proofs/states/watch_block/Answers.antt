use Rattle.std.proofs.Common.{rules, ◌≡◌, ◌+◌, ◌<◌, ◌∷◌, [], Option, Some, None, subst, arith}
use Rattle.nova_judging.specs.declared.answer.Told.{Told}
use Rattle.nova_watching.specs.Watched.{IsWatched}
use Rattle.nova_watching.proofs.Watching.{found_in_block, one_more}
use Rattle.nova_watching.proofs.states.watch_block.Goals as goal

pub returns-in-Some-clause-watched : goal.returns-in-Some-clause-watched
returns-in-Some-clause-watched c =
    let found : IsWatched c.args.policy.now c.args.from c.loop-turn.kernel.state (c.args.done + c.loop-turn.turn) (c.args.block.cpu ∷ []) c.step.new.kernel.state (Some c.in-Some.told) =
    subst (λ (r : Option Told). IsWatched c.args.policy.now c.args.from c.loop-turn.kernel.state (c.args.done + c.loop-turn.turn) (c.args.block.cpu ∷ []) c.step.new.kernel.state r) c.in-Some.is c.in_ok-told.ensures.watched in
    let more : c.loop-turn.turn < c.args.block.count = c.loop-turn-test.true in
    found_in_block c.args.policy.now c.args.from c.args.kernel.now.state c.loop-turn.kernel.state c.step.new.kernel.state c.args.done c.loop-turn.turn c.args.block.count c.args.block.cpu c.in-Some.told
    more c.loop-turn.invariant.watched found

pub loop-turn-preserved : goal.loop-turn-preserved
loop-turn-preserved c =
    let none : c.in_ok-told.field-0 ≡ None = search rules in
    let next : IsWatched c.args.policy.now c.args.from c.loop-turn.kernel.state (c.args.done + c.loop-turn.turn) (c.args.block.cpu ∷ []) c.step.new.kernel.state None =
    subst (λ (r : Option Told). IsWatched c.args.policy.now c.args.from c.loop-turn.kernel.state (c.args.done + c.loop-turn.turn) (c.args.block.cpu ∷ []) c.step.new.kernel.state r) none c.in_ok-told.ensures.watched in
    let room = c.loop-turn.invariant.room in
    let spent = c.in_ok-told.ensures.room in
    let turns = c.loop-turn.invariant.turns in
    let taken = c.in_ok-told.ensures.turns in
    let cpus = c.loop-turn.invariant.cpus in
    let same = c.in_ok-told.ensures.cpus in
    record {
      watched = one_more c.args.policy.now c.args.from c.args.kernel.now.state c.loop-turn.kernel.state c.step.new.kernel.state c.args.done c.loop-turn.turn c.args.block.cpu None c.loop-turn.invariant.watched next;
      known = c.in_ok-told.ensures.known;
      room = omega (arith, room, spent);
      turns = omega (arith, turns, taken);
      cpus = omega (arith, cpus, same);
    }
