use Rattle.std.proofs.Common.{refl, arith}
use Rattle.nova_watching.proofs.Lapsing.{no_turns, one_more}
use Rattle.nova_watching.proofs.work.work_block.Goals as goal

pub loop-turn-init : goal.loop-turn-init
loop-turn-init c = record {
  continues = no_turns c.args.from c.args.kernel.now.state c.args.done c.args.lapses.now.items;
  room = omega arith;
  turns = omega arith;
  cpus = refl;
}

pub loop-turn-preserved : goal.loop-turn-preserved
loop-turn-preserved c =
    let room = c.loop-turn.invariant.room in
    let spent = c.in_ok-step.ensures.room in
    let turns = c.loop-turn.invariant.turns in
    let taken = c.in_ok-step.ensures.turns in
    let cpus = c.loop-turn.invariant.cpus in
    let same = c.in_ok-step.ensures.cpus in
    record {
      continues = one_more c.args.from c.args.kernel.now.state c.loop-turn.kernel.state c.step.new.kernel.state c.args.done c.loop-turn.turn c.args.block.cpu
          c.args.lapses.now.items c.loop-turn.lapses.items c.step.new.lapses.items c.loop-turn.invariant.continues c.in_ok-step.ensures.continues;
      room = omega (arith, room, spent);
      turns = omega (arith, turns, taken);
      cpus = omega (arith, cpus, same);
    }
