use Rattle.std.proofs.Common.{◌≤◌, arith}
use Rattle.nova_watching.proofs.Adding.{notes_on}
use Rattle.nova_watching.proofs.work.step.Goals as goal

pub returns-clause-continues : goal.returns-clause-continues
returns-clause-continues c =
    let early = c.if-done-from.false in
    let late : c.args.from ≤ c.args.done = omega (arith, early) in
    notes_on c.args.kernel.now.state c.args.cpu c.args.done c.args.from c.note_turn.new.kernel.state c.args.lapses.now.items c.note_turn.new.lapses.items c.note_turn.result late
    c.note_turn.ensures.tables c.note_turn.ensures.state c.note_turn.ensures.noted
