use Rattle.std.proofs.lemmas.Result.{on_ok_weaker}
use Rattle.nova_watching.proofs.Adding.{noted_both}
use Rattle.nova_watching.proofs.work.note_turn.Goals as goal

pub returns-clause-noted : goal.returns-clause-noted
returns-clause-noted c =
    on_ok_weaker c.note.result (λ second.
    noted_both c.args.kernel.now.state c.args.cpu c.args.done c.args.lapses.now.items c.note_giving.new.lapses.items c.note.new.lapses.items c.next_doer-doer.result c.in_ok-turn.turn c.own_lapse.result
    c.next_doer-doer.ensures c.in_ok-turn.ensures.answer c.own_lapse.ensures c.in_ok-note_giving.ensures second) c.note.ensures

pub returns-clause-tables : goal.returns-clause-tables
returns-clause-tables c = on_ok_weaker c.note.result (λ second. c.actor.ensures.reached.sound.kept.tables) c.note.ensures
