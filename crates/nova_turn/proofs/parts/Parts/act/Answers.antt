use Rattle.std.proofs.Common.{ℕ, sym, ◌∙◌, subst}
use Rattle.std.specs.Prelude.{Option}
use Rattle.nova_model.specs.State.{KernelState}
use Rattle.nova_turn.specs.Parts.{state_of}
use Rattle.nova_choice.specs.Schedules.{AreQueuedAfter}
use Rattle.nova_deeds.specs.Counted.{KeepsCounts}
use Rattle.nova_deeds.proofs.Keeps.{done-keeps}
use Rattle.nova_deeds.proofs.Moved.{queued_moved}
use Rattle.nova_deeds.proofs.Moves.{may_move}
use Rattle.nova_turn.proofs.parts.Parts.act.Goals as goal

pub refresh-requires : goal.refresh-requires
refresh-requires c =
    let k : KernelState = state_of c.args.self.now in
    subst (λ (o : Option ℕ). AreQueuedAfter o (state_of c.carry_out.new.self) c.carry_out.new.self.queues.all) (sym c.moved_by.ensures)
    (queued_moved k (state_of c.carry_out.new.self) c.args.self.now.queues.all c.carry_out.new.self.queues.all c.args.ec c.args.deed
    (may_move k c.args.ec c.requires.ready.tables.counted c.requires.there c.requires.acts) c.requires.fits.0 c.requires.ready.tables.queued c.in_ok-carry_out.ensures.done
    c.in_ok-carry_out.ensures.queues)

pub returns-clause-kept : goal.returns-clause-kept
returns-clause-kept c =
    let k : KernelState = state_of c.args.self.now in
    subst (λ (s : KernelState). KeepsCounts k s) (sym (c.refresh.ensures.shown ∙ c.in_ok-carry_out.ensures.done)) (done-keeps k c.args.ec c.args.deed c.requires.fits.0)
