use Rattle.std.proofs.Common.{◌≡◌, ap, refl, sym, ◌∙◌}
use Rattle.std.specs.Prelude.{◌==◌, ◌&&◌, Bool, false, is_some, length, not}
use Rattle.nova_model.specs.declared.deed.Deed.TheVariants.{Steps}
use Rattle.nova_deeds.specs.StirCounts.{numbers_from}
use Rattle.nova_deeds.proofs.Taken.{GoesUnseen, goes_unseen}
use Rattle.nova_turn.specs.Beside.{with_regs}
use Rattle.nova_turn.specs.Parts.{state_of}
use Rattle.nova_deeds.specs.Stirs.{is_stirring}
use Rattle.nova_turn.proofs.Beside.{beside-stirred}
use Rattle.nova_turn.proofs.StoresSeen.{seers_on, seers_risen}
use Rattle.nova_turn.proofs.parts.Parts.step_beside.Goals as goal

pub returns-then-has_stored-clause-went : goal.returns-then-has_stored-clause-went
returns-then-has_stored-clause-went c = λ _.
    beside-stirred (with_regs (state_of c.args.self.now) c.args.ec c.args.regs.now) (state_of c.execute_beside.new.self) (state_of c.note_store.new.self) (state_of c.note_store.new.self) c.args.ec
    c.execute_beside.new.regs c.execute_beside.new.self.reach.written c.execute_beside.ensures.done (c.execute_beside.ensures.written c.requires.fresh) c.note_store.ensures.shown refl

pub returns-else-has_stored-clause-went : goal.returns-else-has_stored-clause-went
returns-else-has_stored-clause-went c = λ _.
    let p = c.execute_beside.new.self in
    let stored : is_some p.reach.written ≡ false = sym c.has_stored.ensures ∙ c.if-has_stored.false in
    let unseen : GoesUnseen (state_of p) c.args.ec Steps p.reach.written =
    goes_unseen (state_of p) c.args.ec Steps p.reach.written (ap (λ (b : Bool). not (b && not (length (numbers_from 0 p.guests.counts) == 0))) stored) in
    beside-stirred (with_regs (state_of c.args.self.now) c.args.ec c.args.regs.now) (state_of p) (state_of p) (state_of p) c.args.ec
    c.execute_beside.new.regs p.reach.written c.execute_beside.ensures.done (c.execute_beside.ensures.written c.requires.fresh) unseen.counts refl

pub note_store-requires-clause-seers : goal.note_store-requires-clause-seers
note_store-requires-clause-seers c =
    seers_on (state_of c.args.self.now) (state_of c.execute_beside.new.self) c.args.ec c.args.regs.now c.execute_beside.new.regs c.args.seers.now c.execute_beside.ensures.done c.requires.seers

pub returns-then-has_stored-clause-seers : goal.returns-then-has_stored-clause-seers
returns-then-has_stored-clause-seers c =
    let k = state_of c.execute_beside.new.self in
    seers_risen k (state_of c.note_store.new.self) c.args.ec (is_stirring k c.execute_beside.new.self.reach.written c.args.ec Steps) c.note_store.new.seers c.note_store.ensures.shown c.note_store.ensures.seers

pub returns-else-has_stored-clause-seers : goal.returns-else-has_stored-clause-seers
returns-else-has_stored-clause-seers c =
    seers_on (state_of c.args.self.now) (state_of c.execute_beside.new.self) c.args.ec c.args.regs.now c.execute_beside.new.regs c.args.seers.now c.execute_beside.ensures.done c.requires.seers
