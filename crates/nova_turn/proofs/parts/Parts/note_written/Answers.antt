use Rattle.std.proofs.Common.{◌≡◌, ℕ, ap, sym, ◌∙◌}
use Rattle.std.specs.Prelude.{◌==◌, ◌&&◌, Bool, Option, None, false, is_some, length, not}
use Rattle.nova_model.specs.State.{KernelState}
use Rattle.nova_model.specs.declared.deed.Deed.TheVariants.{Steps}
use Rattle.nova_deeds.specs.StirCounts.{numbers_from}
use Rattle.nova_deeds.specs.Stirs.{is_stirring}
use Rattle.nova_deeds.proofs.Taken.{GoesUnseen, goes_unseen}
use Rattle.nova_turn.specs.Parts.{state_of}
use Rattle.nova_turn.proofs.StoresSeen.{counts_shown}
use Rattle.nova_turn.proofs.parts.Parts.note_written.Goals as goal

pub returns-in-Some-clause-shown : goal.returns-in-Some-clause-shown
returns-in-Some-clause-shown c =
    let p = c.args.self.now in
    counts_shown p c.note_in.new.self (is_stirring (state_of p) p.reach.written c.args.ec Steps) c.note_in.ensures.rest c.note_in.ensures.counts

pub returns-in_default-clause-shown : goal.returns-in_default-clause-shown
returns-in_default-clause-shown c =
    let p = c.args.self.now in
    let k : KernelState = state_of p in
    let none : p.reach.written ≡ None = sym c.stored_to.ensures ∙ c.in_default.is in
    let stored : is_some p.reach.written ≡ false = ap (λ (o : Option ℕ). is_some o) none in
    let unseen : GoesUnseen k c.args.ec Steps p.reach.written =
    goes_unseen k c.args.ec Steps p.reach.written (ap (λ (b : Bool). not (b && not (length (numbers_from 0 p.guests.counts) == 0))) stored) in
    unseen.counts
