use Rattle.std.proofs.Common.{◌≡◌, ap, length, rules, sym, ◌∙◌}
use Rattle.std.specs.Prelude.{◌==◌, ◌&&◌, Bool, false, true, is_some, not}
use Rattle.nova_model.specs.State.{KernelState}
use Rattle.nova_model.specs.declared.deed.Deed.TheVariants.{Steps}
use Rattle.nova_turn.specs.Parts.{state_of}
use Rattle.nova_deeds.specs.StirCounts.{numbers_from}
use Rattle.nova_deeds.proofs.Taken.{GoesUnseen, goes_unseen}
use Rattle.nova_turn.proofs.parts.Parts.note_step.Goals.{else-has_stored-via-then-has_stored+else-not-is_empty, else-has_stored-via-else-has_stored}
use Rattle.nova_turn.proofs.parts.Parts.note_step.Goals as goal

pub returns-else-has_stored-clause-shown : goal.returns-else-has_stored-clause-shown
returns-else-has_stored-clause-shown c =
    let p = c.args.self.now in
    let k : KernelState = state_of p in
    elim c.else-has_stored.branch [
      | else-has_stored-via-then-has_stored+else-not-is_empty w ↦
          let none : (length (numbers_from 0 p.guests.counts) == 0) ≡ true = search rules in
          let stored : is_some p.reach.written ≡ true = sym c.has_stored.ensures ∙ w.if-has_stored.true in
          let unseen : GoesUnseen k c.args.ec Steps p.reach.written =
          goes_unseen k c.args.ec Steps p.reach.written
          (ap (λ (b : Bool). not (b && not (length (numbers_from 0 p.guests.counts) == 0))) stored ∙ ap (λ (b : Bool). not (not b)) none) in
          unseen.counts
      | else-has_stored-via-else-has_stored w ↦
          let stored : is_some p.reach.written ≡ false = sym c.has_stored.ensures ∙ w.if-has_stored.false in
          let unseen : GoesUnseen k c.args.ec Steps p.reach.written =
          goes_unseen k c.args.ec Steps p.reach.written (ap (λ (b : Bool). not (b && not (length (numbers_from 0 p.guests.counts) == 0))) stored) in
          unseen.counts
    ]
