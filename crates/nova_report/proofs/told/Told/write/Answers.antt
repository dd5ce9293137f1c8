use Rattle.std.proofs.Common.{◌≡◌, ◌∙◌, ◌++◌, ap, List, ℕ, arith}
use Rattle.std.specs.Prelude.{codes, decimal}
use Rattle.nova_report.specs.Report.{event_rest}
use Rattle.nova_report.proofs.Again.{behind}
use Rattle.nova_report.proofs.told.Told.write.Goals as goal

pub invariant_of-self : goal.invariant_of-self
invariant_of-self c =
    let some : c.put_number.new.self.text ≡ decimal c.args.place ++ event_rest c.self.inside.event =
    c.put_number.ensures.text ∙ ap (λ (xs : List ℕ). decimal c.args.place ++ xs) c.self.invariant.0 in (
      c.back_to.ensures.text
          ∙ behind c.put.new.self.text c.put_number.new.self.text (event_rest c.self.inside.event) (codes "at ") (decimal c.args.place) c.room-room.result c.put.new.self.room
          c.put.ensures.text some (omega (arith, c.put.ensures.room, c.put_number.ensures.room, c.room-room.ensures.room)),
      omega (arith, c.back_to.ensures.room, c.room-room.ensures.room, c.self.invariant.1),
    )
