use Rattle.std.proofs.Common.{◌≡◌, true, subst, ap, ◌∙◌, [], ◌∷◌, ◌++◌}
use Rattle.std.specs.Prelude.{List}
use Rattle.law_swaps.specs.Touches.{Touch}
use Rattle.nova_touching.specs.Marks.{is_marked}
use Rattle.nova_touching.specs.declared.marks.Mark.{Mark}
use Rattle.nova_touching.proofs.Marking.{marked_last}
use Rattle.nova_touching.proofs.marks.add_mark.Goals as goal

pub returns-clause-marked : goal.returns-clause-marked
returns-clause-marked c =
    let m : Mark = record { cpu = c.args.cpu; touch = c.in_ok-touch.touch } in
    ap (λ (ms : List Mark). is_marked ms c.args.cpu c.args.touch.now) c.in_ok-push.ensures.items
    ∙ subst (λ (t : Touch). is_marked (c.args.marks.now.items ++ m ∷ []) c.args.cpu t ≡ true) c.in_ok-touch.ensures (marked_last c.args.marks.now.items m)
