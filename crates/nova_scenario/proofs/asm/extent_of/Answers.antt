use Rattle.std.proofs.Common.{◌≡◌, ◌∷◌, false, sym, ◌∙◌, ap}
use Rattle.std.specs.Option.{option_or}
use Rattle.std.specs.List.{before_first, find, after_first}
use Rattle.nova_text.specs.Line.{row_of}
use Rattle.nova_scenario.specs.Items.{is_end}
use Rattle.nova_scenario.specs.Words.{forbidden_in}
use Rattle.nova_scenario.proofs.AsmLemmas.{line_passed}
use Rattle.nova_scenario.proofs.Cuts.{find_later, after_later}
use Rattle.nova_scenario.proofs.asm.extent_of.Goals as goal

pub loop-line-preserved : goal.loop-line-preserved
loop-line-preserved c =
    let row = row_of c.in-Some.line in
    let rows = c.next.new.self in
    let here : c.loop-line.lines ≡ row ∷ rows = c.in-Some.ensures.steps in
    let inside : is_end row ≡ false = sym c.is_end.ensures ∙ c.if-is_end.false in
    record {
      forbidden =
          ap (λ o. option_or o (forbidden_in (before_first is_end rows))) (c.or-forbidden.ensures ∙ ap (option_or c.loop-line.forbidden) c.forbidden_in.ensures)
          ∙ line_passed c.loop-line.forbidden row rows c.loop-line.lines here inside
          ∙ c.loop-line.invariant.forbidden;
      end = sym (ap (find is_end) here ∙ find_later is_end row rows inside) ∙ c.loop-line.invariant.end;
      after = sym (ap (after_first is_end) here ∙ after_later is_end row rows inside) ∙ c.loop-line.invariant.after;
    }
