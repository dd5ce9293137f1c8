use Rattle.std.proofs.Common.{◌≡◌, [], ◌∷◌, false, sym, ◌∙◌, ap}
use Rattle.std.proofs.lemmas.Result.{err_from_is_err_and}
use Rattle.std.specs.List.{find, after_first}
use Rattle.nova_text.specs.Line.{row_of}
use Rattle.nova_scenario.specs.Blocks.{with_digits}
use Rattle.nova_scenario.specs.Items.{is_end}
use Rattle.nova_scenario.proofs.Cuts.{find_later, after_later}
use Rattle.nova_scenario.proofs.Faults.{fault_of_whole}
use Rattle.nova_scenario.proofs.ElfLemmas.{line_taken, line_refused}
use Rattle.nova_scenario.proofs.HexLemmas.{led-fault}
use Rattle.nova_scenario.proofs.elf.elf_block.Goals as goal

pub loop-line-preserved : goal.loop-line-preserved
loop-line-preserved c =
    let row = row_of c.in-Some.line in
    let rows = c.next.new.self in
    let here : c.loop-line.lines ≡ row ∷ rows = c.in-Some.ensures.steps in
    let inside : is_end row ≡ false = sym c.is_end.ensures ∙ c.if-is_end.false in
    record {
      bytes = line_taken c.loop-line.bytes.items row rows c.loop-line.lines here inside c.push_bytes.new.bytes.items c.in_ok-push_bytes.ensures ∙ c.loop-line.invariant.bytes;
      end = sym (ap (find is_end) here ∙ find_later is_end row rows inside) ∙ c.loop-line.invariant.end;
      after = sym (ap (after_first is_end) here ∙ after_later is_end row rows inside) ∙ c.loop-line.invariant.after;
    }

pub returns-in_err-push_bytes-clause-block : goal.returns-in_err-push_bytes-clause-block
returns-in_err-push_bytes-clause-block c =
    let row = row_of c.in-Some.line in
    let inside : is_end row ≡ false = sym c.is_end.ensures ∙ c.if-is_end.false in
    let p = err_from_is_err_and c.from_residual.result c.from_residual.ensures.1 in
    rw (p.1, p.2) (fault_of_whole (with_digits c.loop-line.bytes.items row) _ c.in_err-push_bytes.field-0.0
    (λ at is. led-fault [] _ at (sym c.loop-line.invariant.bytes ∙ line_refused c.loop-line.bytes.items row c.next.new.self c.loop-line.lines c.in-Some.ensures.steps inside at is))
    c.in_err-push_bytes.ensures)
