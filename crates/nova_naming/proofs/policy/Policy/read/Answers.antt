use Rattle.std.proofs.Common.{rules, ◌≡◌, ◌∷◌, ◌∙◌, subst}
use Rattle.std.proofs.lemmas.Result.{err_from_is_err_and}
use Rattle.nova_text.specs.Line.{row_of}
use Rattle.nova_naming.specs.Policy.{IsFault}
use Rattle.nova_naming.proofs.Reading.{goes_on, stops}
use Rattle.nova_naming.proofs.policy.Policy.read.Goals as goal

pub loop-line-preserved : goal.loop-line-preserved
loop-line-preserved c =
    let first : c.loop-line.lines ≡ row_of c.in-Some.line ∷ c.next.new.self = search rules in
    goes_on _ (row_of c.in-Some.line) _ _ _ first c.in_ok-add_line.ensures ∙ c.loop-line.invariant

pub returns-in_err-add_line : goal.returns-in_err-add_line
returns-in_err-add_line c =
    let first : c.loop-line.lines ≡ row_of c.in-Some.line ∷ c.next.new.self = search rules in
    let fault = c.in_err-add_line.field-0.0 in
    let p = err_from_is_err_and c.from_residual.result c.from_residual.ensures.1 in
    rw (p.1, p.2) (subst (λ r. IsFault r fault) c.loop-line.invariant (stops _ (row_of c.in-Some.line) _ _ fault first c.in_err-add_line.ensures))
