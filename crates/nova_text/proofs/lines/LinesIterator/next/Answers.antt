use Rattle.std.proofs.Common.{◌∙◌, sym, ap, length, arith}
use Rattle.std.proofs.lemmas.List.{nil_from_length}
use Rattle.nova_text.proofs.LineLemmas.{rows-none, rows-first}
use Rattle.nova_text.proofs.lines.LinesIterator.next.Goals as goal

pub returns-then-is_empty-clause-steps : goal.returns-then-is_empty-clause-steps
returns-then-is_empty-clause-steps c =
    let none = sym c.self.view_is ∙ rows-none c.self.inside.number c.self.inside.start c.self.inside.rest.now (nil_from_length c.self.inside.rest.now (grind arith)) in
    (none, none)

pub returns-clause-steps : goal.returns-clause-steps
returns-clause-steps c =
    sym c.self.view_is ∙ rows-first c.self.inside.number c.self.inside.start c.self.inside.rest.now _ _ (grind arith) c.split_line.ensures.line c.split_line.ensures.after

pub returns-clause-goes : goal.returns-clause-goes
returns-clause-goes c =
    let shorter = ap length (returns-clause-steps c) in
    record { on = λ _. (tt, tt, omega arith); keeps = tt; rests = λ _. tt }
