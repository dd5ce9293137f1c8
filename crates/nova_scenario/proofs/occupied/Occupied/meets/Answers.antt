use Rattle.std.proofs.Common.{sym, ◌∙◌, arith}
use Rattle.nova_scenario.proofs.Parts.{empty_meets, none_before, last_before}
use Rattle.nova_scenario.proofs.occupied.Occupied.meets.Goals as goal

pub returns-then-end-start : goal.returns-then-end-start
returns-then-end-start c = sym (empty_meets _ _ _ c.if-end-start.true)

pub returns-in-Some : goal.returns-in-Some
returns-in-Some c =
    rw (← c.self.view_is) (sym (last_before c.args.start c.args.end (omega arith) c.self.inside.ends.entries (c.in-Some.field-0-0.now, c.in-Some.last.now) c.next_back.new.self c.self.invariant (sym (c.range.ensures.between tt) ∙ c.in-Some.ensures.steps)))

pub returns-in-None : goal.returns-in-None
returns-in-None c = rw (← c.self.view_is) (sym (none_before c.args.start c.args.end c.self.inside.ends.entries (sym (c.range.ensures.between tt) ∙ c.in-None.ensures.steps.0)))
