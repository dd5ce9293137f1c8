use Rattle.std.proofs.Common.{rules, ◌≡◌, sym, ◌∙◌}
use Rattle.std.specs.Prelude.{Some}
use Rattle.nova_model.specs.Times.{due_on}
use Rattle.nova_times.proofs.Nexts.{due_is, not_due}
use Rattle.nova_times.proofs.times.Times.due.Goals as goal

pub returns-in_ok-first : goal.returns-in_ok-first
returns-in_ok-first c =
    let some : c.first.result ≡ Some c.in_ok-first.field-0 = search rules in
    due_is c.args.self.now.all c.args.cpu c.first.result c.in_ok-first.field-0 some c.first.ensures (sym c.is_due.ensures ∙ c.if-is_due.true)

pub returns-else-is_due : goal.returns-else-is_due
returns-else-is_due c = not_due (due_on c.args.self.now.all c.args.cpu) (sym c.is_due.ensures ∙ c.if-is_due.false)
