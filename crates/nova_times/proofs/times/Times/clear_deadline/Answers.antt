use Rattle.std.proofs.Common.{rules, ◌≡◌, ap, sym}
use Rattle.std.specs.Prelude.{List, Option, Some, None}
use Rattle.nova_model.specs.State.{deadline_of}
use Rattle.nova_model.specs.declared.times.Deadline.{Deadline}
use Rattle.nova_times.proofs.Keeping.{deadline_set_none, deadline_there, of_itself}
use Rattle.nova_times.proofs.times.Times.clear_deadline.Goals as goal

pub returns-in_default : goal.returns-in_default
returns-in_default c =
    let none : deadline_of c.args.self.now.all c.args.ec ≡ None = search rules in
    ap (λ (l : List (Option Deadline)). record c.args.self.now { all = record c.args.self.now.all { deadlines = l } }) (sym (deadline_set_none c.args.self.now.all.deadlines c.args.ec none))

pub put_deadline-requires-clause-there : goal.put_deadline-requires-clause-there
put_deadline-requires-clause-there c =
    let some : deadline_of c.args.self.now.all c.args.ec ≡ Some c.in-Some.deadline = search rules in
    deadline_there c.args.self.now.all.deadlines c.args.ec c.in-Some.deadline some

pub put_deadline-requires-clause-before : goal.put_deadline-requires-clause-before
put_deadline-requires-clause-before c =
    let some : deadline_of c.args.self.now.all c.args.ec ≡ Some c.in-Some.deadline = search rules in
    of_itself (deadline_of c.args.self.now.all c.args.ec) c.in-Some.deadline some
