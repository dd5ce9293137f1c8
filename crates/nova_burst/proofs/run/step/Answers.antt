use Rattle.std.proofs.Common.{rules, ◌≡◌, sym, subst}
use Rattle.std.specs.Prelude.{None, Some}
use Rattle.law_leases.specs.Leases.{lease_step}
use Rattle.nova_burst.specs.Copies.{CopiesState, HasFewStores, known_in, lease_of}
use Rattle.nova_burst.specs.Grounds.{IsUnread}
use Rattle.nova_burst.proofs.Grounded.{stops_unread}
use Rattle.nova_burst.proofs.Steps.{gone, step_few}
use Rattle.nova_burst.proofs.run.step.Goals as goal

pub returns-in-Next-clause-goes : goal.returns-in-Next-clause-goes
returns-in-Next-clause-goes c =
    subst (λ (d : CopiesState). lease_step (known_in d.known) (lease_of c.args.regs.now d) ≡ Some (lease_of c.step_known.new.regs c.step_known.new.bus)) c.read.ensures.same
    (gone c.args.regs.now c.step_known.new.regs c.read.new.self c.step_known.new.bus c.step_known.result c.in-Next.is c.step_known.ensures).step

pub returns-in-Next-clause-few : goal.returns-in-Next-clause-few
returns-in-Next-clause-few c = λ n few. step_few n c.args.regs.now c.step_known.new.regs c.read.new.self c.step_known.new.bus c.step_known.result c.step_known.ensures
    (subst (HasFewStores n) (sym c.read.ensures.same) few)

pub returns-in-Raise-clause-few : goal.returns-in-Raise-clause-few
returns-in-Raise-clause-few c = λ n few. step_few n c.args.regs.now c.step_known.new.regs c.read.new.self c.step_known.new.bus c.step_known.result c.step_known.ensures
    (subst (HasFewStores n) (sym c.read.ensures.same) few)

pub returns-in_default-clause-stops : goal.returns-in_default-clause-stops
returns-in_default-clause-stops c =
    let none : c.read.result ≡ None = search rules in
    let at : c.pc.result ≡ c.args.regs.now.pc = search rules in
    stops_unread c.args.copies.now c.args.regs.now (subst (IsUnread c.args.copies.now) at (c.read.ensures.none none))
