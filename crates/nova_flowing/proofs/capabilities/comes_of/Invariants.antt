use Rattle.std.proofs.Common.{◌≡◌, ◌-◌, suc}
use Rattle.std.specs.List.{list_any}
use Rattle.nova_model.specs.Lines.{line, line_by}
use Rattle.nova_model.specs.declared.delegation.Derivation.{Derivation}
use Rattle.nova_flowing.specs.Tests.{is_in}
use Rattle.nova_flowing.proofs.capabilities.comes_of.Given as goal

abbrev pub invariant-loop-link : goal.invariant-loop-link
invariant-loop-link l =
    list_any (λ (a : Derivation). is_in l.set a.pd) (line_by (suc l.fn.d.id - l._link) l.list l.next) ≡ list_any (λ (a : Derivation). is_in l.set a.pd) (line l.list l.fn.d)
