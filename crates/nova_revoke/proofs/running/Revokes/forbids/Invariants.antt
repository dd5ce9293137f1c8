use Rattle.std.proofs.Common.{◌≡◌, drop}
use Rattle.std.specs.List.{list_any}
use Rattle.nova_model.specs.Running.{is_of_objects}
use Rattle.nova_revoke.proofs.running.Revokes.forbids.Given as goal

-- those that are left decide
abbrev pub invariant-loop-running : goal.invariant-loop-running
invariant-loop-running l = list_any (is_of_objects l.pd l.selector) (drop l.running-index l.self.list) ≡ list_any (is_of_objects l.pd l.selector) l.self.list
