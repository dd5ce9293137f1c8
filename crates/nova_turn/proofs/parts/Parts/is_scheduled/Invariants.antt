use Rattle.std.proofs.Common.{◌≡◌}
use Rattle.std.specs.Prelude.{drop}
use Rattle.std.specs.List.{list_any}
use Rattle.nova_model.specs.Hypercalls.{schedules, is_scheduled}
use Rattle.nova_turn.specs.Parts.{state_of}
use Rattle.nova_turn.proofs.parts.Parts.is_scheduled.Given as goal

-- the objects that are left decide
abbrev pub invariant-loop-object : goal.invariant-loop-object
invariant-loop-object l = list_any (schedules l.ec) (drop l.object-index l.self.objects.items) ≡ is_scheduled (state_of l.self) l.ec
