use Rattle.std.specs.Prelude.{drop}
use Rattle.nova_turn.proofs.Homes.{AreOthersBut}
use Rattle.nova_turn.proofs.parts.Parts.others_of.Given as goal

-- those that are left are still to be added
abbrev pub invariant-loop-pd : goal.invariant-loop-pd
invariant-loop-pd l = AreOthersBut l.self.objects.items l.ec l.domains l.others (drop l.pd-index l.domains)
