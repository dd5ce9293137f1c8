use Rattle.std.proofs.Common.{subst}
use Rattle.nova_turn.specs.Homes.{Includes}
use Rattle.nova_turn.proofs.Homes.{none_scheduled}
use Rattle.nova_turn.proofs.parts.Parts.is_scheduled.Goals as goal

pub returns-in-Empty : goal.returns-in-Empty
returns-in-Empty c =
    none_scheduled c.args.self.now.objects.items c.args.ec (λ sc own. subst (Includes sc) c.in-Empty.is (c.schedules_of.ensures sc own))
