use Rattle.std.proofs.Common.{sym, subst, IsSome}
use Rattle.std.specs.Prelude.{None, IfSome}
use Rattle.nova_range.specs.declared.status.Status.TheVariants.{Success}
use Rattle.nova_ec.specs.Tables.{EcTable}
use Rattle.nova_model.specs.Deeds.{answered}
use Rattle.nova_model.specs.State.{KernelState, context, ec_in}
use Rattle.nova_turn.specs.Parts.{state_of}
use Rattle.nova_turn.proofs.Dues.{woken_still}
use Rattle.nova_turn.proofs.parts.Parts.raise_counter.Goals as goal

pub wake-requires : goal.wake-requires
wake-requires c =
    let k : KernelState = state_of c.args.self.now in
    record {
      there = subst (λ (t : EcTable). IfSome c.args.whom (λ w. IsSome (ec_in t.items w))) (sym c.answer.ensures)
          (woken_still k c.args.ec c.args.sm c.args.whom (answered (context k c.args.ec) Success None) c.requires.counted.kept.blocked c.requires.woken);
    }
