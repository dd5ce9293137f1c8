use Rattle.std.proofs.Common.{◌∙◌}
use Rattle.nova_memory.proofs.Remembered.{found}
use Rattle.nova_memory.proofs.stepping.Recalled.find.Goals as goal

pub returns-then-is_at : goal.returns-then-is_at
returns-then-is_at c = λ s domain are.
    let both = c.is_at.ensures c.if-is_at.true in
    found s c.args.self.now c.args.pd c.args.address c.slot_at-slot.result.now c.ranges.address.fits are domain c.slot_at-slot.ensures both.0 (both.1 ∙ c.scope_of.ensures)
