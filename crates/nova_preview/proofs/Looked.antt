-- What an instruction that is only looked at comes to, and the store that it would make.
use Rattle.std.proofs.Common.{◌≡◌, ap, ◌∙◌}
use Rattle.std.specs.Prelude.{Some, None}
use Rattle.rv_model.specs.Registers.{Registers}
use Rattle.rv_model.specs.Step.{Once, Raised, Went}
use Rattle.rv_core.specs.Steps.{Follows}
use Rattle.rv_core.specs.declared.outcome.Outcome.{Outcome}
use Rattle.nova_deeds.specs.Acts.{outcome_of}
use Rattle.nova_memory.specs.Previews.{PreviewState, noted}
use Rattle.nova_memory.specs.Reach.{reached}
use Rattle.nova_preview.specs.Ahead.{write_by}

pub ahead : (once : Once) (r r' : Registers) (s s' : PreviewState) (o : Outcome) → s.write ≡ None → Follows noted once r s o r' s' →
    (o ≡ outcome_of once) × (s'.write ≡ write_by (reached s.reach) once)
ahead (Raised reason q0 q1) r r' s s' o none h = (h.0, ap (λ (t : PreviewState). t.write) h.2 ∙ none)
ahead (Went regs None) r r' s s' o none h = (h.0, ap (λ (t : PreviewState). t.write) h.2 ∙ none)
ahead (Went regs (Some store)) r r' s s' o none h = (h.0, ap (λ (t : PreviewState). t.write) h.2)
