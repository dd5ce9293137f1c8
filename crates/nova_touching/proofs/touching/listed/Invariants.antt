use Rattle.std.proofs.Common.{◌≡◌, ℕ, ◌<◌}
use Rattle.std.specs.Prelude.{true, Some, IsSome, Contains}
use Rattle.nova_model.specs.Choice.{choose}
use Rattle.nova_model.specs.State.{context_at}
use Rattle.nova_model.specs.declared.context.EcState.{EcState}
use Rattle.nova_touching.specs.Whom.{is_among}
use Rattle.nova_touching.proofs.touching.listed.Given as goal

-- those of contexts of lesser numbers are listed
abbrev pub invariant-loop-ec : goal.invariant-loop-ec
invariant-loop-ec l =
    (n : ℕ) (x : EcState) → n < l.ec → context_at l.kernel.state n ≡ Some x → is_among l.whom x.state ≡ true → IsSome (choose l.kernel.state x.cpu) → Contains l.processors.items x.cpu
