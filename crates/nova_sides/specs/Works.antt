-- What a trusted domain is: at rest, bare or mute, or at work.
use Rattle.std.specs.Prelude.{ℕ, if◌then◌else◌}
use Rattle.nova_model.specs.State.{KernelState}
use Rattle.law_sides.specs.Roles.{is_at_rest, is_bare, is_mute}
use Rattle.nova_sides.specs.declared.roles.Role.{Role}
use Rattle.nova_sides.specs.declared.roles.Role.TheVariants.{Rests, Bare, Mute, Works}

abbrev pub role_of : KernelState → (ℕ → ℕ) → ℕ → Role
role_of k label n =
    if is_at_rest k label n then Rests
    else if is_bare k label n then Bare
    else if is_mute k label n then Mute
    else Works
