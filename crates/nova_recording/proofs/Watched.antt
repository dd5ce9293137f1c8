-- Where nothing is watched, no access is to what is watched.
use Rattle.std.proofs.Common.{◌≡◌, [], refl}
use Rattle.std.specs.Prelude.{false, Option, Some, None}
use Rattle.nova_recording.specs.Watches.{is_seen_by}
use Rattle.nova_recording.specs.declared.preview.Access.{Access}

pub nothing_seen : (access : Option Access) → is_seen_by [] access ≡ false
nothing_seen (Some access) = refl
nothing_seen None = refl
