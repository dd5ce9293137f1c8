use Rattle.std.proofs.Common.{◌≡◌, ◌≢◌, ◌||◌, Bool, true, false, refl}
use Rattle.std.specs.Prelude.{if◌then◌else◌}
use Rattle.law_sides.specs.Roles.{is_at_rest, is_bare, is_mute}
use Rattle.nova_sides.specs.declared.roles.Role.TheVariants.{Rests, Bare, Mute, Works}
use Rattle.nova_sides.proofs.roles.what_is_not_at_work_is_harmless.Goals as goal

by_tests : (a b c : Bool) → (if a then Rests else if b then Bare else if c then Mute else Works) ≢ Works → (a || (b || c)) ≡ true
by_tests true b c never = refl
by_tests false true c never = refl
by_tests false false true never = refl
by_tests false false false never = absurd (never refl)

pub returns : goal.returns
returns c k label domains at_work = record {
  domains = domains;
  trusted = λ n trusted there. by_tests (is_at_rest k label n) (is_bare k label n) (is_mute k label n) (at_work n trusted there);
}
