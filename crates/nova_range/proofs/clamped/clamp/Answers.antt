use Rattle.std.proofs.Common.{◌≡◌, subst, rules}
use Rattle.nova_range.specs.Clamps.{IsClamped, clamp_of}
use Rattle.nova_range.specs.declared.clamped.Clamped.{Clamped}
use Rattle.nova_range.proofs.Parts.{is_clamped}
use Rattle.nova_range.proofs.clamped.clamp.Goals as goal

pub returns-clause-sound : goal.returns-clause-sound
returns-clause-sound c =
    let result : Clamped = record { source = c.part_base.result; dest = c.part_base-2.result; order = c.min-order.result } in
    let is : clamp_of c.args.sent c.args.window c.args.hotspot ≡ result = search rules in
    subst (IsClamped c.args.sent c.args.window) is (is_clamped c.args.sent c.args.window c.args.hotspot c.requires.sent c.requires.window)
