use Rattle.std.proofs.Common.{rules, ◌≡◌}
use Rattle.nova_guest.specs.Cells.{cells_given, frame_of, missing}
use Rattle.nova_guest.specs.Keyed.{placed, placed_all}
use Rattle.nova_guest.specs.Maps.{base_of}
use Rattle.nova_guest.proofs.Kept.{frames_fit, given_kept}
use Rattle.nova_alone.proofs.applying.give.Goals as goal

pub add-requires : goal.add-requires
add-requires c = frames_fit c.args.map c.args.contents.now c.requires.map c.requires.contents

pub returns-clause-kept : goal.returns-clause-kept
returns-clause-kept c =
    let there : c.in_ok-maps.maps ≡ placed base_of c.args.map c.args.guest.now.maps = search rules in
    let come : c.add.new.self ≡ placed_all frame_of (missing c.args.guest.now.cells (cells_given c.args.map.frame c.args.contents.now)) c.args.guest.now.cells = search rules in
    given_kept c.args.guest.now c.args.map c.args.contents.now c.in_ok-maps.maps c.add.new.self c.requires.guest c.requires.map (search rules) there come
