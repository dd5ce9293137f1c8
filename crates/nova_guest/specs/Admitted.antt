-- Which inputs the state of a guest admits. Any other changes nothing and puts out nothing.
use Rattle.std.specs.Prelude.{◌||◌, Bool, true, false, not, is_some}
use Rattle.std.specs.List.{list_any}
use Rattle.nova_guest.specs.Cells.{cell_at}
use Rattle.nova_guest.specs.Maps.{is_map, overlaps}
use Rattle.nova_guest.specs.declared.guest.Guest.{Guest}
use Rattle.nova_guest.specs.declared.guest.GuestState.{GuestState}
use Rattle.nova_guest.specs.declared.guest.GuestState.TheVariants.{Fresh, Ready, Exit, Waiting}
use Rattle.nova_guest.specs.declared.input.Input.{Input}
use Rattle.nova_guest.specs.declared.input.Input.TheVariants.{Own, Reply, Recall, Given, Taken, Foreign, Sent, Died}

-- it acts; its exit is not sent; its exit waits for a reply
abbrev pub acts : GuestState → Bool
acts Fresh = true
acts Ready = true
acts other = false

abbrev pub has_exit : GuestState → Bool
has_exit (Exit reason q0 q1) = true
has_exit other = false

abbrev pub waits : GuestState → Bool
waits Waiting = true
waits other = false

abbrev pub admits : Guest → Input → Bool
admits v Own = acts v.state
admits v Sent = has_exit v.state
admits v Died = has_exit v.state || waits v.state
admits v (Reply mtd words) = waits v.state
admits v Recall = true
admits v (Given base order rights frame contents) = not (list_any (overlaps base order) v.maps)
admits v (Taken base order) = list_any (is_map base order) v.maps
admits v (Foreign frame offset width value) = is_some (cell_at v.cells frame)
