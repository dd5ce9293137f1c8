use Rattle.std.proofs.Common.{refl}
use Rattle.law_integrity.specs.Confined.{Of}
use Rattle.law_flow.proofs.Pairs.{never}
use Rattle.law_guests.proofs.Comparing.{guests_home}
use Rattle.law_guests.proofs.a_guest_at_home_is_one_guest.Goals as goal

pub returns : goal.returns
returns c = λ revokes a b before since turns others S T U P C g first second home abroad alike timed takes works same virtual mine.
    guests_home (record {
      registers = c.a_view_is_what_the_state_has.ensures.registers;
      recall = c.a_view_is_what_the_state_has.ensures.recall;
      state = c.a_view_is_what_the_state_has.ensures.state;
      maps = c.a_view_is_what_the_state_has.ensures.maps;
      cells = c.a_view_is_what_the_state_has.ensures.cells;
      no_other = c.a_view_is_what_the_state_has.ensures.no_other;
      stored = c.inputs_say_what_was_done.ensures.stored;
      nobody = c.what_is_done_is_told.ensures.nobody;
      given_maps = c.a_given_map_leaves_the_cells_that_are_there.ensures.maps;
    }) (record {
      found = c.renamings_are_forced.ensures.found;
      holds = c.two_guests_are_compared.ensures.holds;
      alone = c.two_guests_are_compared.ensures.alone;
      same = c.renamings_are_there.ensures.same;
    }) revokes a b before since turns others S P C (Of T) (Of U) g first
    (record { reached = record { scenario = a; before = before; is = refl; part = first }; home = home; nothing = λ h. absurd (never h) }) works
    (record { reached = record { scenario = b; before = since; is = refl; part = second }; home = abroad; nothing = λ h. absurd (never h) }) alike (record { timed = timed; within = takes; alone = λ h. absurd (never h) }) same virtual mine
