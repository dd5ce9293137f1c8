use Rattle.law_guests.proofs.Dividing.{guests_divided}
use Rattle.law_guests.proofs.Comparing.{one_order}
use Rattle.law_guests.specs.Guests.{only}
use Rattle.law_guests.proofs.a_guest_on_divided_processors_is_one_guest.Goals as goal

pub returns-clause-order : goal.returns-clause-order
returns-clause-order c = guests_divided (record {
  registers = c.a_view_is_what_the_state_has.ensures.registers;
  recall = c.a_view_is_what_the_state_has.ensures.recall;
  state = c.a_view_is_what_the_state_has.ensures.state;
  maps = c.a_view_is_what_the_state_has.ensures.maps;
  cells = c.a_view_is_what_the_state_has.ensures.cells;
  no_other = c.a_view_is_what_the_state_has.ensures.no_other;
  stored = c.inputs_say_what_was_done.ensures.stored;
  nobody = c.what_is_done_is_told.ensures.nobody;
  given_maps = c.a_given_map_leaves_the_cells_that_are_there.ensures.maps;
}) (record {
  found = c.renamings_are_forced.ensures.found;
  holds = c.two_guests_are_compared.ensures.holds;
  alone = c.two_guests_are_compared.ensures.alone;
  same = c.renamings_are_there.ensures.same;
})

pub returns-clause-number : goal.returns-clause-number
returns-clause-number c = λ revokes a b before since turns others S T U P cpu g first second divided also alike timed takes works count virtual mine.
    guests_divided (record {
      registers = c.a_view_is_what_the_state_has.ensures.registers;
      recall = c.a_view_is_what_the_state_has.ensures.recall;
      state = c.a_view_is_what_the_state_has.ensures.state;
      maps = c.a_view_is_what_the_state_has.ensures.maps;
      cells = c.a_view_is_what_the_state_has.ensures.cells;
      no_other = c.a_view_is_what_the_state_has.ensures.no_other;
      stored = c.inputs_say_what_was_done.ensures.stored;
      nobody = c.what_is_done_is_told.ensures.nobody;
      given_maps = c.a_given_map_leaves_the_cells_that_are_there.ensures.maps;
    }) (record {
      found = c.renamings_are_forced.ensures.found;
      holds = c.two_guests_are_compared.ensures.holds;
      alone = c.two_guests_are_compared.ensures.alone;
      same = c.renamings_are_there.ensures.same;
    }) revokes a b before since turns others S T U P (only cpu) g first second divided also alike timed takes works (one_order cpu turns others count) virtual mine
