use Rattle.law_integrity.specs.Confined.{Of}
use Rattle.law_flow.proofs.Turns.{alike_flipped}
use Rattle.law_guests.proofs.Telling.{guest_part, others_tell_nothing, own_tells_same}
use Rattle.law_guests.proofs.Views.{view_same}
use Rattle.law_guests.proofs.a_sides_part_tells_what_its_guests_are_and_meet.Goals as goal

pub returns-clause-views : goal.returns-clause-views
returns-clause-views c = λ k l S P g sound also side alike virtual mine.
    view_same (record {
      registers = c.a_view_is_what_the_state_has.ensures.registers;
      recall = c.a_view_is_what_the_state_has.ensures.recall;
      state = c.a_view_is_what_the_state_has.ensures.state;
      maps = c.a_view_is_what_the_state_has.ensures.maps;
      cells = c.a_view_is_what_the_state_has.ensures.cells;
      no_other = c.a_view_is_what_the_state_has.ensures.no_other;
      stored = c.inputs_say_what_was_done.ensures.stored;
      nobody = c.what_is_done_is_told.ensures.nobody;
      given_maps = c.a_given_map_leaves_the_cells_that_are_there.ensures.maps;
    }) k l (Of S) (Of P) alike (alike_flipped k l (Of S) (Of P) alike) sound also g (guest_part k S (Of P) side g virtual mine) mine virtual

pub returns-clause-inputs : goal.returns-clause-inputs
returns-clause-inputs c = λ k l S P cpu other ec sc g sound also side alike own theirs works virtual mine.
    own_tells_same (record {
      registers = c.a_view_is_what_the_state_has.ensures.registers;
      recall = c.a_view_is_what_the_state_has.ensures.recall;
      state = c.a_view_is_what_the_state_has.ensures.state;
      maps = c.a_view_is_what_the_state_has.ensures.maps;
      cells = c.a_view_is_what_the_state_has.ensures.cells;
      no_other = c.a_view_is_what_the_state_has.ensures.no_other;
      stored = c.inputs_say_what_was_done.ensures.stored;
      nobody = c.what_is_done_is_told.ensures.nobody;
      given_maps = c.a_given_map_leaves_the_cells_that_are_there.ensures.maps;
    }) k l S P cpu other ec sc g (record { side = side; alike = alike; first = sound; second = also }) own theirs works virtual mine

pub returns-clause-nothing : goal.returns-clause-nothing
returns-clause-nothing c = λ s turns S T P cpu g part none virtual mine. others_tell_nothing (record {
  registers = c.a_view_is_what_the_state_has.ensures.registers;
  recall = c.a_view_is_what_the_state_has.ensures.recall;
  state = c.a_view_is_what_the_state_has.ensures.state;
  maps = c.a_view_is_what_the_state_has.ensures.maps;
  cells = c.a_view_is_what_the_state_has.ensures.cells;
  no_other = c.a_view_is_what_the_state_has.ensures.no_other;
  stored = c.inputs_say_what_was_done.ensures.stored;
  nobody = c.what_is_done_is_told.ensures.nobody;
  given_maps = c.a_given_map_leaves_the_cells_that_are_there.ensures.maps;
}) s turns S P (Of T) cpu g part virtual mine none
