use Rattle.law_isolation.proofs.Seen.{view_registers}
use Rattle.law_views.proofs.Alike.{one_view}
use Rattle.law_views.proofs.Seen.{view_cells, view_maps, view_recall, view_shown}
use Rattle.law_views.proofs.a_view_is_what_the_state_has.Goals as goal

pub returns-clause-registers : goal.returns-clause-registers
returns-clause-registers c = view_registers

pub returns-clause-recall : goal.returns-clause-recall
returns-clause-recall c = view_recall

pub returns-clause-state : goal.returns-clause-state
returns-clause-state c = view_shown

pub returns-clause-maps : goal.returns-clause-maps
returns-clause-maps c = view_maps

pub returns-clause-cells : goal.returns-clause-cells
returns-clause-cells c = view_cells

pub returns-clause-no_other : goal.returns-clause-no_other
returns-clause-no_other c = one_view
