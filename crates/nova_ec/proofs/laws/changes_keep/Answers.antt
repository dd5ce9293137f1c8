use Rattle.nova_ec.proofs.Changes.{changes_keep, deeds_keep, serving_keeps, parking_keeps, answering_keeps, resuming_keeps}
use Rattle.nova_ec.proofs.laws.changes_keep.Goals as goal

pub returns-clause-changes : goal.returns-clause-changes
returns-clause-changes c = changes_keep

pub returns-clause-deeds : goal.returns-clause-deeds
returns-clause-deeds c = deeds_keep

pub returns-clause-serving : goal.returns-clause-serving
returns-clause-serving c = serving_keeps

pub returns-clause-parking : goal.returns-clause-parking
returns-clause-parking c = parking_keeps

pub returns-clause-answering : goal.returns-clause-answering
returns-clause-answering c = answering_keeps

pub returns-clause-resuming : goal.returns-clause-resuming
returns-clause-resuming c = resuming_keeps
