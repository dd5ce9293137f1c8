use Rattle.law_sides.proofs.Untouched.{sink_keeps, sink_leaves, source_blind}
use Rattle.law_sides.proofs.laws.a_source_is_not_reached_by_its_sink.Goals as goal

pub returns-clause-frames : goal.returns-clause-frames
returns-clause-frames c shared flows = sink_leaves

pub returns-clause-memory : goal.returns-clause-memory
returns-clause-memory c shared flows = sink_keeps

pub returns-clause-blind : goal.returns-clause-blind
returns-clause-blind c shared flows = source_blind
