use Rattle.law_leases.proofs.Bursting.{burst}
use Rattle.law_leases.proofs.Traced.{traced}
use Rattle.law_leases.proofs.laws.own_inputs_without_output_are_turns.Goals as goal

pub returns-clause-state : goal.returns-clause-state
returns-clause-state c = burst

pub returns-clause-events : goal.returns-clause-events
returns-clause-events c = traced
