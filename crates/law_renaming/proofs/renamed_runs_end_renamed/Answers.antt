use Rattle.law_renaming.proofs.Twins.{booted_end, twins_end}
use Rattle.law_renaming.proofs.renamed_runs_end_renamed.Goals as goal

pub returns-clause-runs : goal.returns-clause-runs
returns-clause-runs c = twins_end

pub returns-clause-begun : goal.returns-clause-begun
returns-clause-begun c = booted_end
