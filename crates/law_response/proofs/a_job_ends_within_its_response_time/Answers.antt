use Rattle.law_response.proofs.Jobs.{ends_in_rounds, ends_within}
use Rattle.law_response.proofs.a_job_ends_within_its_response_time.Goals as goal

pub returns-clause-once : goal.returns-clause-once
returns-clause-once c = ends_within

pub returns-clause-rounds : goal.returns-clause-rounds
returns-clause-rounds c = ends_in_rounds
