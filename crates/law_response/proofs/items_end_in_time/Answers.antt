use Rattle.law_response.proofs.Items.{items_end, items_end_in_time}
use Rattle.law_response.proofs.items_end_in_time.Goals as goal

pub returns-clause-acts : goal.returns-clause-acts
returns-clause-acts c = items_end

pub returns-clause-pays : goal.returns-clause-pays
returns-clause-pays c = items_end_in_time
