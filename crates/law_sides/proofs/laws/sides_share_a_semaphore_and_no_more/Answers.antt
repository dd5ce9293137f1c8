use Rattle.law_sides.proofs.Shared.{capabilities_left, contexts_left, semaphores_left}
use Rattle.law_sides.proofs.laws.sides_share_a_semaphore_and_no_more.Goals as goal

pub returns-clause-contexts : goal.returns-clause-contexts
returns-clause-contexts c shared s turns label cpu ec side n policy acts_ own some other m = contexts_left s turns label cpu ec side policy acts_ own some other n m

pub returns-clause-semaphores : goal.returns-clause-semaphores
returns-clause-semaphores c shared s turns label cpu ec side sm policy acts_ own some other its there lone = semaphores_left s turns label cpu ec side policy acts_ own some other sm its there lone

pub returns-clause-capabilities : goal.returns-clause-capabilities
returns-clause-capabilities c shared s turns label cpu ec side d policy parents acts_ own some other there kind its sm common =
    capabilities_left s turns label cpu ec side policy acts_ own some other parents d there kind its sm common
