use Rattle.law_rows.proofs.Telling.{counter, head, high, low, qualifications}
use Rattle.law_rows.proofs.messages.an_exit_tells_the_groups_of_its_descriptor.Goals as goal

pub returns-clause-head : goal.returns-clause-head
returns-clause-head c = head

pub returns-clause-qualifications : goal.returns-clause-qualifications
returns-clause-qualifications c = qualifications

pub returns-clause-pc : goal.returns-clause-pc
returns-clause-pc c = counter

pub returns-clause-low : goal.returns-clause-low
returns-clause-low c = low

pub returns-clause-high : goal.returns-clause-high
returns-clause-high c = high
