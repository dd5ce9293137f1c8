use Rattle.law_texts.proofs.Faults.{fault_stays}
use Rattle.law_texts.proofs.laws.a_fault_of_closed_lines_stays.Goals as goal

pub returns : goal.returns
returns c = fault_stays
