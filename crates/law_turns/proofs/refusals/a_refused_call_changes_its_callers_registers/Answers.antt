use Rattle.law_turns.proofs.Refused.{refusal}
use Rattle.law_turns.proofs.refusals.a_refused_call_changes_its_callers_registers.Goals as goal

pub returns : goal.returns
returns c = refusal
