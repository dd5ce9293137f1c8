use Rattle.law_response.proofs.Rung.{rings_in_time}
use Rattle.law_response.proofs.an_alarm_rings_in_time.Goals as goal

pub returns : goal.returns
returns c = rings_in_time
