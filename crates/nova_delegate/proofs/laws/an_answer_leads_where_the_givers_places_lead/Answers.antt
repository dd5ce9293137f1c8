use Rattle.nova_delegate.proofs.Answering.{answered}
use Rattle.nova_delegate.proofs.laws.an_answer_leads_where_the_givers_places_lead.Goals as goal

pub returns : goal.returns
returns c = answered
