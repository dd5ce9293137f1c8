use Rattle.law_service.proofs.Giving.{gives}
use Rattle.law_service.proofs.what_servers_give_is_an_entry.Goals as goal

pub returns : goal.returns
returns c = gives
