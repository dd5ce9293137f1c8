use Rattle.nova_calls.proofs.Numbered.{read_numbered}
use Rattle.nova_calls.proofs.laws.calls_have_their_numbers.Goals as goal

pub returns : goal.returns
returns c = read_numbered
