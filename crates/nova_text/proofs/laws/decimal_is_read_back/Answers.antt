use Rattle.nova_text.proofs.NumberLemmas.{number-decimal}
use Rattle.nova_text.proofs.laws.decimal_is_read_back.Goals as goal

pub returns : goal.returns
returns c = number-decimal
