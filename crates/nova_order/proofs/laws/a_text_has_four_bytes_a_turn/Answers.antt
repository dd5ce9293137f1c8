use Rattle.nova_order.proofs.LengthLemmas.{short_text}
use Rattle.nova_order.proofs.laws.a_text_has_four_bytes_a_turn.Goals as goal

pub returns : goal.returns
returns c = short_text
