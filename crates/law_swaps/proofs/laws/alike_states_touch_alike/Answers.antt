use Rattle.law_swaps.proofs.Likeness.{touched_alike}
use Rattle.law_swaps.proofs.laws.alike_states_touch_alike.Goals as goal

pub returns : goal.returns
returns c = touched_alike
