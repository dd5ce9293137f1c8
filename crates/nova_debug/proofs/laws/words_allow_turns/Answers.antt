use Rattle.std.proofs.Common.{refl}
use Rattle.nova_text.specs.Number.{number}
use Rattle.nova_debug.proofs.laws.words_allow_turns.Goals as goal

pub returns : goal.returns
unfolding number
returns c = record { one = refl; most = refl; hexadecimal = refl; none = refl; more = refl; large = refl; word = refl; empty = refl }
