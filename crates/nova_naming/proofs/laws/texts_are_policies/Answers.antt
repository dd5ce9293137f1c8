use Rattle.std.proofs.Common.{refl}
use Rattle.nova_text.specs.Line.{line_texts, lines}
use Rattle.nova_text.specs.Number.{number}
use Rattle.nova_text.specs.Token.{tokens}
use Rattle.nova_naming.specs.Policy.{policy_of}
use Rattle.nova_naming.proofs.laws.texts_are_policies.Goals as goal

pub returns : goal.returns
unfolding policy_of lines line_texts tokens number
returns c = record { sides = refl; shared = refl; flow = refl; empty = refl }
