use Rattle.std.proofs.Common.{refl}
use Rattle.nova_text.specs.Line.{line_texts, lines}
use Rattle.nova_text.specs.Number.{number}
use Rattle.nova_text.specs.Token.{tokens}
use Rattle.nova_naming.specs.Policy.{policy_of}
use Rattle.nova_naming.proofs.laws.texts_are_no_policies.Goals as goal

pub returns : goal.returns
unfolding policy_of lines line_texts tokens number
returns c = record { word = refl; name = refl; no_name = refl; number = refl; none = refl; same_name = refl; same_domain = refl; same_semaphore = refl; no_semaphore = refl; no_side = refl; no_other = refl; one_more = refl; itself = refl; same_flow = refl; twice = refl }
