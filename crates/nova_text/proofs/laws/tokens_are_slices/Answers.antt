use Rattle.nova_text.proofs.SliceLemmas.{slices-tokens}
use Rattle.nova_text.proofs.laws.tokens_are_slices.Goals as goal

pub returns : goal.returns
returns c = λ bytes row slice. slices-tokens bytes row.start row.text slice
