use Rattle.nova_text.specs.Line.{lines}
use Rattle.nova_text.proofs.SliceLemmas.{slices-lines}
use Rattle.nova_text.proofs.lines.Lines.new.Goals as goal

pub returns-clause-slices : goal.returns-clause-slices
unfolding lines
returns-clause-slices c = slices-lines c.args.bytes.now
