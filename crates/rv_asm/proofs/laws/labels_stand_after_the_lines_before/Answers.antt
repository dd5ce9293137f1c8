use Rattle.rv_asm.proofs.LabelPlaces.{labels_stand}
use Rattle.rv_asm.proofs.laws.labels_stand_after_the_lines_before.Goals as goal

pub returns : goal.returns
returns c = labels_stand
