use Rattle.std.proofs.Common.{refl}
use Rattle.nova_naming.specs.Labels.{label_of}
use Rattle.nova_naming.proofs.laws.lines_give_labels.Goals as goal

pub returns : goal.returns
unfolding label_of
returns c = record { trusted = refl; side = refl; own = refl; called = refl; flows = refl }
