-- The labels as the program has them.
use Rattle.std.specs.HashMap as hash
use Rattle.std.specs.Cmp.Lexicographic.{pointwise}
use Rattle.std.specs.Prelude.{nat_eq}
use Rattle.rv_asm.specs.Operand as operand
use Rattle.rv_asm.specs.declared.label.Labels.{Labels}

abbrev pub places_of : Labels → operand.Labels
places_of labels = λ name. hash.get_by (λ key. pointwise nat_eq name key.now) labels.places
