use Rattle.std.proofs.Common.{◌≡◌, Some, refl}
use Rattle.rv_model.specs.Table.{row_of}
use Rattle.rv_model.specs.declared.mnemonic.Mnemonic.{Mnemonic}
use Rattle.rv_model.specs.declared.mnemonic.Mnemonic.TheVariants.{Lui}
use Rattle.rv_core.specs.Rows.{mnemonic_named}
use Rattle.rv_core.proofs.laws.names_are_distinct.Goals as goal

named : (m : Mnemonic) → mnemonic_named (row_of m).name ≡ Some m
named Lui = refl
named _ = refl

pub returns : goal.returns
returns c = named
