-- What is printed of a fault.
use Rattle.std.specs.Prelude.{ℕ, List, codes}
use Rattle.nova_naming.specs.declared.fault.PolicyWhy.{PolicyWhy}
use Rattle.nova_naming.specs.declared.fault.PolicyWhy.TheVariants.{Word, Name, Number, Empty, SameName, SameDomain, SameSemaphore, NoSide, SameSide, SameFlow, TooMany}

abbrev pub text_of : PolicyWhy → List ℕ
text_of Word = codes "Word"
text_of Name = codes "Name"
text_of Number = codes "Number"
text_of Empty = codes "Empty"
text_of SameName = codes "SameName"
text_of SameDomain = codes "SameDomain"
text_of SameSemaphore = codes "SameSemaphore"
text_of NoSide = codes "NoSide"
text_of SameSide = codes "SameSide"
text_of SameFlow = codes "SameFlow"
text_of TooMany = codes "TooMany"
