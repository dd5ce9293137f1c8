use Rattle.std.specs.Prelude.{ℕ, List, codes}
use Rattle.nova_io.specs.declared.faults.FetchFault.{FetchFault}
use Rattle.nova_io.specs.declared.faults.FetchFault.TheVariants.{Failed, TooLong, Memory}

-- what is printed of a fault
abbrev pub text_of : FetchFault → List ℕ
text_of Failed = codes "a fetch failed"
text_of TooLong = codes "too many bytes"
text_of Memory = codes "out of memory"
