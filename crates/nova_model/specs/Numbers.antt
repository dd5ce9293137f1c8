-- What a number in a signature stands for. Each of these is a number like any other.
use Rattle.std.specs.Prelude.{ℕ}

-- an object of the kernel, by its place in the list of all, and the same for objects of one type
abbrev pub ObjectId : Type 0
ObjectId = ℕ

abbrev pub PdId : Type 0
PdId = ObjectId

abbrev pub EcId : Type 0
EcId = ObjectId

abbrev pub ScId : Type 0
ScId = ObjectId

abbrev pub PtId : Type 0
PtId = ObjectId

abbrev pub SmId : Type 0
SmId = ObjectId

-- a processor
abbrev pub CpuId : Type 0
CpuId = ℕ

-- a derivation: ids rise, and none is given twice
abbrev pub DerivationId : Type 0
DerivationId = ℕ

-- a place in the object space of a protection domain, below 2^20
abbrev pub Selector : Type 0
Selector = ℕ

-- 4,096 bytes of addresses, below 2^20
abbrev pub PageNumber : Type 0
PageNumber = ℕ

-- a frame: first those of RAM, then those of consoles
abbrev pub FrameNumber : Type 0
FrameNumber = ℕ
