-- Range words: base << 12 | order << 7 | rights << 2 | type, with the base in bits 12 to 31, the order in bits 7 to 11, the rights
-- in bits 2 to 6 and the type in bits 0 and 1.
use Rattle.std.specs.Prelude.{ℕ, ◌+◌, ◌*◌, ◌%◌, ◌^◌, ◌==◌, nat_lt, if◌then◌else◌, Option, Some, None, Result, Ok, Err, ◌/◌}
use Rattle.nova_range.specs.Ranges.{IsRange}
use Rattle.nova_range.specs.Rights.{IsRights, rights_of}
use Rattle.nova_range.specs.declared.range.Kind.{Kind}
use Rattle.nova_range.specs.declared.range.Kind.TheVariants.{Mem, Obj}
use Rattle.nova_range.specs.declared.range.Range.{Range}
use Rattle.nova_range.specs.declared.rights.Rights.{Rights}
use Rattle.nova_range.specs.declared.word.WordFault.{WordFault}
use Rattle.nova_range.specs.declared.word.WordFault.TheVariants.{BadType, BadOrder, BadBase}

abbrev pub type_in : ℕ → ℕ
type_in word = word / 2 ^ 0 % 2 ^ 2

abbrev pub rights_in : ℕ → ℕ
rights_in word = word / 2 ^ 2 % 2 ^ 5

abbrev pub order_in : ℕ → ℕ
order_in word = word / 2 ^ 7 % 2 ^ 5

abbrev pub base_in : ℕ → ℕ
base_in word = word / 2 ^ 12 % 2 ^ 20

-- the types: 1 is memory and 3 is object. Type 0 is null, and type 2 is none.
abbrev pub type_of : Kind → ℕ
type_of Mem = 1
type_of Obj = 3

abbrev pub kind_in : ℕ → Kind
kind_in word = if type_in word == 1 then Mem else Obj

-- the first fault of a word that is not null
abbrev pub fault_in : ℕ → Option WordFault
fault_in word =
    if type_in word == 2 then Some BadType
    else if nat_lt 20 (order_in word) then Some BadOrder
    else if base_in word % 2 ^ order_in word == 0 then None
    else Some BadBase

-- the range and the rights in the fields of a word
abbrev pub fields_of : ℕ → Range × Rights
fields_of word = (record { kind = kind_in word; base = base_in word; order = order_in word }, rights_of (rights_in word))

abbrev pub unless : Option WordFault → Range × Rights → Result (Option (Range × Rights)) WordFault
unless None read = Ok (Some read)
unless (Some fault) read = Err fault

-- what a word reads as: nothing where its type is 0, whatever its other bits are; else its fields, or its first fault
abbrev pub meaning_of : ℕ → Result (Option (Range × Rights)) WordFault
meaning_of word = if type_in word == 0 then Ok None else unless (fault_in word) (fields_of word)

-- what has a word: nothing, and each range with five bits of rights
abbrev pub HasWord : Option (Range × Rights) → Type 0
HasWord None = Unit {0}
HasWord (Some (range, rights)) = IsRange range × IsRights rights

-- its word; that of nothing is 0
abbrev pub word_of : Option (Range × Rights) → ℕ
word_of None = 0
word_of (Some (range, rights)) = range.base * 2 ^ 12 + range.order * 2 ^ 7 + rights.0 * 2 ^ 2 + type_of range.kind
