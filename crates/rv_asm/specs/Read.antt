-- What the words of a program are.
use Rattle.std.specs.Prelude.{◌≡◌, ◌<◌, ◌^◌, List, [], ◌∷◌, Some}
use Rattle.rv_model.specs.Codes.{instr_of, word_of}
use Rattle.rv_asm.specs.Name.{Item, Does, Holds}

-- the word of an instruction is read as that instruction; a number is a word
abbrev pub IsRead : Item → Type 0
IsRead (Does i) = instr_of (word_of i) ≡ Some i
IsRead (Holds n) = n < 2 ^ 32

abbrev pub AreRead : List Item → Type 0
AreRead [] = Unit {0}
AreRead (item ∷ items) = IsRead item × AreRead items
