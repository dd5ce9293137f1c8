-- The words of a line as the program has them.
use Rattle.std.specs.Prelude.{ℕ, List, [], ◌∷◌, length, Result, Ok, Err}
use Rattle.rv_asm.specs.declared.fault.AsmFault.{AsmFault}
use Rattle.rv_asm.specs.declared.words.Words.{Words}
use Rattle.rv_asm.specs.declared.words.Words.TheVariants.{Nothing, One, Two}

abbrev pub words_in : Words → List ℕ
words_in Nothing = []
words_in (One w) = w ∷ []
words_in (Two v w) = v ∷ w ∷ []

abbrev pub line_shown : Result Words AsmFault → Result (List ℕ) AsmFault
line_shown (Ok words) = Ok (words_in words)
line_shown (Err fault) = Err fault

-- how many words are shown; a fault counts as one
abbrev pub shown_count : Result (List ℕ) AsmFault → ℕ
shown_count (Ok words) = length words
shown_count (Err fault) = 1
