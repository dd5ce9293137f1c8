-- Words as they are typed.
use Prim.Native.String.{String}
use Rattle.std.specs.Prelude.{◌≡◌, ℕ, ◌==◌, Bool, false, List, [], ◌∷◌, codes}
use Rattle.std.specs.List.{slice_split}

-- the words of a line, with one space between each and the next
abbrev pub typed : String → List (List ℕ)
typed line = slice_split (λ b. b == 32) (codes line)

abbrev pub begins_with_dash : List ℕ → Bool
begins_with_dash [] = false
begins_with_dash (b ∷ bs) = b == 45

-- a word that can't be taken for an option
abbrev pub IsPlain : List ℕ → Type 0
IsPlain word = begins_with_dash word ≡ false
