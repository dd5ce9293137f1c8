-- The files of a depot.
use Rattle.std.specs.Prelude.{ℕ, List, [], ◌∷◌, ◌++◌, Option, unwrap_or}
use Rattle.std.specs.Option.{option_map}
use Rattle.std.specs.Ordering.{nat_cmp}
use Rattle.std.specs.Cmp.Lexicographic.{slice_cmp}
use Rattle.std.specs.FinMap.{FinMap, get, insert}

-- bytes by name, a name being the bytes of a text
abbrev pub Files : Type 0
Files = FinMap (slice_cmp nat_cmp) (List ℕ)

-- the bytes of a name, and none where there is no such file
abbrev pub bytes_of : Files → List ℕ → List ℕ
bytes_of files name = unwrap_or (get files name) []

-- the files after these bytes were appended to those of the name; no bytes change nothing
abbrev pub appended : Files → List ℕ → List ℕ → Files
appended files name [] = files
appended files name (b ∷ bs) = insert files name (bytes_of files name ++ b ∷ bs)

-- the same where the files are told
abbrev pub with_appended : Option Files → List ℕ → List ℕ → Option Files
with_appended files name bytes = option_map (λ held. appended held name bytes) files
