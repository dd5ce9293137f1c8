-- Lists in rising order of a key.
use Rattle.std.specs.Prelude.{ℕ, ◌==◌, nat_lt, List, [], ◌∷◌, if◌then◌else◌}

-- an item put at its place; where its key is there already, all stays
abbrev pub placed : {T : Type 0} → (T → ℕ) → T → List T → List T
placed key x [] = x ∷ []
placed key x (y ∷ ys) = if nat_lt (key x) (key y) then x ∷ (y ∷ ys) else (if key x == key y then y ∷ ys else y ∷ placed key x ys)

-- items put at their places
abbrev pub placed_all : {T : Type 0} → (T → ℕ) → List T → List T → List T
placed_all key [] ys = ys
placed_all key (x ∷ xs) ys = placed key x (placed_all key xs ys)
