-- The last digit of a number tells whether it is odd.
use Rattle.std.specs.Prelude.{ℕ, ◌%◌, ◌==◌, Bool, ◌&&◌, List, [], ◌∷◌}
use Rattle.std.specs.Char.{is_digit, digit_value}

abbrev pub is_odd_digit : ℕ → Bool
is_odd_digit c = is_digit c 16 && digit_value c % 2 == 1

-- whether the last byte is an odd digit; the first argument is the answer where there is no byte
abbrev pub ends_odd : Bool → List ℕ → Bool
ends_odd odd [] = odd
ends_odd odd (c ∷ cs) = ends_odd (is_odd_digit c) cs
