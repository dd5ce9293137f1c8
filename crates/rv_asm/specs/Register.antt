-- The registers' names. (RISC-V calling convention, table of register names.)
use Rattle.std.specs.Prelude.{ℕ, List, [], ◌∷◌, Bool, ◌||◌, Option, Some, codes, if◌then◌else◌}
use Rattle.std.specs.List.{position}
use Rattle.std.specs.Str.{bytes_eq}

-- the names of x0 to x31, each by number and by use
abbrev pub names : List (List ℕ × List ℕ)
names =
    (codes "x0", codes "zero") ∷ (codes "x1", codes "ra") ∷ (codes "x2", codes "sp") ∷ (codes "x3", codes "gp") ∷ (codes "x4", codes "tp") ∷ (codes "x5", codes "t0") ∷ (codes "x6", codes "t1") ∷ (codes "x7", codes "t2") ∷ (codes "x8", codes "s0") ∷ (codes "x9", codes "s1") ∷ (codes "x10", codes "a0") ∷ (codes "x11", codes "a1") ∷ (codes "x12", codes "a2") ∷ (codes "x13", codes "a3") ∷ (codes "x14", codes "a4") ∷ (codes "x15", codes "a5") ∷ (codes "x16", codes "a6") ∷ (codes "x17", codes "a7") ∷ (codes "x18", codes "s2") ∷ (codes "x19", codes "s3") ∷ (codes "x20", codes "s4") ∷ (codes "x21", codes "s5") ∷ (codes "x22", codes "s6") ∷ (codes "x23", codes "s7") ∷ (codes "x24", codes "s8") ∷ (codes "x25", codes "s9") ∷ (codes "x26", codes "s10") ∷ (codes "x27", codes "s11") ∷ (codes "x28", codes "t3") ∷ (codes "x29", codes "t4") ∷ (codes "x30", codes "t5") ∷ (codes "x31", codes "t6") ∷ []

-- whether a name is one of a pair
abbrev pub is_of : List ℕ → List ℕ × List ℕ → Bool
is_of name pair = bytes_eq pair.0 name || bytes_eq pair.1 name

-- the number of the register that has a name in the table
abbrev pub number_in_table : List ℕ → Option ℕ
number_in_table name = position (is_of name) names

-- the number of the register of a name; x8 has a second name by use
abbrev pub number_named : List ℕ → Option ℕ
number_named name = if bytes_eq name (codes "fp") then Some 8 else number_in_table name
