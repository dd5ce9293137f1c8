-- Lines: a derivation, its parent, the parent's parent and so on. (NOVA's mapping database.)
use Rattle.std.specs.Prelude.{ℕ, zero, suc, List, [], ◌∷◌, Option, Some, None}
use Rattle.nova_model.specs.Delegations.{parent_of}
use Rattle.nova_model.specs.declared.delegation.Derivation.{Derivation}

-- at most `most` derivations of the line
abbrev pub line_by : ℕ → List Derivation → Option Derivation → List Derivation
line_by zero list d = []
line_by (suc most) list None = []
line_by (suc most) list (Some d) = d ∷ line_by most list (parent_of list d)

-- ids fall, so that the line has at most as many as d's id and one
abbrev pub line : List Derivation → Derivation → List Derivation
line list d = line_by (suc d.id) list (Some d)
