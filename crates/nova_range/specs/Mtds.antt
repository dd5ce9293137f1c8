-- Message transfer descriptors.
use Rattle.std.specs.Prelude.{◌≡◌, ◌<◌, ℕ, ◌^◌, ◌==◌, Bool, bit_and, List, map}
use Rattle.nova_range.specs.declared.mtd.Mtd.{Mtd}

-- a descriptor names at most the four groups
abbrev pub IsMtd : Mtd → Type 0
IsMtd m = m.0 < 2 ^ 4

-- groups have these bits
abbrev pub AreGroups : List Mtd → List ℕ → Type 0
AreGroups groups bits = groups ≡ map (λ n. record { 0 = n }) bits

-- whether a descriptor names a group
abbrev pub names : Mtd → Mtd → Bool
names mtd group = bit_and mtd.0 group.0 == group.0
