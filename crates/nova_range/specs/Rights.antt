-- Rights: sets of bits, whose meaning goes by what a capability leads to.
use Rattle.std.specs.Prelude.{◌≡◌, ◌<◌, ℕ, ◌^◌, ◌==◌, Bool, bit_and, List, map, sum}
use Rattle.nova_range.specs.declared.rights.Rights.{Rights}
use Rattle.nova_range.specs.declared.rights.Target.{Target}
use Rattle.nova_range.specs.declared.rights.Target.TheVariants.{Memory, Pd, Ec, Sc, Pt, Sm}

-- rights are five bits
abbrev pub IsRights : Rights → Type 0
IsRights r = r.0 < 2 ^ 5

abbrev pub rights_of : ℕ → Rights
rights_of bits = record { 0 = bits }

-- rights of a memory range
abbrev pub read_right : ℕ
read_right = 1

abbrev pub write_right : ℕ
write_right = 2

abbrev pub execute_right : ℕ
execute_right = 4

-- the right is among the rights
abbrev pub allows : Rights → ℕ → Bool
allows rights right = bit_and rights.0 right == right

-- all rights to a target
abbrev pub all_rights : Target → Rights
all_rights Memory = rights_of 7  -- read 1, write 2, execute 4
all_rights Pd = rights_of 1  -- create 1
all_rights Ec = rights_of 7  -- control 1, bind a scheduling context 2, bind a portal 4
all_rights Sc = rights_of 1  -- control 1
all_rights Pt = rights_of 7  -- control 1, call 2, event 4
all_rights Sm = rights_of 3  -- up 1, down 2

-- the rights to a target have these bits, and all rights to it are these bits together
pub record AreRightsTo (target : Target) (rights : List Rights) (bits : List ℕ) : Type 0 where
  pub each : rights ≡ map rights_of bits
  pub all : all_rights target ≡ rights_of (sum bits)
