-- The table of objects. An object's number is its place in it.
use Rattle.std.specs.Prelude.{ℕ, Bool, true, false, List, Option, Some}
use Rattle.nova_objects.specs.declared.object.Object.TheVariants.{Pd}
use Rattle.nova_objects.specs.declared.object.Object.{Object}

-- the objects in the order of their making, and for how many more there is room
pub record ObjectTable : Type 0 where
  pub items : List Object
  pub spare : ℕ

-- what has a number is a protection domain
abbrev pub is_domain : Option Object → Bool
is_domain (Some Pd) = true
is_domain other = false
