-- Memory that comes to a virtual CPU, with the bytes of its frames.
use Rattle.std.specs.Prelude.{ℕ, ◌<◌, List, length, Option, Some}
use Rattle.nova_guest.specs.declared.input.Input.{Input}
use Rattle.nova_guest.specs.declared.input.Input.TheVariants as input
use Rattle.nova_model.specs.Inputs.{contents_of}
use Rattle.nova_model.specs.declared.delegation.Derivation.{Derivation}

-- a memory derivation that comes, over frames with these bytes
abbrev pub given_in : List (List ℕ) → Derivation → Input
given_in ram d = input.Given d.base d.order d.rights d.target (contents_of ram d.target d.order)

-- it gives memory, and bytes of it
abbrev pub BringsBytes : Option Input → Type 0
BringsBytes (Some (input.Given base order rights frame contents)) = 0 < length contents
BringsBytes other = ⊥
