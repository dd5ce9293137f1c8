-- A virtual CPU that is followed turn by turn: what is known of it so far.
use Rattle.std.specs.Prelude.{◌≡◌, ℕ, Bool, false, List, [], ◌∷◌, ◌++◌, slice_get, Option, Some, None, if◌then◌else◌}
use Rattle.std.specs.List.{All}
use Rattle.nova_guest.specs.Conditions.{IsGuest, IsInput}
use Rattle.nova_guest.specs.declared.guest.Guest.{Guest}
use Rattle.nova_guest.specs.declared.input.Input.{Input}
use Rattle.nova_model.specs.Capabilities.{is_vcpu}
use Rattle.nova_model.specs.Guests.{input}
use Rattle.nova_model.specs.Runs.{after}
use Rattle.nova_model.specs.State.{KernelState}
use Rattle.nova_model.specs.Views.{view}
use Rattle.nova_objects.specs.declared.object.Object.{Object}
use Rattle.nova_twin.specs.Sides.{IsAlone}
use Rattle.nova_twin.specs.declared.side.Side.{Side}

-- its view at its birth, once it is there, and the inputs since
pub record Followed : Type 0 where
  pub start : Option Guest
  pub inputs : List Input

abbrev pub nothing : Followed
nothing = record { start = None; inputs = [] }

-- whether it is there, its view then, and what a turn is for it then
abbrev pub is_there : Option Object → Bool
is_there (Some o) = is_vcpu o
is_there None = false

abbrev pub is_virtual : KernelState → ℕ → Bool
is_virtual k g = is_there (slice_get k.objects g)

abbrev pub seen : KernelState → ℕ → Option Guest
seen k g = if is_virtual k g then Some (view k g) else None

abbrev pub met : KernelState → ℕ → ℕ → Option Input
met k cpu g = if is_virtual k g then input k cpu g else None

-- after a turn that was such an input and came to this state
abbrev pub listed : Option Input → List Input
listed (Some i) = i ∷ []
listed None = []

abbrev pub noted_by : Followed → KernelState → ℕ → Option Input → Option Guest → Followed
noted_by f k g i None = record f { start = seen k g }
noted_by f k g i (Some v) = record f { inputs = f.inputs ++ listed i }

abbrev pub noted : Followed → KernelState → ℕ → Option Input → Followed
noted f k g i = noted_by f k g i f.start

abbrev pub followed : ℕ → KernelState → List ℕ → Followed → Followed
followed g k [] f = f
followed g k (cpu ∷ cpus) f = followed g (after k cpu) cpus (noted f (after k cpu) g (met k cpu g))

-- the guest alone takes what was followed
abbrev pub IsTaken : List Input → Option Guest → Type 0
IsTaken is None = Unit {0}
IsTaken is (Some v) = IsGuest v × All IsInput is

abbrev pub IsTakable : Followed → Type 0
IsTakable f = IsTaken f.inputs f.start

-- the side that comes of it
pub record IsSideWith (f : Followed) (side : Side) : Type 0 where
  pub start : f.start ≡ Some side.start
  pub inputs : f.inputs ≡ side.inputs.items
  pub alone : IsAlone side

abbrev pub IsClosed : Followed → Option Side → Type 0
IsClosed f None = f.start ≡ None
IsClosed f (Some side) = IsSideWith f side
