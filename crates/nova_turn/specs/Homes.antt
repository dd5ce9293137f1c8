-- The virtual CPUs of protection domains, and those that a deed stirs; the scheduling contexts of execution contexts.
use Rattle.std.specs.Prelude.{ℕ, ◌≡◌, ◌⊎◌, ◌==◌, Bool, true, if◌then◌else◌, List, map, Option, Some, None, IfSome, is_some, slice_get, slice_set}
use Rattle.std.specs.List.{list_any}
use Rattle.nova_model.specs.Capabilities.{is_vcpu}
use Rattle.nova_model.specs.State.{KernelState}
use Rattle.nova_objects.specs.declared.object.EcKind.TheVariants.{Vcpu}
use Rattle.nova_objects.specs.declared.object.Object.{Object}
use Rattle.nova_objects.specs.declared.object.Object.TheVariants.{Ec}
use Rattle.nova_choice.specs.Schedules.{owner_in}
use Rattle.nova_deeds.specs.Stirs.{is_seen}
use Rattle.nova_turn.specs.declared.tables.inventory.Numbers.{Numbers}
use Rattle.nova_turn.specs.declared.tables.inventory.Numbers.TheVariants.{Empty, Single, Several}

-- the protection domain of a virtual CPU
abbrev pub home_of : Option Object → Option ℕ
home_of (Some (Ec pd cpu Vcpu event)) = Some pd
home_of other = None

-- it is one of these, as far as they are known
abbrev pub Includes : ℕ → Numbers → Type 0
Includes guest Empty = ⊥
Includes guest (Single only) = only ≡ guest
Includes guest Several = Unit {0}

-- those and these
abbrev pub both : Numbers → Numbers → Numbers
both Empty others = others
both (Single one) Empty = Single one
both (Single one) (Single other) = if other == one then Single one else Several
both (Single one) Several = Several
both Several others = Several

-- each is among those that are kept of its own domain
abbrev pub AreHoused : List Object → List Numbers → Type 0
AreHoused objects homes = (guest pd : ℕ) → home_of (slice_get objects guest) ≡ Some pd → IfSome (slice_get homes pd) (Includes guest)

-- and so each scheduling context of its execution context
abbrev pub AreOwned : List Object → List Numbers → Type 0
AreOwned objects owners = (sc ec : ℕ) → owner_in (slice_get objects sc) ≡ Some ec → IfSome (slice_get owners ec) (Includes sc)

-- one more is of a domain, or of an execution context
abbrev pub housed_by : ℕ → ℕ → List Numbers → Option Numbers → List Numbers
housed_by pd guest homes (Some home) = slice_set homes pd (both home (Single guest))
housed_by pd guest homes None = homes

abbrev pub housed : Option ℕ → ℕ → List Numbers → List Numbers
housed (Some pd) guest homes = housed_by pd guest homes (slice_get homes pd)
housed None guest homes = homes

-- a protection domain has no virtual CPU but `ec` and `others`
abbrev pub AreOthers : List Object → ℕ → ℕ → Numbers → Type 0
AreOthers objects ec pd others = (guest : ℕ) → home_of (slice_get objects guest) ≡ Some pd → (ec ≡ guest) ⊎ Includes guest others

-- nor have several domains
abbrev pub AreOthersOf : List Object → ℕ → List ℕ → Numbers → Type 0
AreOthersOf objects ec pds others = (pd : ℕ) → list_any (λ p. p == pd) pds ≡ true → AreOthers objects ec pd others

-- what an execution context stored to this frame is seen by no virtual CPU but itself and these
abbrev pub AreSeers : KernelState → ℕ → Option ℕ → Numbers → Type 0
AreSeers k ec written others = (guest pd : ℕ) → home_of (slice_get k.objects guest) ≡ Some pd → is_seen k pd written ≡ true → (ec ≡ guest) ⊎ Includes guest others

-- of virtual CPUs none but these is stirred
abbrev pub AreStirred : KernelState → (ℕ → Bool) → Numbers → Type 0
AreStirred k stirs guests = (guest pd : ℕ) → home_of (slice_get k.objects guest) ≡ Some pd → stirs guest ≡ true → Includes guest guests

-- an object that has a stir count is a virtual CPU
abbrev pub HasCounts : KernelState → Type 0
HasCounts k = map is_some k.stirs.guests ≡ map is_vcpu k.objects
