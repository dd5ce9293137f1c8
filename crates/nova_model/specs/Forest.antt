-- The sound forest: what always holds of delegations. (NOVA's mapping database.)
use Rattle.std.specs.Prelude.{◌≡◌, ℕ, ◌+◌, ◌%◌, ◌^◌, ◌<◌, ◌≤◌, List, [], ◌∷◌, Contains, true, false, Option, Some, None}
use Rattle.std.specs.List.{AllByRecursion}
use Rattle.nova_model.specs.Numbers.{DerivationId}
use Rattle.nova_range.specs.declared.range.Kind.{Kind}
use Rattle.nova_range.specs.declared.range.Kind.TheVariants.{Mem, Obj}
use Rattle.nova_range.specs.Ranges.{overlaps}
use Rattle.nova_model.specs.Delegations.{Delegations, range_of, is_child_of}
use Rattle.nova_range.specs.Rights.{allows}
use Rattle.nova_model.specs.declared.delegation.Derivation.{Derivation}

-- each of a list stands in a relation to all after it
abbrev pub ArePairs : {T : Type 0} → (T → T → Type 0) → List T → Type 0
ArePairs Rel [] = Unit {0}
ArePairs Rel (x ∷ xs) = AllByRecursion (Rel x) xs × ArePairs Rel xs

-- a derivation of memory leads to a multiple of its size; one of an object is of order 0
abbrev pub IsAlignedFor : Kind → Derivation → Type 0
IsAlignedFor Mem d = d.target % 2 ^ d.order ≡ 0
IsAlignedFor Obj d = d.order ≡ 0

pub record IsAligned (d : Derivation) : Type 0 where
  pub base : d.base % 2 ^ d.order ≡ 0
  pub target : IsAlignedFor d.kind d

-- no place of one is a place of the other
abbrev pub AreApart : Derivation → Derivation → Type 0
AreApart a b = overlaps (range_of a) (range_of b) ≡ false

-- a child does not exceed its parent
pub record IsWithin (child parent : Derivation) : Type 0 where
  pub older : parent.id < child.id
  pub kind : child.kind ≡ parent.kind
  pub first : parent.target ≤ child.target
  pub last : child.target + 2 ^ child.order ≤ parent.target + 2 ^ parent.order
  pub rights : (right : ℕ) → allows child.rights right ≡ true → allows parent.rights right ≡ true

-- a derivation with a parent has it in the list, and does not exceed it
abbrev pub HasParentIn : List Derivation → Derivation → Option DerivationId → Type 0
HasParentIn list d None = Unit {0}
HasParentIn list d (Some id) = (parent : Derivation) × Contains list parent × (parent.id ≡ id) × IsWithin d parent

pub record IsForest (d : Delegations) : Type 0 where
  pub rising : ArePairs (λ a b. a.id < b.id) d.list
  pub numbered : AllByRecursion (λ a. a.id < d.next) d.list
  pub aligned : AllByRecursion IsAligned d.list
  pub parents : AllByRecursion (λ a. HasParentIn d.list a a.parent) d.list
  pub apart : ArePairs (λ a b. a.pd ≡ b.pd → a.kind ≡ b.kind → AreApart a b) d.list

-- a derivation that may join them: of the next id, within its parent, and apart from all of its space
pub record IsFitting (f : Delegations) (x : Derivation) : Type 0 where
  pub id : x.id ≡ f.next
  pub aligned : IsAligned x
  pub parent : HasParentIn f.list x x.parent
  pub apart : AllByRecursion (λ a. a.pd ≡ x.pd → a.kind ≡ x.kind → AreApart a x) f.list

-- no derivation of the list is a child of this id
abbrev pub IsChildless : List Derivation → DerivationId → Type 0
IsChildless list id = AllByRecursion (λ d. is_child_of id d ≡ false) list
