-- What a turn may do to objects and delegations, and by which context.
use Rattle.std.specs.Prelude.{◌≡◌, ℕ, ◌<◌, ◌≤◌, ◌^◌, ◌==◌, Bool, Contains, true, false, [], ◌∷◌, ◌++◌, length, option_map, slice_get, Option, Some, None}
use Rattle.nova_objects.specs.declared.object.Object.{Object}
use Rattle.nova_objects.specs.declared.object.Object.TheVariants.{Pd, Ec, Sc, Pt}
use Rattle.nova_range.specs.RangeWords.{meaning_of}
use Rattle.nova_range.specs.Ranges.{IsRange}
use Rattle.nova_range.specs.declared.range.Kind.TheVariants.{Obj}
use Rattle.nova_range.specs.declared.range.Range.{Range}
use Rattle.nova_range.specs.declared.rights.Rights.{Rights}
use Rattle.nova_model.specs.Capabilities.{bind_portal_right, bind_scheduling_right, create_right, is_held, is_local, is_schedulable, rights_to}
use Rattle.nova_model.specs.Delegations.{range_of, is_held_in, added, without}
use Rattle.nova_range.specs.Rights.{allows}
use Rattle.nova_model.specs.Deliveries.{delivery}
use Rattle.nova_model.specs.Forest.{IsForest, IsFitting}
use Rattle.nova_model.specs.Hypercalls.{is_scheduled}
use Rattle.nova_model.specs.Revokes.{Revocation, next_leaf}
use Rattle.nova_model.specs.Running.{is_busy, revoke_of}
use Rattle.nova_model.specs.State.{KernelState, context, pd_of, processor_of}
use Rattle.nova_model.specs.Choice.{Candidate}
use Rattle.nova_model.specs.Transfers.{read_as}
use Rattle.nova_model.specs.declared.deed.Deed.{Deed}
use Rattle.nova_model.specs.declared.deed.Deed.TheVariants.{Makes, Opens}
use Rattle.nova_model.specs.declared.delegation.Derivation.{Derivation}
use Rattle.nova_model.specs.declared.transfer.Delivery.{Delivery}
use Rattle.law_forest.specs.Courses.{IsLeaf}

-- a protection domain holds a capability to a protection domain, with the right to make objects in that domain
pub record MayCreate (k : KernelState) (domain : ℕ) : Type 0 where
  pub capability : Derivation
  pub there : Contains k.delegations.list capability
  pub held : capability.pd ≡ domain
  pub kind : capability.kind ≡ Obj
  pub leads : slice_get k.objects capability.target ≡ Some Pd
  pub create : allows capability.rights create_right ≡ true

-- an execution context is one of this protection domain
abbrev pub IsMadeIn : ℕ → Object → Type 0
IsMadeIn domain (Ec pd cpu kind event) = pd ≡ domain
IsMadeIn domain other = Unit {0}

-- a protection domain holds a capability to the object of this number, which is one of these, with this right
pub record MayUse (k : KernelState) (domain : ℕ) (is : Object → Bool) (right object : ℕ) : Type 0 where
  pub capability : Derivation
  pub there : Contains k.delegations.list capability
  pub held : capability.pd ≡ domain
  pub kind : capability.kind ≡ Obj
  pub target : capability.target ≡ object
  pub leads : option_map is (slice_get k.objects object) ≡ Some true
  pub allowed : allows capability.rights right ≡ true

-- a scheduling context of an execution context that is no local thread and has none yet, on its processor, with a quantum of at least 1; the
-- protection domain may bind one to it
pub record IsFirstSchedule (k : KernelState) (domain ec cpu quantum : ℕ) : Type 0 where
  pub bound : MayUse k domain is_schedulable bind_scheduling_right ec
  pub processor : cpu ≡ processor_of k ec
  pub alone : is_scheduled k ec ≡ false
  pub turns : 1 ≤ quantum

-- what an object is bound to, where a protection domain has it made: a scheduling context to such an execution context, and a portal to a
-- local thread, each with the right to do so
abbrev pub IsBoundBy : KernelState → ℕ → Object → Type 0
IsBoundBy k domain (Sc ec cpu priority quantum) = IsFirstSchedule k domain ec cpu quantum
IsBoundBy k domain (Pt ec mtd ip) = MayUse k domain is_local bind_portal_right ec
IsBoundBy k domain other = Unit {0}

-- the capability of a new object: its maker's, of the next id and without a parent, at a selector below 2^20 that the maker's domain did not hold,
-- with all rights to the object, whose number is the next. The maker's domain may make objects in a protection domain, and an execution context is
-- made in that domain, and may bind the object as it is bound. It is in the way of no running revoke. Where delegations are a sound forest each id of
-- theirs is less.
pub record IsFirstCapability (k : KernelState) (maker : ℕ) (object : Object) (d : Derivation) : Type 0 where
  pub pd : d.pd ≡ pd_of k maker
  pub id : d.id ≡ k.delegations.next
  pub parent : d.parent ≡ None
  pub kind : d.kind ≡ Obj
  pub order : d.order ≡ 0
  pub selector : d.base < 2 ^ 20
  pub free : is_held k d.pd d.base ≡ false
  pub rights : d.rights ≡ rights_to object
  pub target : d.target ≡ length k.objects
  pub creator : MayCreate k d.pd
  pub place : IsMadeIn creator.capability.target object
  pub bound : IsBoundBy k d.pd object
  pub idle : is_busy k d ≡ false
  pub newest : IsForest k.delegations → (a : Derivation) → Contains k.delegations.list a → a.id < d.id

-- a child that is given, by the present item of a context that acts, which gives a first range as a creator, takes the items of its caller's message
-- or gives those of its reply: of a derivation of the item's giver, to the item's receiver, of the next id and of the same kind, with at least one
-- right and none that the derivation or the item does not have, at places that the receiver did not hold, and in the way of no running revoke. Where
-- delegations are a sound forest these places are a range, and the child fits: its targets are among those of the derivation. And each id of theirs
-- is less than the child's.
pub record IsGivenChild (k : KernelState) (actor : ℕ) (child : Derivation) : Type 0 where
  pub item : Delivery
  pub present : delivery k actor (context k actor).state ≡ Some item
  pub source : Derivation
  pub there : Contains k.delegations.list source
  pub held : source.pd ≡ item.giver
  pub receiver : child.pd ≡ item.receiver
  pub id : child.id ≡ k.delegations.next
  pub parent : child.parent ≡ Some source.id
  pub kind : child.kind ≡ source.kind
  pub some_right : (child.rights.0 == 0) ≡ false
  pub rights : (right : ℕ) → allows child.rights right ≡ true → allows source.rights right ≡ true
  pub sent : Range × Rights
  pub reads : read_as (meaning_of item.range_word) ≡ Some sent
  pub sent_rights : (right : ℕ) → allows child.rights right ≡ true → allows sent.1 right ≡ true
  pub free : is_held_in k.delegations.list child.pd (range_of child) ≡ false
  pub idle : is_busy k child ≡ false
  pub range : IsForest k.delegations → IsRange (range_of child)
  pub fits : IsForest k.delegations → IsFitting k.delegations child
  pub newest : IsForest k.delegations → (a : Derivation) → Contains k.delegations.list a → a.id < child.id

-- the leaf that the revoke of a context that acts takes away next; where delegations are a sound forest it is in the scope and has no child
pub record IsNextLeaf (k : KernelState) (actor : ℕ) (leaf : Derivation) : Type 0 where
  pub revoke : Revocation
  pub runs : revoke_of k actor ≡ Some revoke
  pub next : next_leaf revoke k.delegations ≡ Some leaf
  pub goes : IsForest k.delegations → IsLeaf revoke k.delegations leaf

-- the selector that a deed takes is free
abbrev pub TakesFree : KernelState → ℕ → Deed → Type 0
TakesFree k domain (Makes call target new) = is_held k domain target ≡ false
TakesFree k domain (Opens target number) = is_held k domain target ≡ false
TakesFree k domain other = Unit {0}

-- objects and delegations are as before
pub record IsSame (old new : KernelState) : Type 0 where
  pub objects : new.objects ≡ old.objects
  pub delegations : new.delegations ≡ old.delegations

-- or one object is made, by an execution context
pub record IsGrown (old : KernelState) (maker : ℕ) (new : KernelState) : Type 0 where
  pub object : Object
  pub capability : Derivation
  pub first : IsFirstCapability old maker object capability
  pub objects : new.objects ≡ old.objects ++ object ∷ []
  pub delegations : new.delegations ≡ added old.delegations capability

-- or one child is given, and no object is made
pub record HasGiven (old : KernelState) (actor : ℕ) (new : KernelState) : Type 0 where
  pub child : Derivation
  pub given : IsGivenChild old actor child
  pub objects : new.objects ≡ old.objects
  pub delegations : new.delegations ≡ added old.delegations child

-- or one leaf is taken away by a revoke, and no object is made
pub record HasTaken (old : KernelState) (actor : ℕ) (new : KernelState) : Type 0 where
  pub leaf : Derivation
  pub is : IsNextLeaf old actor leaf
  pub objects : new.objects ≡ old.objects
  pub delegations : new.delegations ≡ without old.delegations leaf.id

-- one of these
pub data Grows (old : KernelState) (ec : ℕ) (new : KernelState) : Type 0 where
  Leaves : IsSame old new → Grows old ec new
  MakesObject : IsGrown old ec new → Grows old ec new
  GivesChild : HasGiven old ec new → Grows old ec new
  TakesLeaf : HasTaken old ec new → Grows old ec new

-- in a turn the chosen candidate acts; an idle processor leaves all
abbrev pub GrowsBy : KernelState → Option Candidate → KernelState → Type 0
GrowsBy old None new = IsSame old new
GrowsBy old (Some chosen) new = Grows old chosen.actor new
