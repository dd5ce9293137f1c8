-- The two spaces of a protection domain, and the table of them by protection domain.
use Rattle.std.specs.Prelude.{◌≡◌, ◌==◌, ◌&&◌, ℕ, Bool, List, [], Contains, slice_get, Option, Some, None, option_map}
use Rattle.std.specs.List.{AllByRecursion, sum_by}
use Rattle.nova_range.specs.declared.index.Entry.{Entry}
use Rattle.nova_range.specs.declared.range.Kind.{Kind}
use Rattle.nova_range.specs.declared.range.Kind.TheVariants.{Mem, Obj}
use Rattle.nova_model.specs.Delegations.{range_of, is_same_kind}
use Rattle.nova_model.specs.declared.delegation.Derivation.{Derivation}

-- what its indices hold, and for how many more there is room in each
pub record SpaceState : Type 0 where
  pub mem : List Entry
  pub obj : List Entry
  pub room : ℕ

abbrev pub entries_of : Kind → SpaceState → List Entry
entries_of Mem s = s.mem
entries_of Obj s = s.obj

-- other entries in one of them
abbrev pub with_entries : Kind → List Entry → SpaceState → SpaceState
with_entries Mem entries s = record s { mem = entries }
with_entries Obj entries s = record s { obj = entries }

-- for how many more there is room in a domain's spaces: for none where it has none
abbrev pub room_in : Option SpaceState → ℕ
room_in None = 0
room_in (Some s) = s.room

abbrev pub room_there : Option (Option SpaceState) → ℕ
room_there None = 0
room_there (Some s) = room_in s

abbrev pub room_at : List (Option SpaceState) → ℕ → ℕ
room_at spaces pd = room_there (slice_get spaces pd)

-- the same with no room for more
abbrev pub roomless : Option SpaceState → Option SpaceState
roomless None = None
roomless (Some s) = Some (record s { room = 0 })

-- for how many more there is room in the spaces of all domains
abbrev pub total_room : List (Option SpaceState) → ℕ
total_room spaces = sum_by room_in spaces

-- the room that is shown of a domain: nothing where it has no spaces
abbrev pub shown_room : Option SpaceState → Option ℕ
shown_room = option_map (λ s. s.room)

-- the entries of a domain's space of a kind: none where it has no space
abbrev pub entries_in : Kind → Option SpaceState → List Entry
entries_in kind None = []
entries_in kind (Some s) = entries_of kind s

abbrev pub entries_there : Kind → Option (Option SpaceState) → List Entry
entries_there kind None = []
entries_there kind (Some s) = entries_in kind s

abbrev pub entries_at : List (Option SpaceState) → ℕ → Kind → List Entry
entries_at spaces pd kind = entries_there kind (slice_get spaces pd)

-- whether the space of `other` and `space` is that of `pd` and `kind`
abbrev pub is_of : ℕ → Kind → ℕ → Kind → Bool
is_of pd kind other space = other == pd && is_same_kind kind space

-- the entry of a derivation: its places, with its id as key
abbrev pub entry_of : Derivation → Entry
entry_of d = record { range = range_of d; key = d.id }

-- the entry is that of a derivation of the domain's space
pub record IsEntryOf (list : List Derivation) (pd : ℕ) (kind : Kind) (e : Entry) : Type 0 where
  pub of : Derivation
  pub there : Contains list of
  pub pd_is : of.pd ≡ pd
  pub kind_is : of.kind ≡ kind
  pub entry : e ≡ entry_of of

-- the indices hold the derivations and nothing else
pub record IsIndexed (spaces : List (Option SpaceState)) (list : List Derivation) : Type 0 where
  pub entries : (pd : ℕ) (kind : Kind) → AllByRecursion (IsEntryOf list pd kind) (entries_at spaces pd kind)
  pub kept : AllByRecursion (λ d. Contains (entries_at spaces d.pd d.kind) (entry_of d)) list
