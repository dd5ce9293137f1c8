-- Delegations: a flat list of derivations, by rising id. (NOVA's mapping database.)
use Rattle.std.specs.Prelude.{ℕ, ◌+◌, ◌-◌, ◌==◌, ◌&&◌, Bool, true, false, not, nat_lt, nat_le, List, [], ◌∷◌, ◌++◌, filter, Option, Some, None, option_map, option_and_then}
use Rattle.std.specs.List.{find, list_all, list_any}
use Rattle.nova_model.specs.Numbers.{PdId, DerivationId, PageNumber}
use Rattle.nova_model.specs.declared.delegation.Derivation.{Derivation}
use Rattle.nova_guest.specs.declared.page.Page.{Page}
use Rattle.nova_range.specs.Ranges.{end_of, overlaps}
use Rattle.nova_range.specs.declared.range.Range.{Range}
use Rattle.nova_range.specs.declared.range.Kind.{Kind}
use Rattle.nova_range.specs.declared.range.Kind.TheVariants.{Mem, Obj}
use Rattle.nova_range.specs.declared.rights.Rights.{Rights}

-- the derivations that are there, and the id that the next one takes
pub record Delegations : Type 0 where
  pub list : List Derivation
  pub next : DerivationId

abbrev pub is_memory : Kind → Bool
is_memory Mem = true
is_memory Obj = false

abbrev pub is_same_kind : Kind → Kind → Bool
is_same_kind Mem kind = is_memory kind
is_same_kind Obj kind = not (is_memory kind)

-- the places of a derivation
abbrev pub range_of : Derivation → Range
range_of d = record { kind = d.kind; base = d.base; order = d.order }

abbrev pub has_place : Range → ℕ → Bool
has_place r place = nat_le r.base place && nat_lt place (end_of r)

-- the derivation lies in this space of the protection domain, and covers the place: a page or a selector
abbrev pub covers : Kind → PdId → ℕ → Derivation → Bool
covers kind pd place d = is_same_kind kind d.kind && (d.pd == pd && has_place (range_of d) place)

-- it lies in this space of the protection domain, and shares a place with the range
abbrev pub meets : PdId → Range → Derivation → Bool
meets pd range d = is_same_kind range.kind d.kind && (d.pd == pd && overlaps (range_of d) range)

-- some place of the range is held
abbrev pub is_held_in : List Derivation → PdId → Range → Bool
is_held_in list pd range = list_any (meets pd range) list

abbrev pub page_in : PageNumber → Derivation → Page
page_in page d = record { frame = d.target + (page - d.base); rights = d.rights }

-- what a page of a protection domain leads to: the derivation that covers it, or nothing
abbrev pub reach : List Derivation → PdId → PageNumber → Option Page
reach list pd page = option_map (page_in page) (find (covers Mem pd page) list)

-- the derivation for which `number` is least, and that for which it is greatest
abbrev pub least_by : (Derivation → ℕ) → List Derivation → Option Derivation
least_by number ds = find (λ a. list_all (λ b. nat_le (number a) (number b)) ds) ds

abbrev pub greatest_by : (Derivation → ℕ) → List Derivation → Option Derivation
greatest_by number ds = find (λ a. list_all (λ b. nat_le (number b) (number a)) ds) ds

abbrev pub id_of : Derivation → DerivationId
id_of d = d.id

abbrev pub base_of : Derivation → ℕ
base_of d = d.base

-- the derivation of an id, and that of least id at or after it
abbrev pub with_id : List Derivation → DerivationId → Option Derivation
with_id list id = find (λ d. d.id == id) list

abbrev pub is_from : DerivationId → Derivation → Bool
is_from id d = nat_le id d.id

abbrev pub from_id : List Derivation → DerivationId → Option Derivation
from_id list id = least_by id_of (filter (is_from id) list)

-- of a space of a protection domain the derivation of least base among those that hold some place at or after the given one
abbrev pub holds_from : Kind → PdId → ℕ → Derivation → Bool
holds_from kind pd place d = is_same_kind kind d.kind && (d.pd == pd && nat_lt place (end_of (range_of d)))

abbrev pub first_from : List Derivation → Kind → PdId → ℕ → Option Derivation
first_from list kind pd place = least_by base_of (filter (holds_from kind pd place) list)

-- the parent of a derivation
abbrev pub parent_of : List Derivation → Derivation → Option Derivation
parent_of list d = option_and_then (with_id list) d.parent

-- children: the newest, and of the same parent the newest that is older
abbrev pub is_id : DerivationId → Option DerivationId → Bool
is_id id None = false
is_id id (Some other) = other == id

abbrev pub is_child_of : DerivationId → Derivation → Bool
is_child_of id d = is_id id d.parent

abbrev pub newest_child : List Derivation → DerivationId → Option Derivation
newest_child list id = greatest_by id_of (filter (is_child_of id) list)

abbrev pub is_older_child : DerivationId → DerivationId → Derivation → Bool
is_older_child parent id d = is_child_of parent d && nat_lt d.id id

abbrev pub older_child : List Derivation → Derivation → Option Derivation
older_child list d = option_and_then (λ parent. greatest_by id_of (filter (is_older_child parent d.id) list)) d.parent

-- a derivation of a range
abbrev pub derived : DerivationId → Option DerivationId → PdId → Range → Rights → ℕ → Derivation
derived id parent pd range rights target =
    record { id = id; pd = pd; kind = range.kind; base = range.base; order = range.order; rights = rights; target = target; parent = parent }

-- one derivation more, and without that of an id
abbrev pub added : Delegations → Derivation → Delegations
added f x = record { list = f.list ++ x ∷ []; next = f.next + 1 }

abbrev pub without : Delegations → DerivationId → Delegations
without f id = record f { list = filter (λ d. not (d.id == id)) f.list }
