-- What a translation answers, by places, targets and rights.
use Rattle.std.specs.Prelude.{◌≡◌, ◌≢◌, ◌↔◌, ◌<◌, ℕ, ◌+◌, ◌-◌, ◌^◌, true, List, ◌∷◌, ◌++◌, Contains, Some, None, Ok}
use Rattle.std.specs.List.{AllByRecursion}
use Rattle.nova_range.specs.Ranges.{HasPlace, IsWithin}
use Rattle.nova_range.specs.RangeWords.{meaning_of}
use Rattle.nova_range.specs.declared.range.Range.{Range}
use Rattle.nova_range.specs.declared.rights.Rights.{Rights}
use Rattle.nova_model.specs.Delegations.{range_of}
use Rattle.nova_range.specs.Rights.{allows}
use Rattle.nova_model.specs.Lines.{line}
use Rattle.nova_model.specs.Transfers.{read_as}
use Rattle.nova_model.specs.Translations.{smaller, seen_through}
use Rattle.nova_model.specs.declared.delegation.Derivation.{Derivation}

-- a word reads as this range with these rights; and a word that doesn't read or is null
abbrev pub Reads : ℕ → Range × Rights → Type 0
Reads word x = meaning_of word ≡ Ok (Some x)

abbrev pub IsEmpty : ℕ → Type 0
IsEmpty word = read_as (meaning_of word) ≡ None

-- the derivation lies in the space of this protection domain that the range is of, and covers the range's base
pub record Holds (giver : ℕ) (r : Range) (d : Derivation) : Type 0 where
  pub pd : d.pd ≡ giver
  pub kind : d.kind ≡ r.kind
  pub base : HasPlace (range_of d) r.base

-- of the derivation's line the first that lies in the protection domain
pub record IsNearest (list : List Derivation) (d : Derivation) (receiver : ℕ) (a : Derivation) : Type 0 where
  pub before : List Derivation
  pub after : List Derivation
  pub is : line list d ≡ before ++ a ∷ after
  pub pd : a.pd ≡ receiver
  pub others : AllByRecursion (λ b. b.pd ≢ receiver) before

-- its places are those that are places of both
abbrev pub IsCommon : Range → Range → Range → Type 0
IsCommon a b o = (place : ℕ) → HasPlace o place ↔ (HasPlace a place × HasPlace b place)

-- the frame or object that a place of a derivation leads to
abbrev pub target_at : Derivation → ℕ → ℕ
target_at d place = d.target + (place - d.base)

-- these places of `a` lead, one by one, to what those places of `d` lead to
pub record LeadsAlike (a : Derivation) (p : Range) (d : Derivation) (o : Range) : Type 0 where
  pub order : p.order ≡ o.order
  pub kind : p.kind ≡ a.kind
  pub of_a : IsWithin p (range_of a)
  pub of_d : IsWithin o (range_of d)
  pub targets : (i : ℕ) → i < 2 ^ o.order → target_at a (p.base + i) ≡ target_at d (o.base + i)

-- a right is allowed exactly where both allow it
abbrev pub AreCommon : Rights → Rights → Rights → Type 0
AreCommon a b both = (right : ℕ) → (allows both right ≡ true) ↔ ((allows a right ≡ true) × (allows b right ≡ true))

-- the answer's range lies inside the window and has its type. It is of the nearest of the receiver's that the giver's derivation comes
-- from, and leads to what those of the giver's places lead to that the range word names
pub record IsAnswer (list : List Derivation) (word window giver receiver answer : ℕ) : Type 0 where
  pub item : Range × Rights
  pub taken : Range × Rights
  pub range : Range × Rights
  pub d : Derivation
  pub a : Derivation
  pub o : Range
  pub reads : Reads word item
  pub takes : Reads window taken
  pub answers : Reads answer range
  pub type : range.0.kind ≡ taken.0.kind
  pub inside : IsWithin range.0 taken.0
  pub there : Contains list d
  pub holds : Holds giver item.0 d
  pub nearest : IsNearest list d receiver a
  pub places : IsCommon (range_of d) item.0 o
  pub alike : LeadsAlike a range.0 d o
  pub rights : AreCommon d.rights item.1 range.1

-- why there is no answer
pub data HasNoAnswer (list : List Derivation) (word window giver receiver : ℕ) : Type 0 where
  no_item : IsEmpty word → HasNoAnswer list word window giver receiver
  no_window : IsEmpty window → HasNoAnswer list word window giver receiver
  not_held : (item : Range × Rights) → Reads word item → ((d : Derivation) → Contains list d → ¬ Holds giver item.0 d) → HasNoAnswer list word window giver receiver
  no_ancestor : (item : Range × Rights) (d : Derivation) → Reads word item → Contains list d → Holds giver item.0 d →
      AllByRecursion (λ a. a.pd ≢ receiver) (line list d) → HasNoAnswer list word window giver receiver
  outside : (item taken : Range × Rights) (d a : Derivation) → Reads word item → Reads window taken → Contains list d → Holds giver item.0 d → IsNearest list d receiver a →
      ((seen_through a d (smaller (range_of d) item.0)).kind ≡ taken.0.kind → ¬ IsWithin (seen_through a d (smaller (range_of d) item.0)) taken.0) →
      HasNoAnswer list word window giver receiver
