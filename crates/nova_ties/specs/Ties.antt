-- Ties between domains, labels that respect them, and how sides are joined.
-- A label says of each domain whose it is: 0 is trusted, and any other number is a side.
use Rattle.std.specs.Prelude.{◌≡◌, ◌≢◌, ◌⊎◌, ◌==◌, ◌≤◌, ◌&&◌, ◌||◌, ℕ, max, min, Bool, true, false, not, if◌then◌else◌, Contains, List, [], ◌∷◌, Option, Some, None, find, map, slice_get}
use Rattle.std.specs.List.{AllByRecursion}
use Rattle.nova_ties.specs.declared.tie.Tie.{Tie}

-- LABELS AND TIES

-- the label of a domain in a table: 0 beyond it
abbrev pub or_trusted : Option ℕ → ℕ
or_trusted (Some label) = label
or_trusted None = 0

abbrev pub label_in : List ℕ → ℕ → ℕ
label_in labels domain = or_trusted (slice_get labels domain)

-- a tie from a domain of a side leads to its own side, or, where it isn't strict, to what is trusted
abbrev pub Respects : (ℕ → ℕ) → Tie → Type 0
Respects label t = label t.from ≢ 0 → (label t.to ≡ label t.from) ⊎ ((t.strict ≡ false) × (label t.to ≡ 0))

abbrev pub AreRespected : (ℕ → ℕ) → List Tie → Type 0
AreRespected label ties = AllByRecursion (Respects label) ties

-- and as a test
abbrev pub is_respected : (ℕ → ℕ) → Tie → Bool
is_respected label t = (label t.from == 0) || ((label t.to == label t.from) || (not t.strict && (label t.to == 0)))

abbrev pub is_broken : (ℕ → ℕ) → Tie → Bool
is_broken label t = not (is_respected label t)

-- THE FINEST SIDES

-- labels that join at least what finer ones join, and trust nothing that these don't
pub record IsCoarser (label fine : ℕ → ℕ) : Type 0 where
  pub sides : (n : ℕ) → fine n ≢ 0 → label n ≢ 0
  pub joined : (m n : ℕ) → fine m ≢ 0 → fine m ≡ fine n → label m ≡ label n

-- each side has the least label of its own before: one of its domains had it, and none had a lesser
pub record AreLeast (label old : ℕ → ℕ) : Type 0 where
  pub had : (n : ℕ) → label n ≢ 0 → (m : ℕ) × (label m ≡ label n) × (old m ≡ label n)
  pub least : (m n : ℕ) → label m ≡ label n → label n ≤ old m

-- a tie leads from a side to what is trusted, and may not
abbrev pub is_stuck : (ℕ → ℕ) → Tie → Bool
is_stuck label t = t.strict && (not (label t.from == 0) && (label t.to == 0))

-- the first such tie of a list: a side's own, and for it no coarser labels that respect all ties trust to where it leads
pub record IsStuck (ties : List Tie) (fine : ℕ → ℕ) (t : Tie) : Type 0 where
  pub there : Contains ties t
  pub sided : fine t.from ≢ 0
  pub trusted : fine t.to ≡ 0
  pub strict : t.strict ≡ true
  pub first : find (is_stuck fine) ties ≡ Some t
  pub no : (label : ℕ → ℕ) → AreRespected label ties → IsCoarser label fine → label t.to ≢ 0

-- HOW SIDES ARE JOINED

abbrev pub renamed : ℕ → ℕ → ℕ → ℕ
renamed old new label = if label == old then new else label

-- whether a tie can be respected, and the labels then: of the two sides' the lesser stays
abbrev pub is_met : List ℕ → Tie → Bool
is_met labels t = is_respected (label_in labels) t || not (label_in labels t.to == 0)

abbrev pub met : List ℕ → Tie → List ℕ
met labels t =
    if is_respected (label_in labels) t || (label_in labels t.to == 0) then labels
    else map (renamed (max (label_in labels t.from) (label_in labels t.to)) (min (label_in labels t.from) (label_in labels t.to))) labels

-- one tie after another, until one can't be respected
unfoldable pub settled : List Tie → List ℕ → List ℕ × Option Tie
settled [] labels = (labels, None)
settled (t ∷ ties) labels = if is_met labels t then settled ties (met labels t) else (labels, Some t)

-- IN A TABLE OF LABELS

abbrev pub has_label : ℕ → ℕ → Bool
has_label label other = other == label

-- a label of another side
abbrev pub is_another : ℕ → ℕ → Bool
is_another label other = not (other == 0) && not (other == label)

-- it is there, and it is this number
abbrev pub is_place : ℕ → Option ℕ → Bool
is_place n None = false
is_place n (Some place) = place == n
