-- Translations: a range of the giver's is answered by where the receiver has what it was delegated from. (NOVA specification, typed items.)
use Rattle.std.specs.Prelude.{ℕ, ◌+◌, ◌-◌, ◌==◌, ◌&&◌, nat_le, if◌then◌else◌, List, Option, Some, None, option_and_then}
use Rattle.std.specs.List.{find}
use Rattle.nova_model.specs.Numbers.{PdId}
use Rattle.nova_range.specs.RangeWords.{meaning_of, word_of}
use Rattle.nova_range.specs.Ranges.{is_inside}
use Rattle.nova_range.specs.declared.range.Range.{Range}
use Rattle.nova_range.specs.declared.rights.Rights.{Rights}
use Rattle.nova_model.specs.Delegations.{is_same_kind, covers, range_of}
use Rattle.nova_model.specs.Lines.{line}
use Rattle.nova_model.specs.Transfers.{read_as, common_rights}
use Rattle.nova_model.specs.declared.delegation.Derivation.{Derivation}

-- of a derivation, its parent, the parent's parent and so on the first that lies in a protection domain
abbrev pub nearest : List Derivation → Derivation → PdId → Option Derivation
nearest list d pd = find (λ a. a.pd == pd) (line list d)

-- the smaller of two ranges of which one has all places of the other
abbrev pub smaller : Range → Range → Range
smaller a b = if nat_le a.order b.order then a else b

-- the places through which `a` leads to the targets of these places of `d`
abbrev pub seen_through : Derivation → Derivation → Range → Range
seen_through a d o = record { kind = o.kind; base = a.base + d.target + o.base - d.base - a.target; order = o.order }

-- an answer that lies inside the window, which has its type
abbrev pub within : Option (Range × Rights) → Range × Rights → Option (Range × Rights)
within None x = None
within (Some w) x = if is_same_kind w.0.kind x.0.kind && is_inside x.0 w.0 then Some x else None

-- a range of the giver's, with rights, as the receiver has it: `d` is the giver's derivation that covers its base, and `a` the nearest of the
-- receiver's that it comes from
abbrev pub translation : List Derivation → PdId → PdId → Option (Range × Rights) → Option (Range × Rights) → Option (Range × Rights)
translation list giver receiver None window = None
translation list giver receiver (Some (range, rights)) window =
    option_and_then (λ d. option_and_then (λ a.
    within window (seen_through a d (smaller (range_of d) range), common_rights d.rights rights))
    (nearest list d receiver)) (find (covers range.kind giver range.base) list)

-- the word that answers a range word, or 0
unfoldable pub translated : List Derivation → ℕ → ℕ → PdId → PdId → ℕ
translated list word window giver receiver =
    word_of (translation list giver receiver (read_as (meaning_of word)) (read_as (meaning_of window)))
