-- Transfers: a delegation item is given part by part, each a derivation of the giver. (NOVA specification, typed items; that a turn does
-- one part is this project's own rule.)
use Rattle.std.specs.Prelude.{ℕ, ◌+◌, ◌-◌, ◌/◌, ◌^◌, ◌==◌, ◌&&◌, Bool, nat_le, min, max, bit_and, if◌then◌else◌, List, filter, Option, Some, None, option_map, Result, Ok, Err}
use Rattle.nova_model.specs.Numbers.{PdId, DerivationId}
use Rattle.nova_range.specs.Clamps.{clamp_of}
use Rattle.nova_range.specs.RangeWords.{meaning_of}
use Rattle.nova_range.specs.Ranges.{end_of, overlaps}
use Rattle.nova_range.specs.declared.clamped.Clamped.{Clamped}
use Rattle.nova_range.specs.declared.range.Range.{Range}
use Rattle.nova_range.specs.declared.rights.Rights.{Rights}
use Rattle.nova_range.specs.declared.word.WordFault.{WordFault}
use Rattle.nova_model.specs.Delegations.{Delegations, is_same_kind, range_of, is_held_in, base_of, least_by, derived, added}
use Rattle.nova_model.specs.declared.delegation.Derivation.{Derivation}
use Rattle.nova_model.specs.declared.transfer.Job.{Job}
use Rattle.nova_model.specs.declared.transfer.Reason.{Reason}
use Rattle.nova_model.specs.declared.transfer.Reason.TheVariants as reason
use Rattle.nova_model.specs.declared.transfer.Skip.{Skip}
use Rattle.nova_model.specs.declared.transfer.Skip.TheVariants.{Empty, Window}

-- THE ITEM

-- what a range word reads as; nothing where it doesn't read or is null
abbrev pub read_as : Result (Option (Range × Rights)) WordFault → Option (Range × Rights)
read_as (Ok x) = x
read_as (Err fault) = None

-- the hotspot in the second word of an item
abbrev pub hotspot_in : ℕ → ℕ
hotspot_in word = word / 2 ^ 12

-- a clamped item, from its first place on
abbrev pub job_at : Range → Rights → Clamped → PdId → PdId → Job
job_at sent rights c giver receiver = record {
  giver = giver;
  receiver = receiver;
  kind = sent.kind;
  source = c.source;
  dest = c.dest;
  order = c.order;
  rights = rights;
  cursor = 0;
}

-- Empty: the range or the window doesn't read or is null; Window: they are of different types; else the item is clamped
abbrev pub job_between : Option (Range × Rights) → Option (Range × Rights) → ℕ → PdId → PdId → Result Job Skip
job_between None window hotspot giver receiver = Err Empty
job_between (Some sent) None hotspot giver receiver = Err Empty
job_between (Some sent) (Some window) hotspot giver receiver =
    if is_same_kind sent.0.kind window.0.kind
    then Ok (job_at sent.0 sent.1 (clamp_of sent.0 window.0 hotspot) giver receiver)
    else Err Window

abbrev pub job_of : ℕ → ℕ → ℕ → PdId → PdId → Result Job Skip
job_of word second window giver receiver =
    job_between (read_as (meaning_of word)) (read_as (meaning_of window)) (hotspot_in second) giver receiver

-- THE NEXT PART

abbrev pub source_of : Job → Range
source_of j = record { kind = j.kind; base = j.source; order = j.order }

abbrev pub dest_of : Job → Range
dest_of j = record { kind = j.kind; base = j.dest; order = j.order }

-- a derivation that is still to be given: the giver's, of the item's kind, at or after the cursor, with places of the source
abbrev pub is_left : Job → Derivation → Bool
is_left j d = is_same_kind j.kind d.kind && (d.pd == j.giver && (nat_le j.cursor d.base && overlaps (range_of d) (source_of j)))

-- the derivation of least base is next
abbrev pub next_source : List Derivation → Job → Option Derivation
next_source list j = least_by base_of (filter (is_left j) list)

-- where its overlap with the source begins
abbrev pub overlap_base : Job → Derivation → ℕ
overlap_base j d = max d.base j.source

-- the rights of both
abbrev pub common_rights : Rights → Rights → Rights
common_rights a b = record { 0 = bit_and a.0 b.0 }

-- the child that is made of it: the overlap, moved to the destination
abbrev pub child_range : Job → Derivation → Range
child_range j d = record { kind = j.kind; base = j.dest + (overlap_base j d - j.source); order = min d.order j.order }

abbrev pub child_of : Job → DerivationId → Derivation → Derivation
child_of j id d = derived id (Some d.id) j.receiver (child_range j d) (common_rights d.rights j.rights) (d.target + (overlap_base j d - d.base))

-- Rights: none is left; Taken: the receiver holds one of the places; Busy: a revoke forbids it; else it is made
abbrev pub judged : (Derivation → Bool) → List Derivation → Derivation → Result Derivation Reason
judged busy list x =
    if x.rights.0 == 0 then Err reason.Rights
    else if is_held_in list x.pd (range_of x) then Err reason.Taken
    else if busy x then Err reason.Busy
    else Ok x

-- a part: the derivation that is next, and the child that is made of it or the first reason to skip it
pub record Part : Type 0 where
  pub source : Derivation
  pub child : Result Derivation Reason

abbrev pub part_of : (Derivation → Bool) → Delegations → Job → Derivation → Part
part_of busy f j d = record { source = d; child = judged busy f.list (child_of j f.next d) }

-- nothing where no derivation is left
abbrev pub next_part : (Derivation → Bool) → Delegations → Job → Option Part
next_part busy f j = option_map (part_of busy f j) (next_source f.list j)

-- WHAT IT LEAVES

abbrev pub joined : Delegations → Result Derivation Reason → Delegations
joined f (Ok x) = added f x
joined f (Err reason) = f

-- delegations after a part
abbrev pub given : Delegations → Option Part → Delegations
given f None = f
given f (Some p) = joined f p.child

-- the cursor is after the derivation
abbrev pub moved : Job → Option Part → Job
moved j None = j
moved j (Some p) = record j { cursor = end_of (range_of p.source) }
