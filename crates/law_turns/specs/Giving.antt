-- Execution contexts that give items: what, to which, and how far they are.
use Rattle.std.specs.Prelude.{◌≡◌, ◌≢◌, ◌<◌, ◌≤◌, ℕ, ◌+◌, ◌-◌, ◌^◌, bit_and, Contains, ◌==◌, ◌&&◌, Bool, true, false, if◌then◌else◌, nat_lt, List, [], ◌∷◌, Option, Some, None, Ok, slice_get}
use Rattle.nova_model.specs.Edges.{is_giving}
use Rattle.rv_model.specs.Registers.{reg}
use Rattle.nova_objects.specs.declared.object.Object.TheVariants.{Pd}
use Rattle.nova_range.specs.Clamps.{clamp_of}
use Rattle.nova_range.specs.Ranges.{HasPlace, IsRange, IsWithin}
use Rattle.nova_range.specs.RangeWords.{meaning_of}
use Rattle.nova_range.specs.declared.clamped.Clamped.{Clamped}
use Rattle.nova_range.specs.declared.range.Range.{Range}
use Rattle.nova_range.specs.declared.rights.Rights.{Rights}
use Rattle.nova_model.specs.Delegations.{range_of}
use Rattle.nova_range.specs.Rights.{allows}
use Rattle.nova_model.specs.Deliveries.{delivery}
use Rattle.nova_model.specs.State.{KernelState, context, pd_of, transfer, transfer_at}
use Rattle.nova_model.specs.Transfers.{hotspot_in, job_of, read_as}
use Rattle.nova_model.specs.declared.context.Mark.{Mark}
use Rattle.nova_model.specs.declared.context.State.{State}
use Rattle.nova_model.specs.declared.context.State.TheVariants.{Granting, Replying}
use Rattle.nova_model.specs.declared.delegation.Derivation.{Derivation}
use Rattle.nova_model.specs.declared.event.Event.{Event}
use Rattle.nova_model.specs.declared.event.EventKind.{EventKind}
use Rattle.nova_model.specs.declared.event.EventKind.TheVariants.{Irq, Late, Made, Skip, Tick}
use Rattle.nova_model.specs.declared.transfer.Delivery.{Delivery}
use Rattle.nova_model.specs.declared.transfer.Job.{Job}

-- no first range is under way
abbrev pub gives_no_first : State → Bool
gives_no_first (Granting (Some new)) = false
gives_no_first other = true

-- a range of one protection domain, given to another at the same places
abbrev pub whole : Range → Rights → ℕ → ℕ → Job
whole range rights giver receiver =
    record { giver = giver; receiver = receiver; kind = range.kind; source = range.base; dest = range.base; order = range.order; rights = rights; cursor = 0 }

-- the word in its x12 reads as a range, and it gives that range of its own protection domain to that of number `domain`
pub record GivesRange (k : KernelState) (ec domain : ℕ) : Type 0 where
  pub range : Range
  pub rights : Rights
  pub word : meaning_of (reg (context k ec).regs 12) ≡ Ok (Some (range, rights))
  pub places : IsRange range
  pub receiver : slice_get k.objects domain ≡ Some Pd
  pub job : job_of (reg (context k ec).regs 12) 1 (reg (context k ec).regs 12) (pd_of k ec) domain ≡ Ok (whole range rights (pd_of k ec) domain)

-- how many children an item made, after an event of this kind of the execution context that gives it: a child is one more, and a part that is
-- skipped, of which the first number is a reason above 2, leaves it, as what comes by itself does; any other event ends an item or is of none
abbrev pub counted_by : EventKind → ℕ → ℕ → ℕ
counted_by Made number count = count + 1
counted_by Skip number count = if nat_lt 2 number then count else 0
counted_by Late number count = count
counted_by Irq number count = count
counted_by Tick number count = count
counted_by other number count = 0

-- how many the present item of an execution context made, where it was `count` before these events
abbrev pub counted_after : ℕ → ℕ → List Event → ℕ
counted_after ec count [] = count
counted_after ec count (e ∷ events) = counted_after ec (if e.ec == ec then counted_by e.kind e.a count else count) events

-- an event at the end of an item, after these: it is the present item of an execution context that gives, and its children are all that it made
pub record IsEndOfItem (k : KernelState) (before : List Event) (e : Event) : Type 0 where
  pub gives : is_giving (context k e.ec).state ≡ true
  pub item : e.a ≡ (transfer k e.ec).item
  pub children : e.b ≡ counted_after e.ec 0 before

-- one of the items of an execution context that gives is present, and there are at most 62
pub record IsAtItem (k : KernelState) (ec : ℕ) : Type 0 where
  pub item : Delivery
  pub present : delivery k ec (context k ec).state ≡ Some item
  pub among : (transfer k ec).item < item.items
  pub most : item.items ≤ 62

-- a turn leaves an execution context that gives at its item, or brings it to the next one; or its item was the last one, and it gives no more
pub data GoesOn (old new : KernelState) (ec : ℕ) : Type 0 where
  Stays : (context new ec).state ≡ (context old ec).state → (transfer new ec).item ≡ (transfer old ec).item → GoesOn old new ec
  Next : (context new ec).state ≡ (context old ec).state → (transfer new ec).item ≡ (transfer old ec).item + 1 → GoesOn old new ec
  Ends : is_giving (context new ec).state ≡ false → (item : Delivery) → delivery old ec (context old ec).state ≡ Some item →
      (transfer old ec).item + 1 ≡ item.items → GoesOn old new ec

-- the thread whose message has the items: for a handler that takes those of a call its caller, and for a handler that replies itself. A creator has
-- none.
abbrev pub source_in : ℕ → State → Option (ℕ × Mark) → Option ℕ
source_in ec (Granting None) (Some (caller, mark)) = Some caller
source_in ec (Granting None) None = None
source_in ec Replying caller = Some ec
source_in ec other caller = None

abbrev pub source : KernelState → ℕ → Option ℕ
source k ec = source_in ec (context k ec).state (context k ec).caller

-- the cursor moves on, from a place below 2^20
pub record MovesOn (k : KernelState) (ec cursor : ℕ) : Type 0 where
  pub from : (transfer k ec).cursor < 2 ^ 20
  pub further : (transfer k ec).cursor < cursor

-- after a part the cursor is at this place, this many children more are counted, and the item and all other transfers are as before
pub record HasMoved (old new : KernelState) (ec place more : ℕ) : Type 0 where
  pub cursor : (transfer new ec).cursor ≡ place
  pub children : (transfer new ec).children ≡ (transfer old ec).children + more
  pub item : (transfer new ec).item ≡ (transfer old ec).item
  pub others : (other : ℕ) → other ≢ ec → transfer_at new other ≡ transfer_at old other

-- a part moved it on
pub record MovesCursor (old new : KernelState) (ec more : ℕ) : Type 0 where
  pub place : ℕ
  pub on : MovesOn old ec place
  pub moved : HasMoved old new ec place more

-- what of a range is given, and where it goes
abbrev pub given_of : Range → Clamped → Range
given_of range c = record { kind = range.kind; base = c.source; order = c.order }

abbrev pub given_at : Range → Clamped → Range
given_at range c = record { kind = range.kind; base = c.dest; order = c.order }

-- a child that is given, of the present item, whose range is clamped to its window: of a derivation of the giver's it has the places that what is
-- given of the range has too, moved to where that goes, and leads to what the derivation leads to there; and it has the rights that both have
pub record IsShared (k : KernelState) (ec : ℕ) (child : Derivation) : Type 0 where
  pub item : Delivery
  pub present : delivery k ec (context k ec).state ≡ Some item
  pub range : Range
  pub range_rights : Rights
  pub reads : read_as (meaning_of item.range_word) ≡ Some (range, range_rights)
  pub window : Range
  pub window_rights : Rights
  pub takes : read_as (meaning_of item.delegations) ≡ Some (window, window_rights)
  pub clamped : Clamped
  pub clamps : clamped ≡ clamp_of range window (hotspot_in item.second_word)
  pub source : Derivation
  pub there : Contains k.delegations.list source
  pub held : source.pd ≡ item.giver
  pub receiver : child.pd ≡ item.receiver
  pub parent : child.parent ≡ Some source.id
  pub kind : child.kind ≡ range.kind
  pub same_kind : source.kind ≡ range.kind
  pub in_window : IsWithin (range_of child) (given_at range clamped)
  pub in_source : (place : ℕ) → HasPlace (range_of child) place → HasPlace (range_of source) (place + clamped.source - clamped.dest)
  pub whole : (place : ℕ) → HasPlace (given_of range clamped) place → HasPlace (range_of source) place → HasPlace (range_of child) (place + clamped.dest - clamped.source)
  pub leads : child.base + clamped.source + source.target ≡ child.target + clamped.dest + source.base
  pub common : child.rights.0 ≡ bit_and source.rights.0 range_rights.0
  pub rights : (right : ℕ) → allows child.rights right ≡ (allows source.rights right && allows range_rights right)
