-- Items that are given: a first range by the creator of a protection domain, those of a call by the handler that takes it, and those of a reply by
-- the handler. One part of the present item is given in a turn. (NOVA specification, typed items.)
use Rattle.std.specs.Prelude.{ℕ, ◌+◌, ◌%◌, ◌==◌, nat_lt, if◌then◌else◌, Option, Some, None, Result, Ok, Err}
use Rattle.nova_model.specs.Numbers.{PdId, EcId}
use Rattle.rv_model.specs.Registers.{reg}
use Rattle.nova_utcb.specs.Messages.{item_at, counted_items, translation_window, delegation_window}
use Rattle.nova_range.specs.RangeWords.{meaning_of, word_of}
use Rattle.nova_range.specs.Ranges.{end_of}
use Rattle.nova_range.specs.declared.range.Range.{Range}
use Rattle.nova_range.specs.declared.rights.Rights.{Rights}
use Rattle.nova_model.specs.Delegations.{range_of}
use Rattle.nova_model.specs.Running.{is_busy}
use Rattle.nova_model.specs.State.{KernelState, context, is_thread, pd_of, message, transfer}
use Rattle.nova_model.specs.Transfers.{Part, read_as, job_of, dest_of, overlap_base, next_part}
use Rattle.nova_model.specs.Translations.{translated}
use Rattle.nova_model.specs.declared.context.Mark.{Mark}
use Rattle.nova_model.specs.declared.context.Mark.TheVariants as mark
use Rattle.nova_model.specs.declared.context.State.{State}
use Rattle.nova_model.specs.declared.context.State.TheVariants.{Granting, Replying}
use Rattle.nova_model.specs.declared.deed.Deed.{Deed}
use Rattle.nova_model.specs.declared.deed.Deed.TheVariants.{Rests, Gives, Skips, Finishes}
use Rattle.nova_model.specs.declared.delegation.Derivation.{Derivation}
use Rattle.nova_model.specs.declared.transfer.Delivery.{Delivery}
use Rattle.nova_model.specs.declared.transfer.ItemEnd.{ItemEnd}
use Rattle.nova_model.specs.declared.transfer.ItemEnd.TheVariants.{Given, Skipped, Translated}
use Rattle.nova_model.specs.declared.transfer.ItemWords.{ItemWords}
use Rattle.nova_model.specs.declared.transfer.Job.{Job}
use Rattle.nova_model.specs.declared.transfer.Reason.{Reason}
use Rattle.nova_model.specs.declared.transfer.Sequel.{Sequel}
use Rattle.nova_model.specs.declared.transfer.Sequel.TheVariants as sequel
use Rattle.nova_model.specs.declared.transfer.Skip.{Skip}
use Rattle.nova_model.specs.declared.transfer.Transfer.{Transfer}

-- WHAT IS GIVEN

-- a creator's: one delegation, of the range whose word is in its x12. The window is the range itself, and no context is told.
abbrev pub first_delivery : KernelState → EcId → PdId → Delivery
first_delivery k ec new = record {
  range_word = reg (context k ec).regs 12;
  second_word = 1;
  giver = pd_of k ec;
  receiver = new;
  translations = 0;
  delegations = reg (context k ec).regs 12;
  told = None;
  items = 1;
  last = sequel.Opened;
}

-- the window of the whole space that a range is of; there is none for a word that doesn't read or is null
abbrev pub whole_of : Option (Range × Rights) → ℕ
whole_of None = 0
whole_of (Some (range, rights)) = word_of (Some (record { kind = range.kind; base = 0; order = 20 }, rights))

-- the windows of the receiver: those in the message of a thread. A virtual CPU has none for translations, and for delegations the whole space of the
-- item's own type.
abbrev pub translations_to : KernelState → EcId → ℕ
translations_to k to = if is_thread k to then translation_window (message k to) else 0

abbrev pub delegations_to : KernelState → EcId → ℕ → ℕ
delegations_to k to range_word = if is_thread k to then delegation_window (message k to) else whole_of (read_as (meaning_of range_word))

-- from one to another: an item of the message of `from`
abbrev pub delivery_between : KernelState → EcId → EcId → ℕ → Option EcId → Sequel → Delivery
delivery_between k from to item told last = record {
  range_word = (item_at (message k from) item).0;
  second_word = (item_at (message k from) item).1;
  giver = pd_of k from;
  receiver = pd_of k to;
  translations = translations_to k to;
  delegations = delegations_to k to (item_at (message k from) item).0;
  told = told;
  items = counted_items (message k from);
  last = last;
}

-- a handler takes the items of its caller's message, and gives those of its own. A caller that came by an exit is told nothing of the items of the
-- reply.
abbrev pub taken_from : KernelState → EcId → ℕ → Option (EcId × Mark) → Option Delivery
taken_from k ec item None = None
taken_from k ec item (Some (caller, mark)) = Some (delivery_between k caller ec item (Some ec) sequel.Taken)

abbrev pub told_by : EcId → Mark → Option EcId
told_by caller mark.Call = Some caller
told_by caller mark.Exit = None

abbrev pub given_to : KernelState → EcId → ℕ → Option (EcId × Mark) → Option Delivery
given_to k ec item None = None
given_to k ec item (Some (caller, mark)) = Some (delivery_between k ec caller item (told_by caller mark) (sequel.Replied caller mark))

-- the present item of an execution context in a state in which items are given
abbrev pub delivery : KernelState → EcId → State → Option Delivery
delivery k ec (Granting (Some new)) = Some (first_delivery k ec new)
delivery k ec (Granting None) = taken_from k ec (transfer k ec).item (context k ec).caller
delivery k ec Replying = given_to k ec (transfer k ec).item (context k ec).caller
delivery k ec other = None

-- THE NEXT PART

-- bit 0 of an item's second word: 1 delegates, 0 translates
abbrev pub flag : Delivery → ℕ
flag v = v.second_word % 2

-- the words that tell what came of an item: the answer, and its flag
abbrev pub words_for : Option EcId → ℕ → ℕ → Option ItemWords
words_for None first second = None
words_for (Some ec) first second = Some (record { ec = ec; first = first; second = second })

-- the next item, or what follows the last
abbrev pub sequel_of : Delivery → ℕ → Sequel
sequel_of v item = if nat_lt (item + 1) v.items then sequel.Item else v.last

-- the deed by which an item ends, with its answer
abbrev pub finished : Delivery → ℕ → ItemEnd → ℕ → Deed
finished v item end answer = Finishes item end (words_for v.told answer (flag v)) (sequel_of v item)

-- the answer of a delegation: where it went, with the item's rights, if a child was made, and else 0
abbrev pub range_given : Job → ℕ → ℕ
range_given j children = if children == 0 then 0 else word_of (Some (dest_of j, j.rights))

-- a part makes a child, or is skipped
abbrev pub parted : Job → Derivation → Result Derivation Reason → Deed
parted j d (Ok x) = Gives x (end_of (range_of d))
parted j d (Err reason) = Skips reason (overlap_base j d) (end_of (range_of d))

abbrev pub part_deed : Delivery → Transfer → Job → Option Part → Deed
part_deed v t j None = finished v t.item (Given t.children) (range_given j t.children)
part_deed v t j (Some p) = parted j p.source p.child

-- the next part of a delegation, from the cursor on; or it is skipped as a whole
abbrev pub delegated : KernelState → Delivery → Transfer → Result Job Skip → Deed
delegated k v t (Err skip) = finished v t.item (Skipped skip) 0
delegated k v t (Ok j) = part_deed v t j (next_part (is_busy k) k.delegations (record j { cursor = t.cursor }))

abbrev pub answered_by : Delivery → Transfer → ℕ → Deed
answered_by v t answer = finished v t.item (Translated answer) answer

abbrev pub delivered : KernelState → Delivery → Transfer → Deed
delivered k v t =
    if flag v == 1 then delegated k v t (job_of v.range_word v.second_word v.delegations v.giver v.receiver)
    else answered_by v t (translated k.delegations.list v.range_word v.translations v.giver v.receiver)

-- the deed of an execution context that gives items
abbrev pub delivers : KernelState → Transfer → Option Delivery → Deed
delivers k t None = Rests
delivers k t (Some v) = delivered k v t
