-- What is given of which message, to which windows, and what is found there when an item ends.
use Rattle.std.specs.Prelude.{◌≡◌, ◌≢◌, ◌<◌, ◌≤◌, ℕ, ◌+◌, ◌-◌, ◌*◌, ◌/◌, ◌%◌, ◌^◌, true, false, slice_index, Option, Some, None, IsSome, Ok, Err}
use Rattle.rv_model.specs.Registers.{reg}
use Rattle.nova_range.specs.RangeWords.{meaning_of, word_of}
use Rattle.nova_range.specs.declared.range.Range.{Range}
use Rattle.nova_range.specs.declared.rights.Rights.{Rights}
use Rattle.nova_model.specs.Deliveries.{delivery}
use Rattle.nova_model.specs.State.{KernelState, context, is_thread, message, pd_of, transfer}
use Rattle.nova_model.specs.Transfers.{dest_of, job_of, read_as}
use Rattle.nova_model.specs.Translations.{translated}
use Rattle.nova_model.specs.declared.transfer.Delivery.{Delivery}
use Rattle.nova_model.specs.declared.transfer.ItemEnd.{ItemEnd}
use Rattle.nova_model.specs.declared.transfer.ItemEnd.TheVariants.{Given, Skipped, Translated}
use Rattle.nova_model.specs.declared.transfer.ItemWords.{ItemWords}
use Rattle.nova_model.specs.declared.transfer.Job.{Job}
use Rattle.nova_model.specs.declared.transfer.Sequel.{Sequel}
use Rattle.nova_model.specs.declared.transfer.Sequel.TheVariants.{Item, Opened}

-- a window of all 2^20 places of the range's type, with its rights; there is none for a word that doesn't read or is null
pub record IsWholeSpace (range_word window : ℕ) : Type 0 where
  pub all : (range : Range) (rights : Rights) → read_as (meaning_of range_word) ≡ Some (range, rights) →
      read_as (meaning_of window) ≡ Some (record { kind = range.kind; base = 0; order = 20 }, rights)
  pub none : read_as (meaning_of range_word) ≡ None → window ≡ 0

-- the present item of `ec` is one of the message of a sender; it goes to the windows of a receiver, which a thread has in its message, where a
-- virtual CPU has none for translations, and the whole space for delegations; `whom` is told what came of it, or none, and after the last item `last`
-- follows
pub record GoesBetween (k : KernelState) (ec sender receiver : ℕ) (whom : Option ℕ) (last : Sequel) : Type 0 where
  pub item : Delivery
  pub present : delivery k ec (context k ec).state ≡ Some item
  pub range : item.range_word ≡ slice_index (message k sender) (126 - 2 * (transfer k ec).item)
  pub second : item.second_word ≡ slice_index (message k sender) (127 - 2 * (transfer k ec).item)
  pub count : 0 < item.items → item.items ≡ slice_index (message k sender) 0 / 2 ^ 16
  pub translations : is_thread k receiver ≡ true → item.translations ≡ slice_index (message k receiver) 1
  pub delegations : is_thread k receiver ≡ true → item.delegations ≡ slice_index (message k receiver) 2
  pub no_translations : is_thread k receiver ≡ false → item.translations ≡ 0
  pub whole_space : is_thread k receiver ≡ false → IsWholeSpace item.range_word item.delegations
  pub giver : item.giver ≡ pd_of k sender
  pub taker : item.receiver ≡ pd_of k receiver
  pub told : item.told ≡ whom
  pub follows : item.last ≡ last

-- the only item of a creator is a delegation, of the range in its x12 to that range, from its protection domain to `domain`; none is told, and then
-- the new domain is open
pub record GoesToItself (k : KernelState) (ec domain : ℕ) : Type 0 where
  pub item : Delivery
  pub present : delivery k ec (context k ec).state ≡ Some item
  pub range : item.range_word ≡ reg (context k ec).regs 12
  pub second : item.second_word ≡ 1
  pub count : item.items ≡ 1
  pub delegations : item.delegations ≡ reg (context k ec).regs 12
  pub giver : item.giver ≡ pd_of k ec
  pub taker : item.receiver ≡ domain
  pub told : item.told ≡ None
  pub follows : item.last ≡ Opened

-- the first word that tells of a delegation that is done: 0 where it made no child, and else where it goes, with its rights
pub record IsDelegated (item : Delivery) (children first : ℕ) : Type 0 where
  pub job : Job
  pub reads : job_of item.range_word item.second_word item.delegations item.giver item.receiver ≡ Ok job
  pub none : children ≡ 0 → first ≡ 0
  pub some : children ≢ 0 → first ≡ word_of (Some (dest_of job, job.rights))

-- how an item ended, and the first word that tells it: a delegation that is done, a delegation that is skipped as a whole, and a translation
abbrev pub Tells : KernelState → ℕ → Delivery → ItemEnd → ℕ → Type 0
Tells k ec item (Given children) first =
    (item.second_word % 2 ≡ 1) × (children ≡ (transfer k ec).children) × IsDelegated item children first
Tells k ec item (Skipped skip) first =
    (item.second_word % 2 ≡ 1) × (job_of item.range_word item.second_word item.delegations item.giver item.receiver ≡ Err skip) × (first ≡ 0)
Tells k ec item (Translated word) first =
    (item.second_word % 2 ≡ 0) × (word ≡ translated k.delegations.list item.range_word item.translations item.giver item.receiver) × (first ≡ word)

-- the words that tell of the present item, which ended so: for which context they are, how it ended, and bit 0 of its second word
pub record TellsOfItem (k : KernelState) (ec number : ℕ) (end : ItemEnd) (words : ItemWords) : Type 0 where
  pub item : Delivery
  pub present : delivery k ec (context k ec).state ≡ Some item
  pub its : number ≡ (transfer k ec).item
  pub told : item.told ≡ Some words.ec
  pub first : Tells k ec item end words.first
  pub second : words.second ≡ item.second_word % 2

-- the present item ended: another follows, or what follows the last; and words tell of it where a context is told
pub record EndsItem (k : KernelState) (ec number : ℕ) (words : Option ItemWords) (follows : Sequel) : Type 0 where
  pub item : Delivery
  pub present : delivery k ec (context k ec).state ≡ Some item
  pub its : number ≡ (transfer k ec).item
  pub next : number + 1 < item.items → follows ≡ Item
  pub last : item.items ≤ number + 1 → follows ≡ item.last
  pub silent : item.told ≡ None → words ≡ None
  pub told : (whom : ℕ) → item.told ≡ Some whom → IsSome words
