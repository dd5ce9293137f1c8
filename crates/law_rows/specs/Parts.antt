-- A part of an item that is delegated.
use Rattle.std.specs.Prelude.{◌≡◌, ℕ, ◌+◌, ◌%◌, ◌^◌, Some, Ok}
use Rattle.nova_model.specs.Deliveries.{delivery}
use Rattle.nova_model.specs.State.{KernelState, context, transfer}
use Rattle.nova_model.specs.Transfers.{job_of, next_source}
use Rattle.nova_model.specs.declared.delegation.Derivation.{Derivation}
use Rattle.nova_model.specs.declared.transfer.Delivery.{Delivery}
use Rattle.nova_model.specs.declared.transfer.Job.{Job}

-- the present item has bit 0 of its second word, which delegates, and reads; of what is left of it from where the cursor was this derivation is the
-- next; and the cursor goes right behind it
pub record IsPart (k : KernelState) (ec cursor : ℕ) : Type 0 where
  pub item : Delivery
  pub present : delivery k ec (context k ec).state ≡ Some item
  pub delegates : item.second_word % 2 ≡ 1
  pub job : Job
  pub reads : job_of item.range_word item.second_word item.delegations item.giver item.receiver ≡ Ok job
  pub source : Derivation
  pub next : next_source k.delegations.list (record job { cursor = (transfer k ec).cursor }) ≡ Some source
  pub behind : cursor ≡ source.base + 2 ^ source.order

-- the present item, with this bit 0 of its second word
pub record HasBit (k : KernelState) (ec bit : ℕ) : Type 0 where
  pub item : Delivery
  pub present : delivery k ec (context k ec).state ≡ Some item
  pub flag : item.second_word % 2 ≡ bit
