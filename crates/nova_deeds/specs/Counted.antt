-- What always holds of the state, between turns and within one.
use Rattle.std.specs.Prelude.{IsSome, slice_get, slice_index, ℕ, ◌+◌, ◌*◌, ◌^◌, ◌<◌, ◌≤◌, ◌≡◌, length, Option, Some, None}
use Rattle.nova_model.specs.Forest.{IsForest}
use Rattle.nova_model.specs.State.{KernelState, context_at, budget_at, entry, transfer_at}
use Rattle.law_turns.specs.Keeping.{IsKept}
use Rattle.nova_model.specs.declared.budget.Budget.{Budget}
use Rattle.nova_model.specs.declared.transfer.Transfer.{Transfer}
use Rattle.nova_deeds.specs.Stirs.{IsStirredWithin}

-- tables by number: an entry for each object
pub record AreTables (k : KernelState) : Type 0 where
  pub contexts : length k.contexts ≡ length k.objects
  pub messages : length k.messages ≡ length k.objects
  pub transfers : length k.transfers ≡ length k.objects
  pub budgets : length k.budgets ≡ length k.objects
  pub identifiers : length k.identifiers ≡ length k.objects
  pub semaphores : length k.semaphores ≡ length k.objects
  pub guests : length k.stirs.guests ≡ length k.objects
  pub deadlines : length k.times.deadlines ≡ length k.objects

-- the numbers that were given: before the first turn at most 2^20 to objects and 17 more to derivations, and in a turn at most one of each
pub record IsNumbered (turns : ℕ) (k : KernelState) : Type 0 where
  pub objects : length k.objects ≤ turns + 2 ^ 20
  pub derivations : k.delegations.next ≤ turns + (2 ^ 20 + 17)

-- a scheduling context paid for no more turns than were taken
abbrev pub IsPaidWithin : ℕ → Option Budget → Type 0
IsPaidWithin turns (Some b) = b.ticks ≤ turns
IsPaidWithin turns None = 0 ≤ turns

-- an execution context made no more children of its item than turns were taken
abbrev pub IsGivenWithin : ℕ → Option Transfer → Type 0
IsGivenWithin turns (Some t) = t.children ≤ turns
IsGivenWithin turns None = 0 ≤ turns

-- the present item of an execution context is such as a message may have
abbrev pub IsAtItem : Option Transfer → Type 0
IsAtItem (Some t) = t.item < 62
IsAtItem None = Unit {0}

-- what turns are charged to is bounded by the turns that were taken, stamps by a number, and stir counts of virtual CPUs by another
pub record IsChargedWithin (most inputs : ℕ) (k : KernelState) : Type 0 where
  pub turns : k.turns ≤ 2 ^ 31
  pub processors : length k.stirs.processors ≡ k.cpus
  pub stamps : k.next_stamp ≤ most
  pub ticks : (sc : ℕ) → IsPaidWithin k.turns (budget_at k sc)
  pub stirs : (cpu : ℕ) → slice_index k.stirs.processors cpu ≤ k.turns
  pub guests : (g : ℕ) → IsStirredWithin inputs (entry (slice_get k.stirs.guests g))

-- a turn takes at most two stamps: one for a scheduling context that is made, and one for a quantum that begins anew
abbrev pub IsCharged : KernelState → Type 0
IsCharged k = IsChargedWithin (2 * k.turns + 1) k.turns k

-- after a deed, before what it is for virtual CPUs is counted
abbrev pub IsToBeStirred : KernelState → Type 0
IsToBeStirred k = IsChargedWithin (2 * k.turns + 2) k.turns k

-- and after that, one input at most for each of them, before its turn is charged
abbrev pub IsToBeCharged : KernelState → Type 0
IsToBeCharged k = IsChargedWithin (2 * k.turns + 2) (k.turns + 1) k

-- what always holds: bounds of what is counted, an entry of each table for each object, delegations that are a sound forest, and what each turn keeps of
-- the state that it finds
pub record IsCounted (k : KernelState) : Type 0 where
  pub charged : IsCharged k
  pub numbered : IsNumbered k.turns k
  pub tables : AreTables k
  pub children : (ec : ℕ) → IsGivenWithin k.turns (transfer_at k ec)
  pub items : (ec : ℕ) → IsAtItem (transfer_at k ec)
  pub forest : IsForest k.delegations
  pub kept : IsKept k

-- a deed leaves each execution context and each scheduling context there, lets none pay, and counts no input; it gives at most one number to an object and to
-- a derivation, at most one stamp, and counts at most one child
pub record KeepsCounts (old new : KernelState) : Type 0 where
  pub contexts : (ec : ℕ) → IsSome (context_at old ec) → IsSome (context_at new ec)
  pub budgets : (sc : ℕ) → IsSome (budget_at old sc) → IsSome (budget_at new sc)
  pub ticks : (sc turns : ℕ) → IsPaidWithin turns (budget_at old sc) → IsPaidWithin turns (budget_at new sc)
  pub transfers : (ec turns : ℕ) → IsGivenWithin turns (transfer_at old ec) → IsGivenWithin (turns + 1) (transfer_at new ec)
  pub items : (ec : ℕ) → IsAtItem (transfer_at old ec) → IsAtItem (transfer_at new ec)
  pub next_stamp : new.next_stamp ≤ old.next_stamp + 1
  pub turns : new.turns ≡ old.turns
  pub cpus : new.cpus ≡ old.cpus
  pub processors : new.stirs.processors ≡ old.stirs.processors
  pub guests : (g turns : ℕ) → IsStirredWithin turns (entry (slice_get old.stirs.guests g)) → IsStirredWithin turns (entry (slice_get new.stirs.guests g))
  pub objects : length new.objects ≤ length old.objects + 1
  pub derivations : new.delegations.next ≤ old.delegations.next + 1
  pub tables : AreTables old → AreTables new
