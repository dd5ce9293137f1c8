-- When all that calls of a kernel read is the same in two states, with what is counted beside it, or without.
use Rattle.std.specs.Prelude.{◌≡◌, ◌<◌, ℕ, Bool, true, false, nat_lt, List, length, slice_get, slice_index, Option, Some, None, option_map}
use Rattle.nova_objects.specs.declared.object.Object.{Object}
use Rattle.nova_model.specs.Capabilities.{is_vcpu}
use Rattle.nova_model.specs.State.{KernelState, budget_at, context, context_at, deadline_of, entry, transfer_at}
use Rattle.nova_model.specs.Times.{Times}
use Rattle.nova_model.specs.declared.budget.Budget.{Budget}
use Rattle.law_alike.specs.Alike.{ArePeers, IsAlarmAlike, IsDeadlineAlike}
use Rattle.law_sameness.specs.Counts.{Counts, counts_of}

-- x0 of each execution context is 0
abbrev pub AreZero : KernelState → Type 0
AreZero k = (ec : ℕ) → slice_index (context k ec).regs.x 0 ≡ 0

abbrev pub is_guest_in : Option Object → Bool
is_guest_in None = false
is_guest_in (Some o) = is_vcpu o

-- the stir count of the virtual CPU of a number, 0 where there is none
abbrev pub count_in : Option ℕ → ℕ
count_in None = 0
count_in (Some n) = n

abbrev pub stirs_at : KernelState → ℕ → ℕ
stirs_at k n = count_in (entry (slice_get k.stirs.guests n))

-- of a number: the same execution context, message words, place in items, identifier, turns that are left, and semaphore
pub record IsSameAt (a b : KernelState) (n : ℕ) : Type 0 where
  pub context : context_at a n ≡ context_at b n
  pub words : entry (slice_get a.messages n) ≡ entry (slice_get b.messages n)
  pub transfer : transfer_at a n ≡ transfer_at b n
  pub identifier : entry (slice_get a.identifiers n) ≡ entry (slice_get b.identifiers n)
  pub left : option_map (λ (x : Budget). x.left) (budget_at a n) ≡ option_map (λ (x : Budget). x.left) (budget_at b n)
  pub semaphore : entry (slice_get a.semaphores n) ≡ entry (slice_get b.semaphores n)

-- the same of each number, and the same processors, consoles, objects, derivations, RAM and console log
pub record AreReadAlike (a b : KernelState) : Type 0 where
  pub cpus : a.cpus ≡ b.cpus
  pub consoles : a.consoles ≡ b.consoles
  pub objects : a.objects ≡ b.objects
  pub each : (n : ℕ) → n < length a.objects → IsSameAt a b n
  pub derivations : a.delegations.list ≡ b.delegations.list
  pub ram : a.memory.ram ≡ b.memory.ram
  pub log : a.memory.log ≡ b.memory.log

-- of a number: the same ticks, and of a virtual CPU the same stir count
pub record IsCountedAt (a b : KernelState) (n : ℕ) : Type 0 where
  pub ticks : option_map (λ (x : Budget). x.ticks) (budget_at a n) ≡ option_map (λ (x : Budget). x.ticks) (budget_at b n)
  pub stirs : is_guest_in (slice_get a.objects n) ≡ true → stirs_at a n ≡ stirs_at b n

-- the same turns, and of each number the same counts; and all that no call reads is counted alike
pub record AreCountedAlike (a b : KernelState) : Type 0 where
  pub turns : a.turns ≡ b.turns
  pub each : (n : ℕ) → n < length a.objects → IsCountedAt a b n
  pub counts : counts_of a ≡ counts_of b

-- the stamp of a scheduling context, 0 where there is none
abbrev pub stamp_at : List (Option ℕ) → ℕ → ℕ
stamp_at stamps n = count_in (entry (slice_get stamps n))

-- of two scheduling contexts, where they are peers, the same one has the lesser stamp
abbrev pub IsInStep : List Object → List (Option ℕ) → List (Option ℕ) → ℕ → ℕ → Type 0
IsInStep objects a b m n = ArePeers objects m n → nat_lt (stamp_at a m) (stamp_at a n) ≡ nat_lt (stamp_at b m) (stamp_at b n)

-- and so it is of any two; and the next derivation has the same id
pub record AreInStep (objects : List Object) (t u : Counts) : Type 0 where
  pub order : (m n : ℕ) → IsInStep objects t.stamps u.stamps m n
  pub id : t.next_id ≡ u.next_id

-- MOMENTS: deadlines of the first so many numbers, and alarms

-- each is the same
pub record AreMomentsSame (n : ℕ) (t u : Times) : Type 0 where
  pub deadlines : (ec : ℕ) → ec < n → deadline_of t ec ≡ deadline_of u ec
  pub alarms : t.alarms ≡ u.alarms

-- each is as far from its clock
pub record AreMomentsAlike (n : ℕ) (t u : Times) : Type 0 where
  pub deadlines : (ec : ℕ) → ec < n → IsDeadlineAlike t u (deadline_of t ec) (deadline_of u ec)
  pub count : length t.alarms ≡ length u.alarms
  pub alarms : (i : ℕ) → i < length t.alarms → IsAlarmAlike t u (slice_get t.alarms i) (slice_get u.alarms i)
