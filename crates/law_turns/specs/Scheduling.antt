-- Scheduling contexts: whose they are, the turns that they pay for, and their stamps.
use Rattle.law_forest.specs.Turns.{is_passing}
use Rattle.std.specs.Prelude.{◌≡◌, ◌≢◌, ◌<◌, ◌≤◌, ℕ, ◌+◌, ◌==◌, Bool, false, List, [], ◌∷◌, filter, length, sum, if◌then◌else◌, slice_get, Option, Some, None, IfSome, IsSome, ◌&&◌, not}
use Rattle.nova_objects.specs.declared.object.Object.{Object}
use Rattle.nova_objects.specs.declared.object.Object.TheVariants.{Sc}
use Rattle.nova_model.specs.Hypercalls.{ticks_in}
use Rattle.nova_model.specs.State.{KernelState, budget_at}
use Rattle.nova_model.specs.Turn.{quantum_in}
use Rattle.nova_model.specs.declared.budget.Budget.{Budget}
use Rattle.nova_model.specs.declared.event.Event.{Event}
use Rattle.law_turns.specs.Tables.{IsOf}

-- a scheduling context of this processor
abbrev pub is_on : ℕ → Object → Bool
is_on cpu (Sc ec its_cpu priority quantum) = its_cpu == cpu
is_on cpu other = false

-- the ticks of each object, with its entry of the table of budgets, where it is a scheduling context of this processor
abbrev pub ticks_on : ℕ → List Object → List (Option Budget) → List ℕ
ticks_on cpu (o ∷ os) (b ∷ bs) = (if is_on cpu o then ticks_in b else 0) ∷ ticks_on cpu os bs
ticks_on cpu [] bs = []
ticks_on cpu (o ∷ os) [] = []

-- the turns that the scheduling contexts of a processor paid for
abbrev pub paid_on : KernelState → ℕ → ℕ
paid_on k cpu = sum (ticks_on cpu k.objects k.budgets)

-- how many of these events are of turns of a processor
abbrev pub turns_of : ℕ → List Event → ℕ
turns_of cpu events = length (filter (λ e. e.cpu == cpu) events)

-- how many of those are deadlines, alarms and ticks, which no scheduling context pays
abbrev pub turns_passed : ℕ → List Event → ℕ
turns_passed cpu events = length (filter (λ e. (e.cpu == cpu) && is_passing e.kind) events)

-- how many of them a scheduling context paid for
abbrev pub turns_paid_by : ℕ → List Event → ℕ
turns_paid_by sc events = length (filter (λ e. (e.sc == sc) && not (is_passing e.kind)) events)

-- of a scheduling context of this number at least 1 turn is left, and at most its quantum
abbrev pub HasTurnsLeft : KernelState → ℕ → Object → Type 0
HasTurnsLeft k n (Sc ec cpu priority quantum) = IfSome (budget_at k n) (λ b. (1 ≤ b.left) × (b.left ≤ quantum))
HasTurnsLeft k n other = Unit {0}

-- a turn less is left and the stamp stays; or the last is used up, and the whole quantum is left again, with the last stamp of those that are given
-- from `next` on, before `last`
pub data IsUsed (before after : Budget) (quantum next last : ℕ) : Type 0 where
  GoesOn : 1 < before.left → after.left + 1 ≡ before.left → after.stamp ≡ before.stamp → IsUsed before after quantum next last
  Renewed : before.left ≤ 1 → after.left ≡ quantum → next ≤ after.stamp → after.stamp + 1 ≡ last → IsUsed before after quantum next last

-- a turn that no scheduling context pays leaves all budgets, and gives no stamp
pub record IsUnpaid (old new : KernelState) : Type 0 where
  pub budgets : new.budgets ≡ old.budgets
  pub next : new.next_stamp ≡ old.next_stamp

-- a turn of a processor, that a scheduling context of it pays: its budget has a tick more, the budgets of all others that are there stay, and a new
-- budget has no ticks and the stamp that was next. At most two stamps are given.
pub record IsPaidBy (old new : KernelState) (cpu sc : ℕ) : Type 0 where
  pub before : Budget
  pub after : Budget
  pub its : IsOf old.objects (is_on cpu) sc
  pub there : budget_at old sc ≡ Some before
  pub paid : budget_at new sc ≡ Some after
  pub ticks : after.ticks ≡ before.ticks + 1
  pub used : IsUsed before after (quantum_in (slice_get old.objects sc)) old.next_stamp new.next_stamp
  pub others : (n : ℕ) → n ≢ sc → IsSome (budget_at old n) → budget_at new n ≡ budget_at old n
  pub fresh : (n : ℕ) (b : Budget) → budget_at old n ≡ None → budget_at new n ≡ Some b → (b.ticks ≡ 0) × (b.stamp ≡ old.next_stamp)
  pub rises : old.next_stamp ≤ new.next_stamp
  pub by_two : new.next_stamp ≤ old.next_stamp + 2
