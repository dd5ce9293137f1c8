-- Semaphores: counters, and the execution contexts that wait at them, the first that came before all others. (NOVA specification, semaphores.)
use Rattle.std.specs.Prelude.{ℕ, ◌+◌, ◌-◌, ◌^◌, ◌==◌, eqb, Bool, not, if◌then◌else◌, List, [], ◌∷◌, ◌++◌, filter, slice_get, slice_set, Option, Some, None, Result}
use Rattle.std.specs.List.{list_any}
use Rattle.std.specs.declared.result.Result.TheVariants.{Ok, Err}
use Rattle.nova_model.specs.Numbers.{EcId, SmId}
use Rattle.nova_model.specs.State.{Semaphore, entry}
use Rattle.nova_model.specs.declared.semaphore.Overflow.{Overflow}
use Rattle.nova_model.specs.declared.semaphore.Down.{Down}
use Rattle.nova_model.specs.declared.semaphore.Down.TheVariants.{Done, Blocked}

-- by number a semaphore or nothing
abbrev pub Semaphores : Type 0
Semaphores = List (Option Semaphore)

-- the semaphore of a number
abbrev pub semaphore_at : Semaphores → SmId → Option Semaphore
semaphore_at all sm = entry (slice_get all sm)

-- where there is none the counter is 0, and no context waits
abbrev pub semaphore_in : Option Semaphore → Semaphore
semaphore_in (Some s) = s
semaphore_in None = record { count = 0; waiting = [] }

abbrev pub semaphore : Semaphores → SmId → Semaphore
semaphore all sm = semaphore_in (semaphore_at all sm)

-- whether an execution context is one of these
abbrev pub has : List EcId → EcId → Bool
has ecs ec = list_any (eqb ec) ecs

-- whether it waits at a semaphore
abbrev pub waits : Semaphores → SmId → EcId → Bool
waits all sm ec = has (semaphore all sm).waiting ec

-- the greatest counter
abbrev pub greatest : ℕ
greatest = 2 ^ 32 - 1

-- one semaphore changes
abbrev pub changed_by : (Semaphore → Semaphore) → Semaphores → SmId → Option Semaphore → Semaphores
changed_by change all sm None = all
changed_by change all sm (Some s) = slice_set all sm (Some (change s))

abbrev pub changed : (Semaphore → Semaphore) → Semaphores → SmId → Semaphores
changed change all sm = changed_by change all sm (semaphore_at all sm)

-- UP

-- the first that waits goes; where none waits the counter rises by one, unless it is at its greatest
abbrev pub raised_with : ℕ → List EcId → Semaphore
raised_with count [] = record { count = if count == greatest then count else count + 1; waiting = [] }
raised_with count (ec ∷ ecs) = record { count = count; waiting = ecs }

abbrev pub raised : Semaphore → Semaphore
raised s = raised_with s.count s.waiting

abbrev pub upped : Semaphores → SmId → Semaphores
upped = changed raised

-- the context that is woken: the first that waits. None is woken where none waits, and that at the greatest counter is an overflow
abbrev pub woken_of : ℕ → List EcId → Result (Option EcId) Overflow
woken_of count [] = if count == greatest then Err (record {}) else Ok None
woken_of count (ec ∷ ecs) = Ok (Some ec)

abbrev pub woken : Semaphore → Result (Option EcId) Overflow
woken s = woken_of s.count s.waiting

-- DOWN

-- a counter above 0 is lowered by one; at 0 the execution context waits, last of all
abbrev pub lowered : EcId → Semaphore → Semaphore
lowered ec s = if s.count == 0 then record s { waiting = s.waiting ++ ec ∷ [] } else record s { count = s.count - 1 }

abbrev pub downed : Semaphores → SmId → EcId → Semaphores
downed all sm ec = changed (lowered ec) all sm

abbrev pub answer_of : Semaphore → Down
answer_of s = if s.count == 0 then Blocked else Done

-- LEAVING

-- an execution context leaves the queue, where the others keep their order
abbrev pub without_one : EcId → Semaphore → Semaphore
without_one ec s = record s { waiting = filter (λ w. not (w == ec)) s.waiting }

abbrev pub left : Semaphores → SmId → EcId → Semaphores
left all sm ec = changed (without_one ec) all sm
