-- From a source's moment to a guest, on one processor: a driver waits for the source, is woken, and recalls the guest.
use Rattle.std.specs.Prelude.{◌≡◌, ◌≤◌, ℕ, ◌+◌, ◌++◌, true, List, ◌∷◌, slice_get, Some}
use Rattle.nova_model.specs.Runs.{run}
use Rattle.nova_model.specs.Semaphores.{semaphore}
use Rattle.nova_model.specs.State.{KernelState}
use Rattle.nova_model.specs.Times.{clock, goes_on}
use Rattle.nova_model.specs.declared.budget.Budget.{Budget}
use Rattle.nova_model.specs.declared.times.AlarmState.{AlarmState}
use Rattle.nova_gsi.specs.Deadlines.{all_rings_left}
use Rattle.law_response.specs.Creating.{OutranksOthers}
use Rattle.law_response.specs.Dues.{sets_in}
use Rattle.law_response.specs.Waits.{IsSchedule, NeverActs, StaysRunnable, above_in, paid_in}

-- The moment of an alarm of the processor has come. The driver is the first that waits at the alarm's semaphore, and its scheduling context outranks all others of the processor. The guest's is
-- of this priority and quantum there.
pub record IsAtMoment (k : KernelState) (cpu driver_sc driver guest_sc guest priority quantum : ℕ) : Type 0 where
  pub number : ℕ
  pub alarm : AlarmState
  pub there : slice_get k.times.alarms number ≡ Some alarm
  pub home : alarm.alarm.cpu ≡ cpu
  pub goes : goes_on alarm ≡ true
  pub come : alarm.next ≤ clock k.times cpu
  pub behind : List ℕ
  pub first : (semaphore k.semaphores alarm.alarm.sm).waiting ≡ driver ∷ behind
  pub rank : ℕ
  pub its_quantum : ℕ
  pub its_budget : Budget
  pub drives : IsSchedule k driver_sc driver cpu rank its_quantum its_budget
  pub outranks : OutranksOthers k cpu driver_sc rank
  pub budget : Budget
  pub runs : IsSchedule k guest_sc guest cpu priority quantum budget

-- Turns from that moment on: until the driver acts (`waits`), its work up to the recall (`works`), and those from then on (`rest`). In its work it may run wherever nothing is due. At most `work`
-- turns are its own up to the recall, or of a greater priority than the guest's from then on; at most `begun` waits to a deadline begin; and no object is made.
pub record IsReaction (k : KernelState) (waits works rest : List ℕ) (cpu driver_sc driver priority work begun : ℕ) : Type 0 where
  pub never : NeverActs k driver waits
  pub runs : StaysRunnable (run k waits) cpu driver works
  pub most : paid_in (run k waits) driver_sc works + above_in (run k (waits ++ works)) cpu priority rest ≤ work
  pub few : sets_in k cpu ((waits ++ works) ++ rest) ≤ begun
  pub nothing : (run k ((waits ++ works) ++ rest)).objects ≡ k.objects

-- how often the alarms of the processor ring within `turns` of its turns, at most
abbrev pub rings_within : KernelState → ℕ → ℕ → ℕ
rings_within k cpu turns = all_rings_left cpu (clock k.times cpu + turns) k.times.alarms
