-- What the lines of sources say of the alarms that a kernel begins with.
use Rattle.std.specs.Prelude.{◌≡◌, ℕ, ◌+◌, List, [], ◌∷◌, length, slice_get, Some}
use Rattle.nova_model.specs.Creation.{idle_semaphore}
use Rattle.nova_model.specs.Semaphores.{semaphore_at}
use Rattle.nova_model.specs.State.{KernelState}
use Rattle.nova_model.specs.declared.times.Alarm.{Alarm}
use Rattle.nova_scenario.specs.Items.{Item, FaultyLine, SettingLine, SourceLine, ImageBlock}
use Rattle.nova_scenario.specs.declared.statement.SourceHead.{SourceHead}

-- what the lines of sources have, in order
abbrev pub source_lines : List Item → List SourceHead
source_lines [] = []
source_lines (FaultyLine line why ∷ more) = source_lines more
source_lines (SettingLine line setting ∷ more) = source_lines more
source_lines (SourceLine line head ∷ more) = head ∷ source_lines more
source_lines (ImageBlock head block ∷ more) = source_lines more

-- source n, counted from 0, is the alarm of number `n`: its processor, first moment, period and count are those of its line; it is of object 3 + n, a
-- semaphore whose counter is 0 and where none waits; and it hasn't rung
pub record IsAlarmOf (k : KernelState) (n : ℕ) (head : SourceHead) : Type 0 where
  pub alarm : Alarm
  pub there : slice_get k.times.alarms n ≡ Some (record { alarm = alarm; next = alarm.first; rings = 0 })
  pub cpu : head.cpu ≡ Some alarm.cpu
  pub first : head.first ≡ Some alarm.first
  pub period : head.period ≡ Some alarm.period
  pub count : head.count ≡ Some alarm.count
  pub place : alarm.sm ≡ 3 + n
  pub idle : semaphore_at k.semaphores (3 + n) ≡ Some (idle_semaphore 0)

-- each is, and there is no other alarm
pub record AreAlarms (k : KernelState) (heads : List SourceHead) : Type 0 where
  pub as_many : length k.times.alarms ≡ length heads
  pub each : (n : ℕ) (head : SourceHead) → slice_get heads n ≡ Some head → IsAlarmOf k n head
