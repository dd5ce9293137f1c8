-- How a kernel begins, and the sources that it has.
use Rattle.std.specs.Prelude.{◌≡◌, ◌+◌, ◌≤◌, List, length, map}
use Rattle.std.specs.List.{AllByRecursion}
use Rattle.nova_model.specs.Boot.{Scenario, boot}
use Rattle.nova_model.specs.State.{KernelState}
use Rattle.nova_model.specs.declared.times.Alarm.{Alarm}
use Rattle.nova_model.specs.declared.times.AlarmState.{AlarmState}
use Rattle.nova_times.specs.Kept.{IsAlarm}
pub use Rattle.law_turns.specs.Revoking.{AreCalm}

-- the alarms, as they were added
abbrev pub sources_of : KernelState → List Alarm
sources_of k = map (λ (a : AlarmState). a.alarm) k.times.alarms

-- it is the state of boot of a scenario; derivations have few numbers more than objects, and alarms are no more
pub record IsAtBoot (k : KernelState) : Type 0 where
  pub scenario : Scenario
  pub is : k ≡ boot scenario
  pub derivations : k.delegations.next ≤ length k.objects + 17
  pub alarms : length k.times.alarms ≤ length k.objects
  pub calm : AreCalm k

-- before its first turn a kernel is at a state of boot; its sources have numbers in their ranges
pub record IsBegun (k : KernelState) : Type 0 where
  pub boot : k.turns ≡ 0 → IsAtBoot k
  pub sources : AllByRecursion IsAlarm (sources_of k)
