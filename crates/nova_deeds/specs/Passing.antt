-- What comes by itself on a processor, before its turn is counted.
use Rattle.std.specs.Prelude.{slice_get}
use Rattle.nova_model.specs.Semaphores.{semaphore, woken}
use Rattle.nova_model.specs.State.{KernelState, deadline_of}
use Rattle.nova_model.specs.Times.{alarm_sm, deadline_sm}
use Rattle.nova_model.specs.Turn.{expires, rings_at}
use Rattle.nova_model.specs.declared.times.Due.{Due}
use Rattle.nova_model.specs.declared.times.Due.TheVariants as due

abbrev pub fallen : KernelState → Due → KernelState
fallen k (due.Alarm alarm) = rings_at k alarm (alarm_sm (slice_get k.times.alarms alarm)) (woken (semaphore k.semaphores (alarm_sm (slice_get k.times.alarms alarm))))
fallen k (due.Deadline ec) = expires k ec (deadline_sm (deadline_of k.times ec))
