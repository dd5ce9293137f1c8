-- The alarms of a kernel are sources.
use Rattle.std.proofs.Common.{List, [], ◌∷◌}
use Rattle.std.specs.List.{AllByRecursion}
use Rattle.nova_model.specs.declared.times.Alarm.{Alarm}
use Rattle.nova_gsi.specs.Firings.{IsSource}
use Rattle.nova_times.specs.Kept.{IsAlarm}

pub are_sources : (alarms : List Alarm) → AllByRecursion IsAlarm alarms → AllByRecursion IsSource alarms
are_sources [] all = tt
are_sources (a ∷ alarms) all = (record { period = all.0.period; count = all.0.count; last = all.0.last }, are_sources alarms all.1)
