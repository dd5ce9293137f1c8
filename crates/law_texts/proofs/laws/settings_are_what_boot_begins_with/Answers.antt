use Rattle.law_texts.proofs.Alarms.{alarms_told}
use Rattle.law_texts.proofs.Begun.{told}
use Rattle.law_texts.proofs.laws.settings_are_what_boot_begins_with.Goals as goal

pub returns-clause-settings : goal.returns-clause-settings
returns-clause-settings c = told

pub returns-clause-sources : goal.returns-clause-sources
returns-clause-sources c = alarms_told (record { alarms = c.sources_are_alarms.ensures; idle = c.counters_tell_what_ended.ensures.sources })
