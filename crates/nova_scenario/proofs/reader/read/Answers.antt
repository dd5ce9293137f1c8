use Rattle.std.proofs.Common.{rules}
use Rattle.std.proofs.lemmas.Result.{err_from_is_err_and}
use Rattle.nova_scenario.specs.Read.{IsFault}
use Rattle.nova_scenario.specs.Scenario.{scenario}
use Rattle.nova_scenario.proofs.LaidLemmas.{executables_laid}
use Rattle.nova_scenario.proofs.MemoryApart.{memory_apart}
use Rattle.nova_scenario.proofs.OriginLemmas.{images_are_of_items, images_are_aligned}
use Rattle.nova_scenario.proofs.SoundLemmas.{scenario_sound}
use Rattle.nova_scenario.proofs.reader.read.Goals as goal

pub returns-in_err-read_item-clause-apart : goal.returns-in_err-read_item-clause-apart
returns-in_err-read_item-clause-apart c =
    let fault = c.in_err-read_item.field-0.0 in
    let is : IsFault (scenario c.args.bytes.now) fault = search rules in
    let p = err_from_is_err_and c.from_residual.result c.from_residual.ensures.1 in
    rw (p.1, p.2) (memory_apart c.args.bytes.now fault is)

pub returns-in-Some-finish-clause-sound : goal.returns-in-Some-finish-clause-sound
returns-in-Some-finish-clause-sound c = scenario_sound c.args.bytes.now c.in-Some-finish.scenario (search rules)

pub returns-in-Some-finish-clause-executables : goal.returns-in-Some-finish-clause-executables
returns-in-Some-finish-clause-executables c = executables_laid c.args.bytes.now c.in-Some-finish.scenario (search rules)

pub returns-in-Some-finish-clause-origins : goal.returns-in-Some-finish-clause-origins
returns-in-Some-finish-clause-origins c = images_are_of_items c.args.bytes.now c.in-Some-finish.scenario (search rules)

pub returns-in-Some-finish-clause-aligned : goal.returns-in-Some-finish-clause-aligned
returns-in-Some-finish-clause-aligned c = images_are_aligned c.args.bytes.now c.in-Some-finish.scenario (search rules)
