use Rattle.nova_scenario.proofs.LaidLemmas.{executables_laid}
use Rattle.nova_scenario.proofs.SoundLemmas.{scenario_sound}
use Rattle.nova_boot.proofs.Among.{items_held, lie_in}
use Rattle.nova_boot.proofs.laws.executables_lie_in_memory.Goals as goal

pub returns : goal.returns
returns c = λ bytes s is.
    let sound = scenario_sound bytes s is in
    items_held _ s.images _ (c.images_lie_in_memory.ensures s (lie_in _ s.images sound.images) sound.apart).there (executables_laid bytes s is)
