use Rattle.nova_scenario.proofs.OriginLemmas.{images_are_of_items}
use Rattle.nova_scenario.proofs.SoundLemmas.{scenario_sound}
use Rattle.nova_boot.proofs.Among.{lie_in}
use Rattle.nova_boot.proofs.laws.texts_lie_in_memory.Goals as goal

pub returns : goal.returns
returns c = λ bytes s is.
    let sound = scenario_sound bytes s is in
    record {
      held = c.images_lie_in_memory.ensures s (lie_in _ s.images sound.images) sound.apart;
      origins = images_are_of_items bytes s is;
    }
