use Rattle.nova_scenario.proofs.SoundLemmas.{scenario_sound}
use Rattle.nova_boot.proofs.Among.{lie_in}
use Rattle.law_texts.proofs.Added.{words_held}
use Rattle.law_texts.proofs.laws.words_lie_at_their_address.Goals as goal

pub returns : goal.returns
returns c = λ bytes s is.
    let sound = scenario_sound bytes s is in
    words_held bytes s _ is (c.images_lie_in_memory.ensures s (lie_in _ s.images sound.images) sound.apart).there
