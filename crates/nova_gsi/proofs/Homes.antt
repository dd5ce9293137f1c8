-- The context that acts in a turn is of its processor.
use Rattle.std.proofs.Common.{◌≡◌, ℕ, ap, sym, ◌∙◌}
use Rattle.std.specs.Prelude.{is_some, List, Some}
use Rattle.std.proofs.lemmas.Option.{same_Some}
use Rattle.nova_model.specs.Boot.{Scenario, boot}
use Rattle.nova_model.specs.Choice.{Candidate, next_to_act}
use Rattle.nova_model.specs.Runs.{run}
use Rattle.nova_model.specs.State.{processor_of}
use Rattle.law_forest.proofs.Turning.{acts_chosen}
use Rattle.law_turns.proofs.Deadlines.{at_home}
use Rattle.law_turns.proofs.Serving.{actor_of}
use Rattle.law_turns.proofs.TablesFit.{chosen_acts}
use Rattle.law_isolation.specs.Sound.{IsSound}
use Rattle.law_isolation.proofs.Runs.{reached_sound}
use Rattle.law_leases.proofs.Homes.{chosen_home}

pub actor_home : (s : Scenario) (turns : List ℕ) (cpu : ℕ) (c : Candidate) → next_to_act (run (boot s) turns) cpu ≡ Some c → processor_of (run (boot s) turns) c.actor ≡ cpu
actor_home s turns cpu c acts =
    let k = run (boot s) turns in
    let sound : IsSound k = reached_sound s turns in
    let home = chosen_home k cpu c sound (acts_chosen k cpu c acts).0 in
    let there = (actor_of k.contexts c.actor (chosen_acts k cpu c acts)).there in
    same_Some (processor_of k c.actor) cpu (sym (at_home k c.actor (ap is_some there) sound.kept.tables) ∙ home)
