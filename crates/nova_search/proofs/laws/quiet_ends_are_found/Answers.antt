use Rattle.nova_model.specs.Runs.{run}
use Rattle.law_turns.proofs.Processors.{run_cpus}
use Rattle.nova_search.proofs.Covering.{idle_still, still_found}
use Rattle.nova_search.proofs.laws.quiet_ends_are_found.Goals as goal

pub returns : goal.returns
returns g c = λ noted lone m k states apt swaps is order are quiet.
    let one = c.states_are_one.ensures in
    still_found m (one.reflexive m) (one.symmetric m) (one.transitive m) (one.turns m) one.apt g.N.Notes.Touch g.N.Notes.touched g.N.Notes.apart noted lone k states swaps is apt order are
    (idle_still (run k order) ((c.quiet_is_every_processor_idle.ensures (run k order)).0 quiet) k.cpus (run_cpus k order))
