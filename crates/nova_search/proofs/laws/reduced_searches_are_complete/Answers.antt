use Rattle.nova_search.proofs.Covering.{all_covered, still_found}
use Rattle.nova_search.proofs.laws.reduced_searches_are_complete.Goals as goal

pub returns-clause-covered : goal.returns-clause-covered
returns-clause-covered g c = λ noted lone m k states apt swaps is order are.
    let one = c.states_are_one.ensures in
    all_covered m (one.reflexive m) (one.symmetric m) (one.transitive m) (one.turns m) one.apt g.N.Notes.Touch g.N.Notes.touched g.N.Notes.apart noted lone k states swaps is apt order are

pub returns-clause-still : goal.returns-clause-still
returns-clause-still g c = λ noted lone m k states apt swaps is order are ends.
    let one = c.states_are_one.ensures in
    still_found m (one.reflexive m) (one.symmetric m) (one.transitive m) (one.turns m) one.apt g.N.Notes.Touch g.N.Notes.touched g.N.Notes.apart noted lone k states swaps is apt order are ends
