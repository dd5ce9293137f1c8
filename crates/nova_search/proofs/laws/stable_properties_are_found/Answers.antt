use Rattle.nova_search.proofs.Stable.{stable_found}
use Rattle.nova_search.proofs.laws.stable_properties_are_found.Goals as goal

pub returns : goal.returns
returns g c = λ noted lone m property k states apt swaps is stable same none order are.
    stable_found g.N.Notes.Touch g.N.Notes.touched noted m k states property stable same none order are
    (c.reduced_searches_are_complete.ensures.covered noted lone m k states apt swaps is order are)
