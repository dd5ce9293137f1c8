use Rattle.std.proofs.Common.{◌++◌, [], ◌∷◌}
use Rattle.nova_search.proofs.Stable.{never_done}
use Rattle.nova_search.proofs.Ways.{processors_more}
use Rattle.nova_search.proofs.laws.what_no_note_shows_is_never_done.Goals as goal

pub returns : goal.returns
returns g c = λ noted lone m does shows k states apt swaps is shown silent order cpu are less.
    never_done g.N.Notes.Touch g.N.Notes.touched noted m k states does shows shown silent order cpu less
    (c.reduced_searches_are_complete.ensures.covered noted lone m k states apt swaps is (order ++ cpu ∷ []) (processors_more k.cpus order cpu are less))
