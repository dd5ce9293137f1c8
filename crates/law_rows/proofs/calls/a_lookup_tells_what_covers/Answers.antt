use Rattle.nova_model.specs.Delegations.{covers}
use Rattle.law_rows.proofs.Lookups.{some_found, tells_found, tells_none}
use Rattle.law_rows.proofs.calls.a_lookup_tells_what_covers.Goals as goal

pub returns-clause-none : goal.returns-clause-none
returns-clause-none c = tells_none

pub returns-clause-some : goal.returns-clause-some
returns-clause-some c = λ k domain range d among covered.
    let f = some_found (covers range.kind domain range.base) k.delegations.list d among covered in
    (f.one, f.among, f.passes, tells_found k domain range f)
