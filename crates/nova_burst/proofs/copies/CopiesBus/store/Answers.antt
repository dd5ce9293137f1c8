use Rattle.std.proofs.Common.{sym}
use Rattle.nova_range.specs.Rights.{write_right}
use Rattle.nova_burst.specs.Copies.{known_in}
use Rattle.nova_burst.proofs.Places.{taken_there}
use Rattle.nova_burst.proofs.copies.CopiesBus.store.Goals as goal

pub returns-in-Some-clause-gives : goal.returns-in-Some-clause-gives
returns-in-Some-clause-gives c =
    sym (taken_there (known_in c.args.self.now.known) c.args.self.now.pages write_right c.args.addr c.in-Some.copy c.in-Some.ensures.once c.in-Some.ensures.some)
