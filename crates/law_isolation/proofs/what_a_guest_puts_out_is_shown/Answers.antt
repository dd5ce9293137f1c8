use Rattle.law_isolation.proofs.Showing.{exits_shown}
use Rattle.law_isolation.proofs.Shows.{bytes_put}
use Rattle.law_isolation.proofs.what_a_guest_puts_out_is_shown.Goals as goal

pub returns-clause-exits : goal.returns-clause-exits
returns-clause-exits c = exits_shown

pub returns-clause-bytes : goal.returns-clause-bytes
returns-clause-bytes c = bytes_put
