use Rattle.std.proofs.Common.{refl}
use Rattle.std.specs.Prelude.{false}
use Rattle.nova_ec.proofs.Admitted.{call_sent, call_helped}
use Rattle.nova_ipc.proofs.calls.laws.the_flag_says_not_to_wait.Goals as goal

pub returns-clause-sent : goal.returns-clause-sent
returns-clause-sent c = λ cs caller handler flag other is. (call_sent cs caller handler other).1 ((call_sent cs caller handler flag).0 is)

pub returns-clause-helped : goal.returns-clause-helped
returns-clause-helped c = λ cs caller handler flag is.
    let all = (call_helped cs caller handler flag).0 is in
    (call_helped cs caller handler false).1 (all.0, all.1, refl)
