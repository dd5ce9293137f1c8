use Rattle.nova_ec.proofs.Admitted.{call_bad_cpu, call_aborted, call_sent, call_timeout, call_helped}
use Rattle.nova_ipc.proofs.calls.laws.answers_come_in_order.Goals as goal

pub returns-clause-bad_cpu : goal.returns-clause-bad_cpu
returns-clause-bad_cpu c = call_bad_cpu

pub returns-clause-aborted : goal.returns-clause-aborted
returns-clause-aborted c = call_aborted

pub returns-clause-send : goal.returns-clause-send
returns-clause-send c = call_sent

pub returns-clause-timeout : goal.returns-clause-timeout
returns-clause-timeout c = call_timeout

pub returns-clause-help : goal.returns-clause-help
returns-clause-help c = call_helped
