-- What a run comes to: the states of its execution contexts, with what they wait for, and its semaphores and consoles, as a report tells them.
use Rattle.std.specs.Prelude.{ℕ, List, [], ◌++◌, flat_map, length, codes, decimal, Option, Some, None}
use Rattle.std.specs.List.{range_with_len}
use Rattle.nova_model.specs.State.{KernelState, context_at}
use Rattle.nova_model.specs.declared.context.EcState.{EcState}
use Rattle.nova_model.specs.declared.context.State.{State}
use Rattle.nova_model.specs.declared.context.State.TheVariants.{Blocked, Calling, Helping, Sending}
use Rattle.nova_report.specs.Report.{console_lines, semaphore_lines}
use Rattle.nova_report.specs.Words.{line_feed, state_word}

-- the semaphore that an execution context waits at, or the handler of the call or exit in which it waits
abbrev pub waits_for : State → Option ℕ
waits_for (Blocked sm) = Some sm
waits_for (Calling handler) = Some handler
waits_for (Helping handler) = Some handler
waits_for (Sending reason q0 q1 handler) = Some handler
waits_for other = None

abbrev pub number_word : Option ℕ → List ℕ
number_word (Some n) = codes " " ++ decimal n
number_word None = []

-- of an execution context its number, its state, and what it waits for
abbrev pub state_line : ℕ → Option EcState → List ℕ
state_line id (Some x) = codes "ec " ++ (decimal id ++ (codes " " ++ (state_word x.state ++ (number_word (waits_for x.state) ++ line_feed))))
state_line id None = []

abbrev pub state_of : KernelState → ℕ → List ℕ
state_of k id = state_line id (context_at k id)

abbrev pub state_lines : KernelState → List ℕ
state_lines k = flat_map (state_of k) (range_with_len 0 (length k.objects))

unfoldable pub outcome : KernelState → List ℕ
outcome k = state_lines k ++ (semaphore_lines k ++ console_lines k)
