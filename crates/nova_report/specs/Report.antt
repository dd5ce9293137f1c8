-- The report of a kernel and the events of its turns, section by section. Each line ends with a line feed.
use Rattle.std.specs.Prelude.{ℕ, ◌==◌, Bool, true, false, not, List, [], ◌++◌, filter, flat_map, map, codes, decimal, Option, Some, None, length, if◌then◌else◌}
use Rattle.std.specs.List.{enumerate_from, range_with_len, list_any, zip}
use Rattle.rv_model.specs.Registers.{Registers, reg}
use Rattle.nova_model.specs.State.{KernelState, Semaphore, context_at}
use Rattle.nova_model.specs.Choice.{is_quiet}
use Rattle.nova_kernel.specs.Views.{ticks_of, semaphore_at}
use Rattle.nova_model.specs.declared.event.Event.{Event}
use Rattle.nova_model.specs.declared.event.EventKind.{EventKind}
use Rattle.nova_model.specs.declared.event.EventKind.TheVariants.{Step, Tick}
use Rattle.nova_model.specs.declared.times.Alarm.{Alarm}
use Rattle.nova_gsi.specs.Firings.{table}
use Rattle.nova_gsi.specs.declared.source_line.SourceLine.{SourceLine}
use Rattle.nova_objects.specs.declared.object.Object.{Object}
use Rattle.nova_objects.specs.declared.object.Object.TheVariants.{Ec, Sc, Sm}
use Rattle.nova_objects.specs.declared.object.EcKind.{EcKind}
use Rattle.nova_model.specs.declared.context.EcState.{EcState}
use Rattle.nova_model.specs.declared.log.LogByte.{LogByte}
use Rattle.nova_model.specs.declared.delegation.Derivation.{Derivation}
use Rattle.nova_report.specs.Words.{line_feed, hexadecimal, quiet_word, event_word, context_word, state_word, space_word, parent_word}

-- whether every processor is idle, and how many turns were taken
abbrev pub run_line : KernelState → List ℕ
run_line k = codes "run " ++ (quiet_word (is_quiet k) ++ (codes " " ++ (decimal k.turns ++ line_feed)))

-- each event but step and tick, by place from 1
abbrev pub is_silent : EventKind → Bool
is_silent Step = true
is_silent Tick = true
is_silent other = false

abbrev pub is_told : ℕ × Event → Bool
is_told (place, e) = not (is_silent e.kind)

-- the line of an event, behind its place and as a whole
abbrev pub event_rest : Event → List ℕ
event_rest e = codes " " ++ (decimal e.cpu ++ (codes " " ++ (decimal e.ec ++ (codes " "
    ++ (event_word e.kind ++ (codes " " ++ (decimal e.a ++ (codes " " ++ (decimal e.b ++ line_feed)))))))))

abbrev pub event_line : ℕ × Event → List ℕ
event_line (place, e) = codes "at " ++ (decimal place ++ event_rest e)

abbrev pub lines_from : ℕ → List Event → List ℕ
lines_from n events = flat_map event_line (filter is_told (enumerate_from n events))

abbrev pub event_lines : List Event → List ℕ
event_lines trace = flat_map event_line (filter is_told (enumerate_from 1 trace))

-- each execution context by number, with the registers that aren't 0
abbrev pub register_word : ℕ → ℕ → List ℕ
register_word i value = if value == 0 then [] else codes " x" ++ (decimal i ++ (codes "=" ++ hexadecimal 8 value))

unfoldable pub register_words : Registers → List ℕ
register_words r = flat_map (λ i. register_word i (reg r i)) (range_with_len 0 32)

abbrev pub context_line : ℕ → EcKind → Option EcState → List ℕ
context_line id kind (Some x) = codes "ec " ++ (decimal id ++ (codes " " ++ (context_word kind ++ (codes " " ++ (state_word x.state
    ++ (codes " " ++ (hexadecimal 8 x.regs.pc ++ (register_words x.regs ++ line_feed))))))))
context_line id kind None = []

abbrev pub context_of : KernelState → ℕ × Object → List ℕ
context_of k (id, Ec pd cpu kind event) = context_line id kind (context_at k id)
context_of k (id, other) = []

abbrev pub context_lines : KernelState → List ℕ
context_lines k = flat_map (context_of k) (enumerate_from 0 k.objects)

-- each scheduling context by number, with its processor and the turns that it paid for
abbrev pub budget_line : ℕ → ℕ → Option ℕ → List ℕ
budget_line id cpu (Some ticks) = codes "sc " ++ (decimal id ++ (codes " " ++ (decimal cpu ++ (codes " " ++ (decimal ticks ++ line_feed)))))
budget_line id cpu None = []

abbrev pub budget_of : KernelState → ℕ × Object → List ℕ
budget_of k (id, Sc ec cpu priority quantum) = budget_line id cpu (ticks_of k id)
budget_of k (id, other) = []

abbrev pub budget_lines : KernelState → List ℕ
budget_lines k = flat_map (budget_of k) (enumerate_from 0 k.objects)

-- each semaphore by number, with its counter and how many wait at it
abbrev pub semaphore_line : ℕ → Option Semaphore → List ℕ
semaphore_line id (Some s) = codes "sm " ++ (decimal id ++ (codes " " ++ (decimal s.count ++ (codes " " ++ (decimal (length s.waiting) ++ line_feed)))))
semaphore_line id None = []

abbrev pub semaphore_of : KernelState → ℕ × Object → List ℕ
semaphore_of k (id, Sm) = semaphore_line id (semaphore_at k id)
semaphore_of k (id, other) = []

abbrev pub semaphore_lines : KernelState → List ℕ
semaphore_lines k = flat_map (semaphore_of k) (enumerate_from 0 k.objects)

-- each source by number, with its processor and semaphore, how often it fired, and by how many ticks the latest was late
abbrev pub source_line : ℕ × (Alarm × SourceLine) → List ℕ
source_line (n, (s, l)) = codes "source " ++ (decimal n ++ (codes " " ++ (decimal s.cpu ++ (codes " " ++ (decimal s.sm ++ (codes " "
    ++ (decimal l.fired ++ (codes " " ++ (decimal l.worst ++ line_feed)))))))))

abbrev pub source_lines : List Alarm → List Event → List ℕ
source_lines sources trace = flat_map source_line (enumerate_from 0 (zip sources (table sources trace)))

-- each console, with the bytes that were stored to it
abbrev pub is_of : ℕ → LogByte → Bool
is_of console b = b.console == console

abbrev pub byte_text : LogByte → List ℕ
byte_text b = hexadecimal 2 b.value

-- its bytes, or `-` for none
abbrev pub bytes_text : ℕ → List LogByte → List ℕ
bytes_text console log = if list_any (is_of console) log then flat_map byte_text (filter (is_of console) log) else codes "-"

abbrev pub console_line : List LogByte → ℕ → List ℕ
console_line log console = codes "console " ++ (decimal console ++ (codes " " ++ (bytes_text console log ++ line_feed)))

abbrev pub console_lines : KernelState → List ℕ
console_lines k = flat_map (console_line k.memory.log) (range_with_len 0 k.consoles)

-- each derivation by id
abbrev pub derivation_line : Derivation → List ℕ
derivation_line d = codes "cap " ++ (decimal d.id ++ (codes " " ++ (parent_word d.parent ++ (codes " " ++ (decimal d.pd ++ (codes " "
    ++ (space_word d.kind ++ (codes " " ++ (decimal d.base ++ (codes " " ++ (decimal d.order ++ (codes " " ++ (decimal d.rights.0
    ++ (codes " " ++ (decimal d.target ++ line_feed)))))))))))))))

abbrev pub derivation_lines : KernelState → List ℕ
derivation_lines k = flat_map derivation_line k.delegations.list

-- what the kernel holds at the end, and each source
abbrev pub sections : KernelState → List Event → List ℕ
sections k trace = context_lines k ++ (budget_lines k ++ (semaphore_lines k ++ (source_lines (map (λ a. a.alarm) k.times.alarms) trace
    ++ (console_lines k ++ derivation_lines k))))

unfoldable pub report : KernelState → List Event → List ℕ
report k trace = run_line k ++ (event_lines trace ++ sections k trace)
