-- What is told of a run, line by line.
use Rattle.std.specs.Prelude.{ℕ, ◌+◌, ◌-◌, ◌%◌, List, [], ◌++◌, codes, decimal, flat_map, length, min, Option, Some, None, slice_get, drop, take, option_map}
use Rattle.std.specs.List.{enumerate_from, range_with_len}
use Rattle.nova_model.specs.State.{KernelState, context_at, entry}
use Rattle.nova_model.specs.Semaphores.{semaphore}
use Rattle.nova_model.specs.declared.context.EcState.{EcState}
use Rattle.nova_model.specs.declared.context.State.{State}
use Rattle.nova_model.specs.declared.context.State.TheVariants.{Calling, Helping, Sending, Blocked}
use Rattle.nova_model.specs.declared.event.Event.{Event}
use Rattle.nova_utcb.specs.Messages.{word}
use Rattle.rv_asm.specs.Printed.{printed}
use Rattle.rv_model.specs.declared.instr.Instr.{Instr}
use Rattle.nova_objects.specs.declared.object.Object.{Object}
use Rattle.nova_objects.specs.declared.object.Object.TheVariants.{Ec}
use Rattle.nova_report.specs.Words.{line_feed, hexadecimal, event_word, parent_word}
use Rattle.nova_report.specs.Report.{context_lines, console_lines, derivation_lines, semaphore_lines}
use Rattle.nova_recording.specs.Recordings.{RecordingView, at_turn}
use Rattle.nova_recording.specs.Wants.{next_by}
use Rattle.nova_recording.specs.declared.preview.Access.{Access}
use Rattle.nova_recording.specs.declared.wants.Next.{Next}
use Rattle.nova_model.specs.declared.context.Mark.{Mark}
use Rattle.nova_telling.specs.Slices.{slices_text}
use Rattle.nova_telling.specs.declared.reading.Reading.{Reading}
use Rattle.nova_telling.specs.declared.reading.Reading.TheVariants.{Place, Instruction, Contexts, Semaphores, Consoles, Delegations, Objects, Words, Frame, Events, Slices, Queue}

-- a number, with a space before it
abbrev pub number_text : ℕ → List ℕ
number_text n = codes " " ++ decimal n

-- the present turn, and how many the run has
abbrev pub place_line : ℕ → ℕ → List ℕ
place_line turn turns = codes "turn " ++ (decimal turn ++ (codes " of " ++ (decimal turns ++ line_feed)))

-- the instruction that is next: which context is about to execute it, in which domain, at which address
abbrev pub instruction_line : Option Next → List ℕ
instruction_line (Some next) = codes "next " ++ (decimal next.ec ++ (codes " " ++ (decimal next.pd ++ (codes " " ++ (decimal next.pc ++ line_feed)))))
instruction_line None = codes "next -\n"

-- the event of a turn, by how many were taken before it
abbrev pub event_line : ℕ → Event → List ℕ
event_line place e = codes "event " ++ (decimal place ++ (codes " " ++ (decimal e.cpu ++ (codes " " ++ (decimal e.sc ++ (codes " " ++ (decimal e.ec
    ++ (codes " " ++ (event_word e.kind ++ (codes " " ++ (decimal e.a ++ (codes " " ++ (decimal e.b ++ line_feed)))))))))))))

-- the events from one on, and those of them before another
abbrev pub events_from : List Event → ℕ → List Event
events_from events from = drop (min from (length events)) events

abbrev pub events_between : List Event → ℕ → ℕ → List Event
events_between events from to = take (min (to - from) (length (events_from events from))) (events_from events from)

abbrev pub event_after : ℕ → ℕ × Event → List ℕ
event_after from (i, e) = event_line (from + i) e

abbrev pub events_text : ℕ → List Event → List ℕ
events_text from events = flat_map (event_after from) (enumerate_from 0 events)

-- what an execution context waits for: the handler of its call or exit, or a semaphore
abbrev pub awaited : State → Option ℕ
awaited (Calling handler) = Some handler
awaited (Helping handler) = Some handler
awaited (Sending reason q0 q1 handler) = Some handler
awaited (Blocked sm) = Some sm
awaited other = None

-- the caller that it serves
abbrev pub caller_of : EcState → Option ℕ
caller_of x = option_map (λ (c : ℕ × Mark). c.0) x.caller

-- of an execution context its domain, its processor, its caller and what it waits for
abbrev pub context_line : ℕ → ℕ → ℕ → Option EcState → List ℕ
context_line id pd cpu (Some x) = codes "object " ++ (decimal id ++ (codes " " ++ (decimal pd ++ (codes " " ++ (decimal cpu ++ (codes " "
    ++ (parent_word (caller_of x) ++ (codes " " ++ (parent_word (awaited x.state) ++ line_feed)))))))))
context_line id pd cpu None = []

abbrev pub object_line : KernelState → ℕ × Object → List ℕ
object_line k (id, Ec pd cpu kind event) = context_line id pd cpu (context_at k id)
object_line k (id, other) = []

abbrev pub object_lines : KernelState → List ℕ
object_lines k = flat_map (object_line k) (enumerate_from 0 k.objects)

-- the message words of a thread
abbrev pub word_text : ℕ → List ℕ
word_text w = codes " " ++ hexadecimal 8 w

unfoldable pub words_text : List ℕ → List ℕ
words_text ws = flat_map (λ (i : ℕ). word_text (word ws i)) (range_with_len 0 128)

abbrev pub words_line : Option (List ℕ) → List ℕ
words_line (Some ws) = codes "words" ++ (words_text ws ++ line_feed)
words_line None = codes "words -\n"

-- the bytes of a frame
abbrev pub bytes_text : List ℕ → List ℕ
bytes_text bytes = flat_map (hexadecimal 2) bytes

abbrev pub frame_line : Option (List ℕ) → List ℕ
frame_line (Some bytes) = codes "bytes " ++ (bytes_text bytes ++ line_feed)
frame_line None = codes "bytes -\n"

-- the contexts that wait at a semaphore, in order
abbrev pub numbers_text : List ℕ → List ℕ
numbers_text ns = flat_map number_text ns

abbrev pub queue_line : List ℕ → List ℕ
queue_line ecs = codes "queue" ++ (numbers_text ecs ++ line_feed)

-- what a page leads to
abbrev pub page_line : Option (ℕ × ℕ) → List ℕ
page_line (Some (frame, rights)) = codes "page " ++ (decimal frame ++ (codes " " ++ (decimal rights ++ line_feed)))
page_line None = codes "page -\n"

-- a word as an instruction, as the assembler has it
abbrev pub code_line : Option Instr → List ℕ
code_line (Some i) = codes "code " ++ (printed i ++ line_feed)
code_line None = codes "code -\n"

-- what the next turn loads: the address of the first byte, how many bytes, and the frame and the offset there; no frame of message words
abbrev pub load_line : ℕ → ℕ → Option ℕ → List ℕ
load_line address width (Some frame) = codes "access load " ++ (decimal address ++ (codes " " ++ (decimal width ++ (codes " " ++ (decimal frame
    ++ (codes " " ++ (decimal (address % 4096) ++ line_feed)))))))
load_line address width None = codes "access load " ++ (decimal address ++ (codes " " ++ (decimal width ++ (codes " - " ++ (decimal (address % 4096) ++ line_feed)))))

-- or stores: behind it the number
abbrev pub store_line : ℕ → ℕ → Option ℕ → ℕ → List ℕ
store_line address width (Some frame) value = codes "access store " ++ (decimal address ++ (codes " " ++ (decimal width ++ (codes " " ++ (decimal frame
    ++ (codes " " ++ (decimal (address % 4096) ++ (codes " " ++ (decimal value ++ line_feed)))))))))
store_line address width None value = codes "access store " ++ (decimal address ++ (codes " " ++ (decimal width ++ (codes " - " ++ (decimal (address % 4096)
    ++ (codes " " ++ (decimal value ++ line_feed)))))))

abbrev pub line_by : Access → Option ℕ → List ℕ
line_by a None = load_line a.address a.width a.frame
line_by a (Some value) = store_line a.address a.width a.frame value

abbrev pub access_line : Option Access → List ℕ
access_line (Some a) = line_by a a.stored
access_line None = codes "access -\n"

-- what is read of a state, after `turn` of a run's turns
abbrev pub told : KernelState → List Event → ℕ → Reading → List ℕ
told k events turn Place = place_line turn (length events)
told k events turn Instruction = instruction_line (next_by k (slice_get events turn))
told k events turn Contexts = context_lines k
told k events turn Semaphores = semaphore_lines k
told k events turn Consoles = console_lines k
told k events turn Delegations = derivation_lines k
told k events turn Objects = object_lines k
told k events turn (Words ec) = words_line (entry (slice_get k.messages ec))
told k events turn (Frame frame) = frame_line (slice_get k.memory.ram frame)
told k events turn (Events from to) = events_text from (events_between events from to)
told k events turn (Slices from to) = slices_text from (events_between events from to)
told k events turn (Queue sm) = queue_line (semaphore k.semaphores sm).waiting

-- what is told at a turn of a run: of the state after the first entries of its order
abbrev pub told_at : RecordingView → Reading → List ℕ
told_at r reading = told (at_turn r.opening r.events r.turn) r.events r.turn reading
