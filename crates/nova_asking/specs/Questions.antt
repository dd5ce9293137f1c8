-- What may be asked of a state.
use Rattle.std.specs.Prelude.{ℕ, ◌+◌, ◌≤◌, ◌==◌, ◌&&◌, Bool, true, false, not, List, drop, filter, map, length, nat_eq, slice_get, is_some, Option, Some, None}
use Rattle.std.specs.List.{list_any, range_with_len, starts_with}
use Rattle.byteorder.specs.Endian.{little_number}
use Rattle.nova_model.specs.Choice.{is_quiet}
use Rattle.nova_model.specs.State.{KernelState, context_at}
use Rattle.nova_model.specs.declared.context.EcState.{EcState}
use Rattle.nova_model.specs.declared.context.State.{State}
use Rattle.nova_model.specs.declared.context.State.TheVariants.{Blocked, Dead}
use Rattle.nova_model.specs.declared.log.LogByte.{LogByte}
use Rattle.nova_asking.specs.Hangs.{comes_within, is_aim}
use Rattle.nova_asking.specs.Locations.{some_is_at, two_are_at}
use Rattle.nova_asking.specs.Stores.{some_stores}
use Rattle.nova_asking.specs.declared.aim.Aim.{Aim}
use Rattle.nova_asking.specs.declared.aim.Aim.TheVariants as aim
use Rattle.nova_asking.specs.declared.question.Question.{Question}
use Rattle.nova_asking.specs.declared.question.Question.TheVariants as question

abbrev pub is_on : ℕ → LogByte → Bool
is_on console b = b.console == console

-- the bytes that a console shows
abbrev pub shown : ℕ → List LogByte → List ℕ
shown console log = map (λ (b : LogByte). b.value) (filter (is_on console) log)

-- a question on a word asks for one that lies in its frame
abbrev pub IsApt : Question → Type 0
IsApt (question.Word frame offset value) = offset + 4 ≤ 4096
IsApt other = Unit {0}

-- and it is one that a kernel in the state answers without going on
abbrev pub IsOfState : Question → Type 0
IsOfState (question.Hangs turns a) = ⊥
IsOfState q = IsApt q

-- whether a RAM frame has this word at an offset, the lowest byte first
abbrev pub has_word : Option (List ℕ) → ℕ → ℕ → Bool
has_word (Some bytes) offset value = little_number 4 (drop offset bytes) == value
has_word None offset value = false

abbrev pub is_waiting : State → Bool
is_waiting (Blocked sm) = true
is_waiting other = false

abbrev pub is_over : State → Bool
is_over Dead = true
is_over other = false

-- whether an execution context is there, and waits at a semaphore; is dead; is not dead
abbrev pub waits : Option EcState → Bool
waits (Some x) = is_waiting x.state
waits None = false

abbrev pub is_dead : Option EcState → Bool
is_dead (Some x) = is_over x.state
is_dead None = false

abbrev pub is_left : Option EcState → Bool
is_left (Some x) = not (is_over x.state)
is_left None = false

-- an execution context of this number is there, and not dead; the end of a run is always aimed at
abbrev pub is_sought : Aim → KernelState → Bool
is_sought aim.End k = true
is_sought (aim.Act ec) k = is_left (context_at k ec)

-- no order of at most `turns` turns more leads on to what is aimed at
abbrev pub hangs : ℕ → Aim → KernelState → Bool
hangs turns a k = is_sought a k && not (comes_within (is_aim a) k.cpus turns k)

-- an execution context of this number is there
abbrev pub has_context : ℕ → KernelState → Bool
has_context ec k = is_some (context_at k ec)

abbrev pub named_by : Aim → Option ℕ
named_by aim.End = None
named_by (aim.Act ec) = Some ec

-- the execution context that a question names
abbrev pub named : Question → Option ℕ
named (question.DiesOf ec) = Some ec
named (question.DiesBut ec) = Some ec
named (question.Stuck ec) = Some ec
named (question.Hangs turns a) = named_by a
named other = None

-- how many turns a question looks ahead, behind those of the orders that it is about
abbrev pub ahead : Question → ℕ
ahead (question.Hangs turns a) = turns
ahead other = 0

-- whether one of another number is dead
abbrev pub is_other_dead : ℕ → KernelState → ℕ → Bool
is_other_dead ec k n = not (n == ec) && is_dead (context_at k n)

abbrev pub some_other_is_dead : ℕ → KernelState → Bool
some_other_is_dead ec k = list_any (is_other_dead ec k) (range_with_len 0 (length k.objects))

-- whether an execution context of some number is so
abbrev pub some_context : (Option EcState → Bool) → KernelState → Bool
some_context test k = list_any (λ (n : ℕ). test (context_at k n)) (range_with_len 0 (length k.objects))

-- whether a state is what is asked for: a console shows these bytes first, a word of memory has this value, a processor is about to execute the instruction at a location,
-- two are, one is about to store to bytes, the run has ended while an execution context waits at a semaphore, one is dead, this one is, one but this is, the run has ended while
-- this one is not dead, it hangs, the run has ended
unfoldable pub is_so : Question → KernelState → Bool
is_so (question.Console console bytes) k = starts_with nat_eq (shown console k.memory.log) bytes
is_so (question.Word frame offset value) k = has_word (slice_get k.memory.ram frame) offset value
is_so (question.At location) k = some_is_at k location
is_so (question.AtBoth first second) k = two_are_at k first second
is_so (question.Stores frame first last) k = some_stores k frame first last
is_so question.Blocked k = is_quiet k && some_context waits k
is_so question.Dies k = some_context is_dead k
is_so (question.DiesOf ec) k = is_dead (context_at k ec)
is_so (question.DiesBut ec) k = some_other_is_dead ec k
is_so (question.Stuck ec) k = is_quiet k && is_left (context_at k ec)
is_so (question.Hangs turns a) k = hangs turns a k
is_so question.Ends k = is_quiet k
