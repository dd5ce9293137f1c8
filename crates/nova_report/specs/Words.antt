-- The words of a report, each as its text.
use Rattle.std.specs.Prelude.{ℕ, zero, suc, ◌/◌, ◌%◌, Bool, true, false, List, [], ◌∷◌, ◌++◌, slice_index, codes, decimal, Option, Some, None}
use Rattle.nova_model.specs.declared.event.EventKind.{EventKind}
use Rattle.nova_model.specs.declared.event.EventKind.TheVariants.{Step, Raise, Answer, Begin, Help, Sent, Died, Abort, Made, Skip, Xlat, Ended, Gone, Late, Irq, Tick}
use Rattle.nova_objects.specs.declared.object.EcKind.{EcKind}
use Rattle.nova_objects.specs.declared.object.EcKind.TheVariants.{Local, Global, Vcpu}
use Rattle.nova_model.specs.declared.context.State.{State}
use Rattle.nova_model.specs.declared.context.State.TheVariants.{Fresh, Ready, Parked, Calling, Helping, Exiting, Sending, Granting, Replying, Revoking, Blocked, Dead}
use Rattle.nova_range.specs.declared.range.Kind.{Kind}
use Rattle.nova_range.specs.declared.range.Kind.TheVariants.{Mem, Obj}

abbrev pub line_feed : List ℕ
line_feed = 10 ∷ []

-- the lower-case hexadecimal digit of a number below 16
abbrev pub digit : ℕ → ℕ
digit = slice_index (codes "0123456789abcdef")

-- the last `width` hexadecimal digits of a number, the most significant first
unfoldable pub hexadecimal : ℕ → ℕ → List ℕ
hexadecimal zero n = []
hexadecimal (suc width) n = hexadecimal width (n / 16) ++ digit (n % 16) ∷ []

abbrev pub quiet_word : Bool → List ℕ
quiet_word true = codes "quiet"
quiet_word false = codes "open"

abbrev pub event_word : EventKind → List ℕ
event_word Step = codes "step"
event_word Raise = codes "raise"
event_word Answer = codes "answer"
event_word Begin = codes "begin"
event_word Help = codes "help"
event_word Sent = codes "sent"
event_word Died = codes "died"
event_word Abort = codes "abort"
event_word Made = codes "made"
event_word Skip = codes "skip"
event_word Xlat = codes "xlat"
event_word Ended = codes "ended"
event_word Gone = codes "gone"
event_word Late = codes "late"
event_word Irq = codes "irq"
event_word Tick = codes "tick"

abbrev pub context_word : EcKind → List ℕ
context_word Local = codes "local"
context_word Global = codes "global"
context_word Vcpu = codes "vcpu"

abbrev pub state_word : State → List ℕ
state_word Fresh = codes "fresh"
state_word Ready = codes "ready"
state_word Parked = codes "parked"
state_word (Calling handler) = codes "calling"
state_word (Helping handler) = codes "helping"
state_word (Exiting reason q0 q1) = codes "exiting"
state_word (Sending reason q0 q1 handler) = codes "sending"
state_word (Granting new) = codes "granting"
state_word Replying = codes "replying"
state_word (Revoking range own) = codes "revoking"
state_word (Blocked sm) = codes "blocked"
state_word Dead = codes "dead"

abbrev pub space_word : Kind → List ℕ
space_word Mem = codes "mem"
space_word Obj = codes "obj"

-- the number of a parent, or `-`
abbrev pub parent_word : Option ℕ → List ℕ
parent_word None = codes "-"
parent_word (Some id) = decimal id
