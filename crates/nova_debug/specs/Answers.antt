-- What comes of a line: at which turn the session is then, what is looked for, and what is answered.
use Rattle.std.specs.Prelude.{◌≡◌, ◌⊎◌, ℕ, ◌≤◌, Bool, true, false, List, [], ◌∷◌, ◌++◌, codes, decimal, length, max, min, Option, Some, None, option_map, slice_get}
use Rattle.nova_model.specs.Delegations.{reach}
use Rattle.nova_model.specs.State.{KernelState}
use Rattle.nova_guest.specs.declared.page.Page.{Page}
use Rattle.nova_recording.specs.Copies.{sizes_of}
use Rattle.nova_recording.specs.Recordings.{IsAt, IsSameRun, RecordingView, at_turn}
use Rattle.nova_recording.specs.Wants.{IsFirst, IsLast, IsOnTheWay, access_by}
use Rattle.nova_recording.specs.declared.preview.Access.{Access as Accessed}
use Rattle.nova_recording.specs.declared.wants.Search.{Search}
use Rattle.nova_recording.specs.declared.wants.Want.{Want}
use Rattle.nova_recording.specs.declared.wants.Want.TheVariants as want
use Rattle.nova_recording.specs.declared.wants.Watch.{Watch}
use Rattle.nova_report.specs.Words.{line_feed}
use Rattle.nova_telling.specs.Told.{access_line, code_line, page_line, told_at}
use Rattle.rv_model.specs.Codes.{instr_of}
use Rattle.nova_debug.specs.declared.command.Command.{Command}
use Rattle.nova_debug.specs.declared.command.Command.TheVariants.{Tell, Access, Code, Page as PageOf, Go, Run, Last, Break, By, Loads, Stores, Clear, Keep}
use Rattle.nova_debug.specs.declared.serving.Session.{Session}
use Rattle.nova_debug.specs.declared.serving.Reply.{Reply}
use Rattle.nova_debug.specs.declared.serving.Reply.TheVariants.{No, Done, Refused}

-- a search's end
abbrev pub stop_line : Bool → List ℕ
stop_line true = codes "stop\n"
stop_line false = codes "none\n"

abbrev pub last_line : Option ℕ → List ℕ
last_line (Some turn) = codes "last " ++ (decimal turn ++ line_feed)
last_line None = codes "none\n"

-- the turn to which a command goes, and a search for that: no further than the end, and a search not back
abbrev pub turn_of : RecordingView → ℕ → ℕ
turn_of r to = min to (length r.events)

abbrev pub end_of : RecordingView → ℕ → ℕ
end_of r to = max (turn_of r to) r.turn

-- the session stays, and something is told
pub record HasTold (old new : RecordingView) (text before after : List ℕ) : Type 0 where
  pub stayed : new ≡ old
  pub written : after ≡ before ++ text

-- the session stays, and nothing is told
pub record HasStayed (old new : RecordingView) (before after : List ℕ) : Type 0 where
  pub stayed : new ≡ old
  pub written : after ≡ before

-- the kept states are let go, and those kept from here on take no more than `bytes`; nothing is told
pub record HasBounded (old new : RecordingView) (bytes : ℕ) (before after : List ℕ) : Type 0 where
  pub stayed : new ≡ record old { kept = []; most = bytes }
  pub written : after ≡ before

-- one went to a turn, and nothing is told
pub record HasGone (old new : RecordingView) (to : ℕ) (before after : List ℕ) : Type 0 where
  pub turn : new.turn ≡ turn_of old to
  pub written : after ≡ before

-- one went on to the first turn that is looked for, or to the end of the search, where none is; and what was written says which
pub record HasRun (old new : RecordingView) (search : Search) (to : ℕ) (before after : List ℕ) : Type 0 where
  pub found : Bool
  pub first : IsFirst old.opening old.events search old.turn (end_of old to) new.turn found
  pub written : after ≡ before ++ stop_line found

-- one went on, and what was written says which was the last turn that is looked for
pub record HasPassed (old new : RecordingView) (search : Search) (to : ℕ) (before after : List ℕ) : Type 0 where
  pub found : Option ℕ
  pub last : IsLast old.opening old.events search old.turn (end_of old to) found
  pub turn : new.turn ≡ end_of old to
  pub written : after ≡ before ++ last_line found

-- what a page of a domain leads to at the present turn: a frame, and the bits of the rights there
abbrev pub page_at : KernelState → ℕ → ℕ → Option (ℕ × ℕ)
page_at k pd page = option_map (λ (p : Page). (p.frame, p.rights.0)) (reach k.delegations.list pd page)

-- what the next turn loads or stores, by the state of `run` at the present turn
abbrev pub accessed_at : RecordingView → Option Accessed
accessed_at r = access_by (at_turn r.opening r.events r.turn) (slice_get r.events r.turn)

-- what a command comes to: at which turn the session is after it, and what is told
abbrev pub IsAnswered : Command → Search → RecordingView → RecordingView → List ℕ → List ℕ → Type 0
IsAnswered (Tell reading) search old new before after = HasTold old new (told_at old reading) before after
IsAnswered Access search old new before after = HasTold old new (access_line (accessed_at old)) before after
IsAnswered (Code word) search old new before after = HasTold old new (code_line (instr_of word)) before after
IsAnswered (PageOf pd page) search old new before after = HasTold old new (page_line (page_at (at_turn old.opening old.events old.turn) pd page)) before after
IsAnswered (Go to) search old new before after = HasGone old new to before after
IsAnswered (Run to) search old new before after = HasRun old new search to before after
IsAnswered (Last to) search old new before after = HasPassed old new search to before after
IsAnswered (Keep bytes) search old new before after = HasBounded old new bytes before after
IsAnswered other search old new before after = HasStayed old new before after

-- what is looked for after it
abbrev pub wants_after : Command → List Want → List Want
wants_after (Break pd address) wants = wants ++ want.At pd address ∷ []
wants_after (By ec) wants = wants ++ want.By ec ∷ []
wants_after Clear wants = []
wants_after other wants = wants

abbrev pub bytes_of : ℕ → ℕ → ℕ → Bool → Bool → Watch
bytes_of frame first last loads stores = record { frame = frame; first = first; last = last; loads = loads; stores = stores }

abbrev pub watches_after : Command → List Watch → List Watch
watches_after (Loads frame first last) watches = watches ++ bytes_of frame first last true false ∷ []
watches_after (Stores frame first last) watches = watches ++ bytes_of frame first last false true ∷ []
watches_after Clear watches = []
watches_after other watches = watches

-- the most bytes of kept states after it
abbrev pub most_after : Command → ℕ → ℕ
most_after (Keep bytes) most = bytes
most_after other most = most

-- the session is at a turn of the same run, in the state after as many entries of its order, and the kept states take no more than they may
pub record IsHere (old new : RecordingView) (told : ℕ) : Type 0 where
  pub same : IsSameRun old new
  pub turn : told ≡ new.turn
  pub state : IsAt new.opening new.events new.turn new.state
  pub within : sizes_of new.kept ≤ new.most

-- a command was done
pub record IsDone (command : Command) (old new : Session) (turn : ℕ) (before after : List ℕ) : Type 0 where
  pub answered : IsAnswered command old.search old.recording new.recording before after
  pub wants : new.search.wants.items ≡ wants_after command old.search.wants.items
  pub watches : new.search.watches.items ≡ watches_after command old.search.watches.items
  pub most : new.recording.most ≡ most_after command old.recording.most
  pub here : IsHere old.recording new.recording turn

-- at which turn the session is after a refusal of memory: a search on its way, past no turn that is looked for; `go` at the same turn or not after
-- its own; else at the same turn
abbrev pub IsStopped : Command → Search → RecordingView → RecordingView → Type 0
IsStopped (Run to) search old new = IsOnTheWay old.opening old.events search old.turn (end_of old to) new.turn
IsStopped (Last to) search old new = (old.turn ≤ new.turn) × (new.turn ≤ end_of old to)
IsStopped (Go to) search old new = (new.turn ≡ old.turn) ⊎ (new.turn ≤ turn_of old to)
IsStopped other search old new = new.turn ≡ old.turn

-- memory was refused: what is looked for stays
pub record IsRefused (command : Command) (old new : Session) (turn : ℕ) : Type 0 where
  pub stopped : IsStopped command old.search old.recording new.recording
  pub wants : new.search.wants.items ≡ old.search.wants.items
  pub watches : new.search.watches.items ≡ old.search.watches.items
  pub most : new.recording.most ≡ most_after command old.recording.most
  pub here : IsHere old.recording new.recording turn

-- What is replied to a line, by what it asks: where it is no command, all stays.
abbrev pub IsReplied : Option Command → Reply → Session → Session → List ℕ → List ℕ → Type 0
IsReplied None No old new before after = (new ≡ old) × (after ≡ before)
IsReplied (Some command) (Done turn) old new before after = IsDone command old new turn before after
IsReplied (Some command) (Refused turn) old new before after = IsRefused command old new turn
IsReplied asked reply old new before after = ⊥

-- the lines of a reply, of which what is told comes first
abbrev pub reply_text : Reply → List ℕ → List ℕ
reply_text No text = codes "no\n"
reply_text (Done turn) text = text ++ (codes "ok " ++ (decimal turn ++ line_feed))
reply_text (Refused turn) text = codes "memory " ++ (decimal turn ++ line_feed)
