-- What a line asks: its words, the verb, and the command.
use Rattle.std.specs.Prelude.{ℕ, List, [], ◌∷◌, codes, Option, Some, None}
use Rattle.std.specs.List.{find}
use Rattle.std.specs.Option.{option_and_then}
use Rattle.std.specs.Str.{bytes_eq}
use Rattle.nova_text.specs.Token.{texts_of, tokens}
pub use Rattle.nova_text.specs.Number.{number_of, numbers_of}
use Rattle.nova_debug.specs.declared.verb.Verb.{Verb}
use Rattle.nova_debug.specs.declared.verb.Verb.TheVariants as verb
use Rattle.nova_debug.specs.declared.command.Command.{Command}
use Rattle.nova_debug.specs.declared.command.Command.TheVariants.{Tell, Access, Code, Page, Go, Run, Last, Break, By, Loads, Stores, Clear, Keep}
use Rattle.nova_telling.specs.declared.reading.Reading.TheVariants.{Place, Instruction, Contexts, Semaphores, Consoles, Delegations, Objects, Words, Frame, Events, Slices, Queue}

-- the words of a line, before its comment
abbrev pub words_of : List ℕ → List (List ℕ)
words_of line = texts_of (tokens 0 line)

-- the verbs
abbrev pub verbs : List Verb
verbs =
    verb.At
    ∷ verb.Next
    ∷ verb.Contexts
    ∷ verb.Semaphores
    ∷ verb.Consoles
    ∷ verb.Delegations
    ∷ verb.Objects
    ∷ verb.Access
    ∷ verb.Clear
    ∷ verb.Words
    ∷ verb.Frame
    ∷ verb.Queue
    ∷ verb.Code
    ∷ verb.Go
    ∷ verb.Run
    ∷ verb.Last
    ∷ verb.By
    ∷ verb.Keep
    ∷ verb.Events
    ∷ verb.Slices
    ∷ verb.Page
    ∷ verb.Break
    ∷ verb.Loads
    ∷ verb.Stores
    ∷ []

abbrev pub verb_text : Verb → List ℕ
verb_text verb.At = codes "at"
verb_text verb.Next = codes "next"
verb_text verb.Contexts = codes "contexts"
verb_text verb.Semaphores = codes "semaphores"
verb_text verb.Consoles = codes "consoles"
verb_text verb.Delegations = codes "delegations"
verb_text verb.Objects = codes "objects"
verb_text verb.Access = codes "access"
verb_text verb.Clear = codes "clear"
verb_text verb.Words = codes "words"
verb_text verb.Frame = codes "frame"
verb_text verb.Queue = codes "queue"
verb_text verb.Code = codes "code"
verb_text verb.Go = codes "go"
verb_text verb.Run = codes "run"
verb_text verb.Last = codes "last"
verb_text verb.By = codes "by"
verb_text verb.Keep = codes "keep"
verb_text verb.Events = codes "events"
verb_text verb.Slices = codes "slices"
verb_text verb.Page = codes "page"
verb_text verb.Break = codes "break"
verb_text verb.Loads = codes "loads"
verb_text verb.Stores = codes "stores"

abbrev pub verb_named : List ℕ → Option Verb
verb_named word = find (λ v. bytes_eq (verb_text v) word) verbs

-- the command of a verb with its numbers
abbrev pub command : Verb → List ℕ → Option Command
command verb.At [] = Some (Tell Place)
command verb.Next [] = Some (Tell Instruction)
command verb.Contexts [] = Some (Tell Contexts)
command verb.Semaphores [] = Some (Tell Semaphores)
command verb.Consoles [] = Some (Tell Consoles)
command verb.Delegations [] = Some (Tell Delegations)
command verb.Objects [] = Some (Tell Objects)
command verb.Access [] = Some Access
command verb.Clear [] = Some Clear
command verb.Words (ec ∷ []) = Some (Tell (Words ec))
command verb.Frame (frame ∷ []) = Some (Tell (Frame frame))
command verb.Queue (sm ∷ []) = Some (Tell (Queue sm))
command verb.Code (word ∷ []) = Some (Code word)
command verb.Go (to ∷ []) = Some (Go to)
command verb.Run (to ∷ []) = Some (Run to)
command verb.Last (to ∷ []) = Some (Last to)
command verb.By (ec ∷ []) = Some (By ec)
command verb.Keep (bytes ∷ []) = Some (Keep bytes)
command verb.Events (from ∷ to ∷ []) = Some (Tell (Events from to))
command verb.Slices (from ∷ to ∷ []) = Some (Tell (Slices from to))
command verb.Page (pd ∷ page ∷ []) = Some (Page pd page)
command verb.Break (pd ∷ address ∷ []) = Some (Break pd address)
command verb.Loads (frame ∷ first ∷ last ∷ []) = Some (Loads frame first last)
command verb.Stores (frame ∷ first ∷ last ∷ []) = Some (Stores frame first last)
command v numbers = None

-- the command that words ask: the first is its verb, the others are its numbers
abbrev pub command_of : List (List ℕ) → Option Command
command_of [] = None
command_of (word ∷ words) = option_and_then (λ v. option_and_then (command v) (numbers_of words)) (verb_named word)
