-- What the answer of a reader says.
use Rattle.std.specs.Prelude.{◌≡◌, ◌≢◌, ℕ, List, codes, Option, Some, None, Result, Ok, Err}
use Rattle.std.specs.declared.io.ErrorKind.{ErrorKind}
use Rattle.std.specs.declared.io.ErrorKind.TheVariants.{InvalidData}
use Rattle.clap.specs.Values.{kind_of}
use Rattle.clap.specs.declared.error.Error.{Error}
use Rattle.clap.specs.declared.error.kind.ErrorKind.TheVariants.{OutOfMemory}
use Rattle.nova_command.specs.declared.fault.CommandFault.{CommandFault}
use Rattle.nova_command.specs.declared.fault.CommandFault.TheVariants.{Usage, Memory}

-- the view of what was read is what is there; Usage comes where nothing is, and Memory says nothing
abbrev pub AnswersBy : {T V : Type 0} → (T → V) → Option V → Result T CommandFault → Type 0
AnswersBy view there (Ok read) = there ≡ Some (view read)
AnswersBy view there (Err Usage) = there ≡ None
AnswersBy view there (Err Memory) = Unit {0}

-- what was read is what is there
abbrev pub Answers : {T : Type 0} → Option T → Result T CommandFault → Type 0
Answers there result = AnswersBy (λ read. read) there result

-- a parse that did not want memory failed by its words
abbrev pub IsFaultOf : Error → CommandFault → Type 0
IsFaultOf error Usage = kind_of error ≢ OutOfMemory
IsFaultOf error Memory = Unit {0}

-- the words could not be read: a word is no text, or memory was refused
abbrev pub of_words : ErrorKind → CommandFault
of_words InvalidData = Usage
of_words _ = Memory

-- what comes of each fault
abbrev pub by_fault : {E : Type 0} → E → E → CommandFault → E
by_fault usage memory Usage = usage
by_fault usage memory Memory = memory

-- the text of a fault
abbrev pub message_of : CommandFault → List ℕ
message_of Usage = codes "usage: nova run|solo|check|bench|twin NAME [ORDER] [--limit N]"
message_of Memory = codes "out of memory"
