-- The commands.
use Rattle.std.specs.Prelude.{ℕ, List, ◌∷◌, codes, Option, Some, None, option_and_then}
use Rattle.nova_command.specs.Form.{Given, given}
use Rattle.nova_command.specs.Limit.{limit_of, size_of, IsLimit, IsSize}
use Rattle.nova_command.specs.Parsing.{Text}
use Rattle.nova_command.specs.Verb.{verb_of}
use Rattle.nova_command.specs.declared.verb.Verb.{Verb}
use Rattle.nova_command.specs.declared.verb.Verb.TheVariants as verb
use Rattle.nova_command.specs.declared.command.Command.{Command}
use Rattle.nova_command.specs.declared.command.Command.TheVariants.{Run, Solo, Check, Bench, Twin}

-- a bench of a number of domains
abbrev pub benched : Option ℕ → ℕ → Option Command
benched (Some number) limit = Some (Bench number limit)
benched None limit = None

-- the commands, each by its verb, its names and the limit
abbrev pub asked : Option Verb → Option Text → Option Text → Option ℕ → Option Command
asked (Some verb.Run) (Some scenario) (Some order) (Some limit) = Some (Run scenario order limit)
asked (Some verb.Solo) (Some scenario) order (Some limit) = Some (Solo scenario order limit)
asked (Some verb.Check) (Some scenario) None (Some limit) = Some (Check scenario)
asked (Some verb.Bench) (Some number) None (Some limit) = benched (size_of number) limit
asked (Some verb.Twin) (Some subjects) None (Some limit) = Some (Twin subjects limit)
asked _ _ _ _ = None

-- the command that was given
abbrev pub command_of : Given → Option Command
command_of g =
    asked (option_and_then verb_of g.command) g.first g.second (option_and_then limit_of g.limit)

-- the command that the words after the program's name are, or nothing
unfoldable pub command : List Text → Option Command
command words = option_and_then command_of (given (codes "nova" ∷ words))

-- the numbers of a command are within their bounds
abbrev pub HasBounds : Command → Type 0
HasBounds (Run scenario order limit) = IsLimit limit
HasBounds (Solo scenario order limit) = IsLimit limit
HasBounds (Check scenario) = Unit {0}
HasBounds (Bench number limit) = IsSize number × IsLimit limit
HasBounds (Twin subjects limit) = IsLimit limit
