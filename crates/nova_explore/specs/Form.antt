-- The form of the command line, and what words give to it.
use Rattle.std.specs.Prelude.{List, [], ◌∷◌, codes, Option, Some, fold}
use Rattle.clap.specs.Walk.{Row, Rule, first_of}
use Rattle.clap.specs.Simple.{App, new_app, new_rule, with_rule}
use Rattle.nova_command.specs.Parsing.{Text, given_by}

-- `--turns N`, one million where it is not given
abbrev pub turns_option : Rule
turns_option = record (new_rule (codes "turns")) { long = Some (codes "turns"); defaults = codes "1000000" ∷ [] }

-- `--states N`, 20,000 where it is not given
abbrev pub states_option : Rule
states_option = record (new_rule (codes "states")) { long = Some (codes "states"); defaults = codes "20000" ∷ [] }

-- the scenario and the word of the question
abbrev pub named : App
named = fold with_rule (new_app (codes "nova_explore")) (new_rule (codes "scenario") ∷ new_rule (codes "question") ∷ [])

-- up to four words more
abbrev pub worded : App
worded = fold with_rule named (new_rule (codes "first") ∷ new_rule (codes "second") ∷ new_rule (codes "third") ∷ new_rule (codes "fourth") ∷ [])

-- the same with the limits
abbrev pub form : App
form = with_rule (with_rule worded turns_option) states_option

-- what words give to each
pub record Given : Type 0 where
  pub scenario : Option Text
  pub question : Option Text
  pub first : Option Text
  pub second : Option Text
  pub third : Option Text
  pub fourth : Option Text
  pub turns : Option Text
  pub states : Option Text

abbrev pub given_in : List Row → Given
given_in rows = record {
  scenario = first_of (codes "scenario") rows;
  question = first_of (codes "question") rows;
  first = first_of (codes "first") rows;
  second = first_of (codes "second") rows;
  third = first_of (codes "third") rows;
  fourth = first_of (codes "fourth") rows;
  turns = first_of (codes "turns") rows;
  states = first_of (codes "states") rows;
}

-- what words give to the form, where the first of them is the program's name, or nothing
unfoldable pub given : List Text → Option Given
given = given_by given_in form
