-- The form of the command line, and what words give to it.
use Rattle.std.specs.Prelude.{List, [], ◌∷◌, codes, Option, Some, fold}
use Rattle.clap.specs.Walk.{Row, Rule, first_of}
use Rattle.clap.specs.Simple.{App, new_app, new_rule, with_rule}
use Rattle.nova_command.specs.Parsing.{Text, given_by}

-- `--limit N`, one million where it is not given
abbrev pub limit_option : Rule
limit_option =
    record (new_rule (codes "limit")) { long = Some (codes "limit"); defaults = codes "1000000" ∷ [] }

-- the word of the command, and up to two names
abbrev pub named : App
named = fold with_rule (new_app (codes "nova")) (new_rule (codes "command") ∷ new_rule (codes "first") ∷ new_rule (codes "second") ∷ [])

-- the same with the limit
abbrev pub form : App
form = with_rule named limit_option

-- what words give to each of the four
pub record Given : Type 0 where
  pub command : Option Text
  pub first : Option Text
  pub second : Option Text
  pub limit : Option Text

abbrev pub given_in : List Row → Given
given_in rows = record {
  command = first_of (codes "command") rows;
  first = first_of (codes "first") rows;
  second = first_of (codes "second") rows;
  limit = first_of (codes "limit") rows;
}

-- what words give to the form, where the first of them is the program's name, or nothing
unfoldable pub given : List Text → Option Given
given = given_by given_in form
