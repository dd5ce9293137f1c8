-- The form of the command line, and what words give to it.
use Rattle.std.specs.Prelude.{List, codes, Option, Some}
use Rattle.clap.specs.Walk.{Row, Rule, first_of}
use Rattle.clap.specs.Simple.{App, new_app, new_rule, with_rule}
use Rattle.nova_command.specs.Parsing.{Text, given_by}

-- `--order ORDER`, `--at TURN`, `--until TURN`, `--policy POLICY` and `--flow TURN`
abbrev pub order_option : Rule
order_option = record (new_rule (codes "order")) { long = Some (codes "order") }

abbrev pub policy_option : Rule
policy_option = record (new_rule (codes "policy")) { long = Some (codes "policy") }

abbrev pub at_option : Rule
at_option = record (new_rule (codes "at")) { long = Some (codes "at") }

abbrev pub until_option : Rule
until_option = record (new_rule (codes "until")) { long = Some (codes "until") }

abbrev pub flow_option : Rule
flow_option = record (new_rule (codes "flow")) { long = Some (codes "flow") }

-- the name of the scenario, and the options
abbrev pub form : App
form = with_rule (with_rule (with_rule (with_rule (with_rule (with_rule (new_app (codes "nova_policy")) (new_rule (codes "scenario"))) order_option) at_option) until_option) policy_option) flow_option

-- what words give to each of the six
pub record Given : Type 0 where
  pub scenario : Option Text
  pub order : Option Text
  pub at : Option Text
  pub until : Option Text
  pub policy : Option Text
  pub flow : Option Text

abbrev pub given_in : List Row → Given
given_in rows = record {
  scenario = first_of (codes "scenario") rows;
  order = first_of (codes "order") rows;
  at = first_of (codes "at") rows;
  until = first_of (codes "until") rows;
  policy = first_of (codes "policy") rows;
  flow = first_of (codes "flow") rows;
}

-- what words give to the form, where the first of them is the program's name, or nothing
unfoldable pub given : List Text → Option Given
given = given_by given_in form
