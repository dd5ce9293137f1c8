use Rattle.std.proofs.Common.{refl}
use Rattle.nova_text.specs.Bytes.{has_forbidden}
use Rattle.nova_scenario.specs.Scenario.{scenario}
use Rattle.nova_text.specs.Line.{line_texts, lines}
use Rattle.nova_text.specs.Number.{number}
use Rattle.nova_text.specs.Token.{tokens}
use Rattle.law_texts.proofs.rows.settings_by_their_columns.Goals as goal

pub returns-clause-cpus : goal.returns-clause-cpus
unfolding has_forbidden number tokens
returns-clause-cpus c = refl

pub returns-clause-ram : goal.returns-clause-ram
unfolding has_forbidden number tokens
returns-clause-ram c = refl

pub returns-clause-consoles : goal.returns-clause-consoles
unfolding has_forbidden number tokens
returns-clause-consoles c = refl

pub returns-clause-root : goal.returns-clause-root
unfolding has_forbidden number tokens
returns-clause-root c = refl

pub returns-clause-source : goal.returns-clause-source
unfolding has_forbidden number tokens
returns-clause-source c = refl

pub returns-clause-alarms : goal.returns-clause-alarms
unfolding scenario lines line_texts has_forbidden number tokens
returns-clause-alarms c = refl
