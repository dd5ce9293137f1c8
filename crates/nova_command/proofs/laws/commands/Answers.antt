use Rattle.std.proofs.Common.{refl}
use Rattle.clap.proofs.OnLiterals.{clap_on_literals}
use Rattle.nova_text.specs.Number.{number}
use Rattle.nova_command.specs.Command.{command}
use Rattle.nova_command.specs.Form.{given}
use Rattle.nova_command.specs.Number.{number_within}
use Rattle.nova_command.specs.Parsing.{rows_given}
use Rattle.nova_command.proofs.laws.commands.Goals as goal

pub returns : goal.returns
unfolding command given rows_given number_within number clap_on_literals
returns c = record { run = refl; run_limit = refl; bench = refl; bench_limit = refl; bench_most = refl; twin = refl; twin_limit = refl; solo = refl; order = refl; check = refl; limit = refl; order_limit = refl; limit_between = refl; zeros = refl; hexadecimal = refl; option_first = refl; most = refl; check_limit = refl; dashes = refl }
