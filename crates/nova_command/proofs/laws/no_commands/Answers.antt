use Rattle.std.proofs.Common.{refl}
use Rattle.clap.proofs.OnLiterals.{clap_on_literals}
use Rattle.nova_text.specs.Number.{number}
use Rattle.nova_command.specs.Command.{command}
use Rattle.nova_command.specs.Form.{given}
use Rattle.nova_command.specs.Number.{number_within}
use Rattle.nova_command.specs.Parsing.{rows_given}
use Rattle.nova_command.proofs.laws.no_commands.Goals as goal

pub returns : goal.returns
unfolding command given rows_given number_within number clap_on_literals
returns c = record { no_words = refl; no_name = refl; three_names = refl; check_two_names = refl; run_one_name = refl; run_three_names = refl; bench_two_names = refl; bench_zero = refl; bench_too_large = refl; bench_name = refl; twin_no_name = refl; twin_two_names = refl; unknown = refl; zero = refl; too_large = refl; no_number = refl; no_limit = refl; twice = refl; unknown_option = refl; help = refl; short_help = refl; help_word = refl; version = refl }
