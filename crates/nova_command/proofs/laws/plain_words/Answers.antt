use Rattle.std.proofs.Common.{ap, option_and_then}
use Rattle.nova_text.specs.Number.{number}
use Rattle.nova_command.specs.Command.{command, command_of}
use Rattle.nova_command.specs.Number.{number_within}
use Rattle.nova_command.proofs.LawLemmas.{given-name, given-names, given-limit, given-names-limit}
use Rattle.nova_command.proofs.laws.plain_words.Goals as goal

pub returns : goal.returns
unfolding command number_within number
returns c = record {
  name = λ word name p q. ap (option_and_then command_of) (given-name word name p q);
  names = λ word first second p q r. ap (option_and_then command_of) (given-names word first second p q r);
  limit = λ word name text p q r. ap (option_and_then command_of) (given-limit word name text p q r);
  names_limit = λ word first second text p q r s. ap (option_and_then command_of) (given-names-limit word first second text p q r s);
}
