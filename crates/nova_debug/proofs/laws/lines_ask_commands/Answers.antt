use Rattle.std.proofs.Common.{refl}
use Rattle.nova_text.specs.Number.{number}
use Rattle.nova_text.specs.Token.{tokens}
use Rattle.nova_debug.proofs.laws.lines_ask_commands.Goals as goal

pub returns : goal.returns
unfolding tokens number
returns c = record {
  place = refl;
  next = refl;
  events = refl;
  go = refl;
  instruction = refl;
  stores = refl;
  access = refl;
  keep = refl;
  empty = refl;
  unknown = refl;
  few = refl;
  many = refl;
  large = refl;
}
