use Rattle.std.proofs.lemmas.Str.{IsUtf8-from_ascii}
use Rattle.nova_naming.proofs.Numbers.{name_ascii}
use Rattle.nova_naming.proofs.statement.name_of.Goals as goal

pub unreachable-requires : goal.unreachable-requires
unreachable-requires c = c.in-Err.ensures.cases.0 (IsUtf8-from_ascii c.args.word.now (name_ascii c.args.word.now c.requires))
