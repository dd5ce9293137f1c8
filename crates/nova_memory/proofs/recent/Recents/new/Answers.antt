use Rattle.std.proofs.Common.{arith}
use Rattle.nova_range.specs.Rights.{read_right, write_right}
use Rattle.nova_memory.proofs.recent.Recents.new.Goals as goal

pub returns-clause-none : goal.returns-clause-none
returns-clause-none c = λ list. record {
  fetched = λ low. absurd (omega (arith, low));
  loaded = c.none.ensures list c.args.pd read_right;
  stored = c.none-2.ensures list c.args.pd write_right;
  capability = tt;
}
