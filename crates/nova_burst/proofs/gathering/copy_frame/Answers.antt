use Rattle.std.proofs.Common.{rules, refl}
use Rattle.nova_burst.proofs.gathering.copy_frame.Goals as goal

pub returns : goal.returns
returns c = record {
  bytes = c.frame.result.now;
  page = record { frame = c.args.frame; bytes = c.new-bytes.result; stores = 0 };
  at = c.frame.ensures.bytes;
  its = refl;
  holds = search rules;
  stores = refl;
  is = c.in_ok-add.ensures;
}
