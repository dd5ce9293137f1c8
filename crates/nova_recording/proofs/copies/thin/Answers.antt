use Rattle.std.proofs.Common.{rules}
use Rattle.nova_recording.proofs.Copied.{all_among, swapped_among, taken_among}
use Rattle.nova_recording.proofs.copies.thin.Goals as goal

pub loop-i-init : goal.loop-i-init
loop-i-init c = record { among = all_among c.args.kept.now.items; length = search rules }

pub loop-i-preserved : goal.loop-i-preserved
loop-i-preserved c = record {
  among = swapped_among c.args.kept.now.items c.loop-i.kept.items c.swap.new.self.items _ _ c.loop-i.invariant.among c.swap.ensures.items (search rules) (search rules);
  length = search rules;
}

pub returns-clause-among : goal.returns-clause-among
returns-clause-among c = taken_among c.args.kept.now.items c.loop-i.kept.items c.truncate.new.self.items _ c.loop-i.invariant.among c.truncate.ensures.items
