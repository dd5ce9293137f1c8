use Rattle.std.proofs.Common.{rules, arith}
use Rattle.nova_io.specs.Taken.{Nothing}
use Rattle.nova_io.proofs.Appends.{append_known-more}
use Rattle.nova_io.proofs.Offers.{Went-more, Went-whole}
use Rattle.nova_io.proofs.whole.write_all.Goals as goal

pub loop-done-init : goal.loop-done-init
loop-done-init g c = record {
  in_bytes = search rules;
  taken = search rules;
  went = Nothing;
  counts = search rules;
}

pub loop-done-preserved : goal.loop-done-preserved
loop-done-preserved g c = record {
  in_bytes = search rules;
  taken = append_known-more _ _ _ c.args.bytes.now c.loop-done.done _ c.loop-done.invariant.taken c.in_ok-done.ensures.taken;
  went = Went-more _ c.args.bytes.now _ _ _ c.loop-done.done _ c.loop-done.invariant.went (search rules) c.in_ok-done.ensures.took;
  counts = search rules;
}

pub returns-clause-went : goal.returns-clause-went
returns-clause-went g c = Went-whole _ _ _ c.loop-done.done _ c.loop-done.invariant.went (omega (arith, c.loop-done.invariant.in_bytes, c.loop-done-test.false))
