use Rattle.std.proofs.Common.{rules, arith}
use Rattle.nova_io.specs.Taken.{Nothing}
use Rattle.nova_io.proofs.Appends.{with_appended-more}
use Rattle.nova_io.proofs.Counts.{stay_again, others_stay_again}
use Rattle.nova_io.proofs.Offers.{Went-more, Went-whole}
use Rattle.nova_io.proofs.whole.append_all.Goals as goal

pub loop-done-init : goal.loop-done-init
loop-done-init g c = record {
  in_bytes = search rules;
  taken = search rules;
  went = Nothing;
  fetches = search rules;
  others = search rules;
  appends = search rules;
}

pub loop-done-preserved : goal.loop-done-preserved
loop-done-preserved g c = record {
  in_bytes = search rules;
  taken = with_appended-more _ _ _ c.args.name.now c.args.bytes.now c.loop-done.done _ c.loop-done.invariant.taken c.in_ok-done.ensures.taken;
  went = Went-more _ c.args.bytes.now _ _ _ c.loop-done.done _ c.loop-done.invariant.went (search rules) c.in_ok-done.ensures.took;
  fetches = stay_again _ _ _ c.loop-done.invariant.fetches c.append.ensures.fetches;
  others = others_stay_again _ c.args.name.now _ _ _ c.loop-done.invariant.others c.append.ensures.others;
  appends = search rules;
}

pub returns-clause-went : goal.returns-clause-went
returns-clause-went g c = Went-whole _ _ _ c.loop-done.done _ c.loop-done.invariant.went (omega (arith, c.loop-done.invariant.in_bytes, c.loop-done-test.false))
