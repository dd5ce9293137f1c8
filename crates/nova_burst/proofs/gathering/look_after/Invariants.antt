use Rattle.std.proofs.Common.{◌≡◌}
use Rattle.nova_burst.specs.Gathered.{HaveGrown}
use Rattle.nova_burst.proofs.gathering.look_after.Given as goal

abbrev pub invariant-loop-i : goal.invariant-loop-i
invariant-loop-i l = record {
  kept : l.kernel ≡ l.fn.kernel;
  grown : HaveGrown l.fn.kernel.state l.pd l.most l.fn.copies l.copies;
}
