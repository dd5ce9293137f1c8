use Rattle.std.proofs.Common.{◌∙◌, refl, subst}
use Rattle.nova_burst.specs.Gathered.{HaveGrown}
use Rattle.nova_kernel.specs.Views.{KernelView}
use Rattle.nova_burst.proofs.Grown.{and_then, as_before}
use Rattle.nova_burst.proofs.gathering.look_at_registers.Goals as goal

pub loop-i-init : goal.loop-i-init
loop-i-init c = record { kept = refl; grown = as_before c.args.kernel.now.state c.args.pd c.args.most c.args.copies.now }

pub loop-i-preserved : goal.loop-i-preserved
loop-i-preserved c = record {
  kept = c.look_at.ensures.kept ∙ c.loop-i.invariant.kept;
  grown = and_then c.args.kernel.now.state c.args.pd c.args.most c.args.copies.now c.loop-i.copies c.look_at.new.copies c.loop-i.invariant.grown
      (subst (λ (x : KernelView). HaveGrown x.state c.args.pd c.args.most c.loop-i.copies c.look_at.new.copies) c.loop-i.invariant.kept c.in_ok-look_at.ensures.grown.grown);
}
