use Rattle.std.proofs.Common.{◌≡◌, ◌+◌, ◌-◌, ◌<◌, length, subst, arith, ℕ}
use Rattle.nova_search.specs.Searches.{states_of}
use Rattle.nova_search.proofs.Growth.{any_default}
use Rattle.nova_asking.specs.Least.{AreLeast}
use Rattle.nova_asking.proofs.Near.{all_passed, least_first, passed_by}
use Rattle.nova_asking.proofs.least.least_turns.Goals as goal

pub loop-left-init : goal.loop-left-init
loop-left-init g c = record {
  most = omega arith;
  least = least_first (g.G.Goal.met c.args.goal.now) (states_of c.args.found.now) c.args.edges.now (length c.args.edges.now) c.in_ok-least.least.items c.in_ok-least.ensures (omega arith);
}

pub loop-left-preserved : goal.loop-left-preserved
loop-left-preserved g c =
    let most = c.loop-left.invariant.most in
    let some = c.loop-left-test.true in
    let less : c.loop-left.left - 1 < length c.args.edges.now = omega (arith, most, some) in
    let next : c.loop-left.left ≡ (c.loop-left.left - 1) + 1 = omega (arith, some) in
    record {
      most = omega (arith, most);
      least = passed_by (g.G.Goal.met c.args.goal.now) (states_of c.args.found.now) c.args.edges.now (c.loop-left.left - 1) c.loop-left.least.items c.pass_on.new.least.items _
          c.requires.edges c.requires.ahead
          (subst (λ (n : ℕ). AreLeast (g.G.Goal.met c.args.goal.now) (states_of c.args.found.now) c.args.edges.now n c.loop-left.least.items) next c.loop-left.invariant.least)
          less c.pass_on.ensures (λ d. any_default c.args.edges.now (c.loop-left.left - 1) d _ less);
    }

pub returns : goal.returns
returns g c =
    let done = c.loop-left-test.false in
    all_passed (g.G.Goal.met c.args.goal.now) (states_of c.args.found.now) c.args.edges.now c.loop-left.left c.loop-left.least.items c.loop-left.invariant.least (omega (arith, done))
