use Rattle.std.proofs.Common.{rules, ◌≡◌, ◌<◌, ◌-◌, ◌+◌, ◌∙◌, ℕ, suc, length, refl, ap, sym, subst, arith}
use Rattle.std.specs.Prelude.{true, slice_index}
use Rattle.nova_model.specs.Semaphores.{has}
use Rattle.nova_sem.specs.Links.{before, linked}
use Rattle.nova_sem.proofs.Leaving.{before_found, before_next, chain_head, chain_more, chain_whole}
use Rattle.nova_sem.proofs.sems.before.Goals as goal

pub loop-init : goal.loop-init
loop-init c = record {
  same = refl;
  within = λ x is. c.requires.within x (chain_whole c.args.links.now c.args.first c.args.waiting x c.requires.some is);
}

pub bounds-links-at : goal.bounds-links-at
bounds-links-at c = c.loop.invariant.within c.loop.at (chain_head c.args.links.now c.loop.at (c.args.waiting - c.loop.counter))

pub loop-preserved : goal.loop-preserved
loop-preserved c =
    let links = c.args.links.now in
    let at = c.loop.at in
    let off : ¬ (slice_index links at ≡ c.args.ec) = search rules in
    let low : c.loop.counter < c.args.waiting = search rules in
    let one : c.args.waiting - c.loop.counter ≡ suc (c.args.waiting - (c.loop.counter + 1)) = omega (arith, low) in record {
      same = before_next links at c.args.ec (c.args.waiting - (c.loop.counter + 1)) off ∙ ap (before links at c.args.ec) (sym one) ∙ c.loop.invariant.same;
      within = λ x is. c.loop.invariant.within x
          (ap (λ (k : ℕ). has (linked links at (suc k)) x) one ∙ chain_more links at (c.args.waiting - (c.loop.counter + 1)) x is);
    }
