use Rattle.std.proofs.Common.{rules, ◌≡◌, ◌<◌, ◌∙◌, ap, arith, ℕ, suc, List, ◌++◌, ◌∷◌, [], ◌+◌, ◌-◌}
use Rattle.std.specs.Prelude.{slice_index}
use Rattle.nova_sem.specs.Links.{linked}
use Rattle.nova_sem.proofs.Ordered.{one_told, is_left, left_after}
use Rattle.nova_sem.proofs.queue.in_order.Goals as goal

pub bounds-links-at : goal.bounds-links-at
bounds-links-at c =
    let low : c.loop-told._told < c.args.waiting = search rules in
    let one : c.args.waiting - c.loop-told._told ≡ suc (c.args.waiting - (c.loop-told._told + 1)) = omega (arith, low) in
    c.loop-told.invariant.within c.loop-told.at
    (is_left c.args.links.now c.loop-told.at (c.args.waiting - c.loop-told._told) (c.args.waiting - (c.loop-told._told + 1)) one)

pub loop-told-preserved : goal.loop-told-preserved
loop-told-preserved c =
    let links = c.args.links.now in
    let at = c.loop-told.at in
    let next = c.args.waiting - (c.loop-told._told + 1) in
    let told : c.push.new.self.items ≡ c.loop-told.queue.items ++ at ∷ [] = search rules in
    let low : c.loop-told._told < c.args.waiting = search rules in
    let one : c.args.waiting - c.loop-told._told ≡ suc (c.args.waiting - (c.loop-told._told + 1)) = omega (arith, low) in record {
      same = ap (λ (items : List ℕ). items ++ linked links (slice_index links at) next) told
          ∙ one_told links c.loop-told.queue.items at (c.args.waiting - c.loop-told._told) next one ∙ c.loop-told.invariant.same;
      within = λ x is. c.loop-told.invariant.within x (left_after links at (c.args.waiting - c.loop-told._told) next x one is);
    }
