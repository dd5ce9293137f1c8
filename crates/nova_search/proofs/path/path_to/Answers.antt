use Rattle.std.proofs.Common.{rules, ◌≡◌, ◌<◌, ◌++◌, [], ◌∷◌, ℕ, List, reverse, slice_index_or, subst, sym, arith}
use Rattle.nova_search.specs.Searches.{IsWay, state_at}
use Rattle.nova_search.proofs.Links.{goes_back, way_back, way_here}
use Rattle.nova_search.proofs.path.path_to.Goals as goal

pub loop-at-init : goal.loop-at-init
loop-at-init c = record { there = c.requires.place; way = way_here c.args.found.now c.args.place _ c.requires.place c.new-path.ensures.items }

pub loop-at-preserved : goal.loop-at-preserved
loop-at-preserved c =
    let f = c.index-found-at.result in
    let is : f ≡ slice_index_or c.args.found.now c.loop-at.at f = search rules in
    let first : 0 < c.loop-at.at = search rules in
    let there = c.loop-at.invariant.there in
    let back = goes_back c.args.found.now c.loop-at.at f first there is c.requires.linked in
    let pushed : c.push.new.self.items ≡ c.loop-at.path.items ++ f.cpu ∷ [] = search rules in
    record {
      there = omega (arith, back, there);
      way = λ e d. subst (λ (o : List ℕ). IsWay (state_at c.args.found.now f.from d) (state_at c.args.found.now c.args.place e) (reverse o)) (sym pushed)
          (way_back c.args.found.now c.loop-at.at f (state_at c.args.found.now c.args.place e) c.loop-at.path.items first there is c.requires.linked
          (λ x. c.loop-at.invariant.way e x) d);
    }

pub returns : goal.returns
returns c = λ d.
    let done = c.loop-at-test.false in
    let at : c.loop-at.at ≡ 0 = omega (arith, done) in
    subst (λ (o : List ℕ). IsWay (state_at c.args.found.now 0 d) (state_at c.args.found.now c.args.place d) o) (sym c.reverse.ensures.items)
    (subst (λ (n : ℕ). IsWay (state_at c.args.found.now n d) (state_at c.args.found.now c.args.place d) (reverse c.loop-at.path.items)) at (c.loop-at.invariant.way d d))
