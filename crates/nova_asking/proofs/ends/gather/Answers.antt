use Rattle.std.proofs.Common.{◌≡◌, [], List, subst, sym, take, arith}
use Rattle.std.proofs.lemmas.List.{length-map}
use Rattle.std.specs.List.{AllByRecursion}
use Rattle.nova_search.specs.Searches.{state_of, states_of}
use Rattle.nova_asking.specs.Answers.{AreCounted, AreDistinct, IsEnd, outcomes}
use Rattle.nova_asking.specs.declared.ends.End.{End}
use Rattle.nova_asking.proofs.Ended.{have_all, have_on}
use Rattle.nova_asking.proofs.Counted.{all_counted}
use Rattle.nova_asking.proofs.ends.gather.Goals as goal

pub loop-place-init : goal.loop-place-init
loop-place-init c =
    let none : c.new-ends.result.items ≡ [] = c.new-ends.ensures.items in
    record {
      lead = λ k limit first. subst (λ (l : List End). AllByRecursion (IsEnd k limit) l) (sym none) tt;
      have = λ d j less quiet. absurd (omega (arith, less));
      once = subst (λ (l : List End). AreDistinct (outcomes l)) (sym none) tt;
      counted = subst (λ (l : List End). AreCounted (take 0 (states_of c.args.found.now)) l) (sym none) tt;
    }

pub loop-place-preserved : goal.loop-place-preserved
loop-place-preserved c = record {
  lead = λ k limit first. c.in_ok-see.ensures.lead k limit first (c.loop-place.invariant.lead k limit first);
  have = have_on (states_of c.args.found.now) c.loop-place.place (outcomes c.loop-place.ends.items) (outcomes c.see.new.ends.items) c.loop-place.invariant.have
      c.in_ok-see.ensures.kept.outcomes c.in_ok-see.ensures.there;
  once = c.in_ok-see.ensures.kept.once c.loop-place.invariant.once;
  counted = c.in_ok-see.ensures.counted;
}

pub returns-clause-all : goal.returns-clause-all
returns-clause-all c =
    let long = length-map c.args.found.now state_of in
    let done = c.loop-place-test.false in
    have_all (states_of c.args.found.now) c.loop-place.place (outcomes c.loop-place.ends.items) c.loop-place.invariant.have (omega (arith, long, done))

pub returns-clause-counted : goal.returns-clause-counted
returns-clause-counted c =
    let long = length-map c.args.found.now state_of in
    let done = c.loop-place-test.false in
    all_counted (states_of c.args.found.now) c.loop-place.place c.loop-place.ends.items (omega (arith, long, done)) c.loop-place.invariant.counted
