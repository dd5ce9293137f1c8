use Rattle.std.proofs.Common.{rules, ◌≡◌, ◌+◌, ◌++◌, [], ◌∷◌, ℕ, List, arith, refl, subst, sym}
use Rattle.std.proofs.lemmas.List.{length-map}
use Rattle.std.specs.Prelude.{Contains, Some, take}
use Rattle.std.specs.List.{AllByRecursion}
use Rattle.nova_search.specs.Searches.{state_at, state_of, states_of}
use Rattle.nova_asking.specs.Answers.{AreCounted, IsEnd, outcomes}
use Rattle.nova_asking.specs.Outcomes.{outcome}
use Rattle.nova_asking.specs.Searched.{IsPlaceOf, KeepEnds}
use Rattle.nova_asking.specs.declared.ends.End.{End}
use Rattle.nova_asking.proofs.Ended.{at_place, none_by, not_before, pushed_kept, pushed_lead, pushed_there, some_by, there_by}
use Rattle.nova_asking.proofs.Counted.{new_counts, seen_again}
use Rattle.nova_asking.proofs.Told.{end_by}
use Rattle.nova_asking.proofs.ends.enter.Goals as goal

pub returns-in-Some-clause-lead : goal.returns-in-Some-clause-lead
returns-in-Some-clause-lead c = λ k limit first. c.count.ensures.lead k limit

pub returns-in-Some-clause-there : goal.returns-in-Some-clause-there
returns-in-Some-clause-there c = λ d.
    let some : c.place_of.result ≡ Some c.in-Some.at = search rules in
    let is : IsPlaceOf c.args.ends.now.items c.in_ok-outcome.outcome.items (Some c.in-Some.at) =
    some_by c.args.ends.now.items _ c.in_ok-outcome.outcome.items _ c.place_of.result c.in-Some.at c.place_of.ensures some (search rules) (search rules) in
    subst (λ (l : List (List ℕ)). Contains l (outcome (state_at c.args.found.now c.args.place d))) (sym c.count.ensures.outcomes)
    (at_place c.args.found.now c.args.place (outcomes c.args.ends.now.items) c.in_ok-outcome.outcome.items c.in_ok-outcome.ensures
    (there_by c.args.ends.now.items c.in-Some.at c.in_ok-outcome.outcome.items is) d)

pub returns-in-Some-clause-counted : goal.returns-in-Some-clause-counted
returns-in-Some-clause-counted c =
    let some : c.place_of.result ≡ Some c.in-Some.at = search rules in
    let is : IsPlaceOf c.args.ends.now.items c.in_ok-outcome.outcome.items (Some c.in-Some.at) =
    some_by c.args.ends.now.items _ c.in_ok-outcome.outcome.items _ c.place_of.result c.in-Some.at c.place_of.ensures some (search rules) (search rules) in
    let k = c.args.opening.now in
    let states = states_of c.args.found.now in
    let few = c.requires.few in
    let there = c.requires.place in
    let long = length-map c.args.found.now state_of in
    seen_again states c.args.place k c.args.ends.now.items c.count.new.ends.items c.in-Some.at c.in_ok-outcome.outcome.items (omega (arith, few, long)) (omega (arith, there, long))
    (c.requires.quiet k) (c.in_ok-outcome.ensures k) is.0 is.1 c.requires.once c.requires.counted c.count.ensures.more

pub returns-clause-counted : goal.returns-clause-counted
returns-clause-counted c =
    let e : End = record { outcome = c.in_ok-outcome.outcome; order = c.in_ok-order.order; states = 1 } in
    let pushed : c.push.new.self.items ≡ c.args.ends.now.items ++ e ∷ [] = search rules in
    let k = c.args.opening.now in
    let states = states_of c.args.found.now in
    let none = none_by c.args.ends.now.items _ c.in_ok-outcome.outcome.items _ c.place_of.result c.place_of.ensures (search rules) (search rules) (search rules) in
    subst (λ (l : List End). AreCounted (take (c.args.place + 1) states) l) (sym pushed)
    (new_counts states c.args.place k c.args.ends.now.items e (let there = c.requires.place in let long = length-map c.args.found.now state_of in omega (arith, there, long))
    (c.requires.quiet k) (c.in_ok-outcome.ensures k) none
    (not_before states c.args.place (outcomes c.args.ends.now.items) c.in_ok-outcome.outcome.items c.requires.have none) refl c.requires.counted)

pub returns-clause-kept : goal.returns-clause-kept
returns-clause-kept c =
    let e : End = record { outcome = c.in_ok-outcome.outcome; order = c.in_ok-order.order; states = 1 } in
    let pushed : c.push.new.self.items ≡ c.args.ends.now.items ++ e ∷ [] = search rules in
    subst (λ (l : List End). KeepEnds c.args.ends.now.items l) (sym pushed)
    (pushed_kept c.args.ends.now.items e
    (none_by c.args.ends.now.items _ c.in_ok-outcome.outcome.items _ c.place_of.result c.place_of.ensures (search rules) (search rules) (search rules)))

pub returns-clause-lead : goal.returns-clause-lead
returns-clause-lead c = λ k limit first each.
    let e : End = record { outcome = c.in_ok-outcome.outcome; order = c.in_ok-order.order; states = 1 } in
    let pushed : c.push.new.self.items ≡ c.args.ends.now.items ++ e ∷ [] = search rules in
    let by = end_by k limit c.args.found.now c.args.place _ c.in_ok-outcome.outcome.items
    c.alike_states_are_as_one.ensures.quiet c.alike_states_answer_alike.ensures.outcomes c.requires.place first c.in_ok-order.ensures.way c.requires.quiet c.in_ok-outcome.ensures
    (not_before (states_of c.args.found.now) c.args.place (outcomes c.args.ends.now.items) c.in_ok-outcome.outcome.items c.requires.have
    (none_by c.args.ends.now.items _ c.in_ok-outcome.outcome.items _ c.place_of.result c.place_of.ensures (search rules) (search rules) (search rules))) in
    let ended : IsEnd k limit e = record { order = c.in_ok-order.ensures.order; ends = by } in
    subst (λ (l : List End). AllByRecursion (IsEnd k limit) l) (sym pushed) (pushed_lead k limit c.args.ends.now.items e ended each)

pub returns-clause-there : goal.returns-clause-there
returns-clause-there c = λ d.
    let e : End = record { outcome = c.in_ok-outcome.outcome; order = c.in_ok-order.order; states = 1 } in
    let pushed : c.push.new.self.items ≡ c.args.ends.now.items ++ e ∷ [] = search rules in
    subst (λ (l : List End). Contains (outcomes l) (outcome (state_at c.args.found.now c.args.place d))) (sym pushed)
    (at_place c.args.found.now c.args.place (outcomes (c.args.ends.now.items ++ e ∷ [])) c.in_ok-outcome.outcome.items c.in_ok-outcome.ensures
    (pushed_there c.args.ends.now.items e c.in_ok-outcome.outcome.items refl) d)
