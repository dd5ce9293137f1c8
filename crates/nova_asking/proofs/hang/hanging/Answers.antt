use Rattle.std.proofs.Common.{rules, ◌≡◌, ℕ, List, false, true, length, subst, refl, Option, Some, None}
use Rattle.std.specs.Prelude.{nat_lt}
use Rattle.std.proofs.lemmas.Result.{IfOk-weaker}
use Rattle.nova_search.specs.Searches.{state_at}
use Rattle.nova_search.specs.declared.found.Found.{Found}
use Rattle.nova_asking.specs.Hangs.{is_aim}
use Rattle.nova_asking.specs.Least.{IsSeen}
use Rattle.nova_asking.specs.Searched.{IsUnfound}
use Rattle.nova_asking.specs.declared.extent.Extent.{Extent}
use Rattle.nova_asking.specs.declared.extent.Extent.TheVariants.{Within, Cut}
use Rattle.nova_asking.specs.declared.question.Question.{Question}
use Rattle.nova_asking.specs.declared.question.Question.TheVariants.{Hangs}
use Rattle.nova_asking.proofs.Hung.{cut_short, hung_found, is_more, is_most, none_hangs, too_late}
use Rattle.nova_asking.proofs.hang.hanging.Goals as goal

pub returns-then-not-explored : goal.returns-then-not-explored
returns-then-not-explored c = λ k most given drawn.
    let e = c.args.explored.now in
    let found = c.as_slice-found.result.now in
    let same : found ≡ e.found.items = search rules in
    let over : e.is_over ≡ false = search rules in
    IfOk-weaker c.unfound.result _ _
    (λ x is. cut_short c.args.turns c.args.aim k c.args.limit most e (record { itself = c.alikeness_is_an_equivalence.ensures.reflexive; contexts = c.alike_states_answer_alike.ensures.contexts })
    given drawn found same x over (subst (λ (q : Question). IsUnfound q found Cut x) c.requires.is is)) c.unfound.ensures

pub returns-in_default : goal.returns-in_default
returns-in_default c = λ k most given drawn.
    let e = c.args.explored.now in
    let found = c.as_slice-found.result.now in
    let same : found ≡ e.found.items = search rules in
    let over : e.is_over ≡ true = search rules in
    let none : c.in_ok-place.field-0 ≡ None = search rules in
    IfOk-weaker c.unfound-in_default.result _ _
    (λ x is. none_hangs c.args.turns c.args.aim k c.args.limit most e (record { itself = c.alikeness_is_an_equivalence.ensures.reflexive; contexts = c.alike_states_answer_alike.ensures.contexts })
    given drawn found same x over
    (subst (λ (o : Option ℕ). IsSeen c.args.turns c.args.aim (is_aim c.args.aim) e o) none c.in_ok-place.ensures)
    (subst (λ (y : Extent). IsUnfound (Hangs c.args.turns c.args.aim) found y x) c.of.ensures (subst (λ (q : Question). IsUnfound q found c.of.result x) c.requires.is is)))
    c.unfound-in_default.ensures

pub returns-then-late : goal.returns-then-late
returns-then-late c = λ k most given drawn.
    let e = c.args.explored.now in
    let found = c.as_slice-found.result.now in
    let place = c.in-Some.place in
    let same : found ≡ e.found.items = search rules in
    let over : e.is_over ≡ true = search rules in
    let some : c.in_ok-place.field-0 ≡ Some place = search rules in
    let seen : IsSeen c.args.turns c.args.aim (is_aim c.args.aim) e (Some place) =
    subst (λ (o : Option ℕ). IsSeen c.args.turns c.args.aim (is_aim c.args.aim) e o) some c.in_ok-place.ensures in
    let so : c.in_ok-late.late ≡ true = search rules in
    IfOk-weaker c.unfound-then-late.result _ _
    (λ x told. too_late c.args.turns c.args.aim k c.args.limit most e (record { itself = c.alikeness_is_an_equivalence.ensures.reflexive; contexts = c.alike_states_answer_alike.ensures.contexts })
    given drawn found same x place over seen
    (λ d. is_more c.args.limit (state_at e.found.items place d).turns c.in_ok-late.late so
    (subst (λ (l : List Found). c.in_ok-late.late ≡ nat_lt c.args.limit (state_at l place d).turns) same (c.in_ok-late.ensures d)))
    (subst (λ (q : Question). IsUnfound q found Within x) c.requires.is told))
    c.unfound-then-late.ensures

pub returns : goal.returns
returns c = λ k most given drawn.
    let e = c.args.explored.now in
    let found = c.as_slice-found.result.now in
    let place = c.in-Some.place in
    let same : found ≡ e.found.items = search rules in
    let over : e.is_over ≡ true = search rules in
    let some : c.in_ok-place.field-0 ≡ Some place = search rules in
    let seen : IsSeen c.args.turns c.args.aim (is_aim c.args.aim) e (Some place) =
    subst (λ (o : Option ℕ). IsSeen c.args.turns c.args.aim (is_aim c.args.aim) e o) some c.in_ok-place.ensures in
    let early : c.in_ok-late.late ≡ false = search rules in
    hung_found c.args.turns c.args.aim k c.args.limit most e (record { itself = c.alikeness_is_an_equivalence.ensures.reflexive; contexts = c.alike_states_answer_alike.ensures.contexts })
    given drawn found same place (length found) c.in_ok-order.order.blocks over seen
    (λ d. is_most c.args.limit (state_at e.found.items place d).turns c.in_ok-late.late early
    (subst (λ (l : List Found). c.in_ok-late.late ≡ nat_lt c.args.limit (state_at l place d).turns) same (c.in_ok-late.ensures d)))
    refl c.in_ok-order.ensures.order c.in_ok-order.ensures.way
