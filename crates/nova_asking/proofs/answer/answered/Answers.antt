use Rattle.std.proofs.Common.{rules, ◌≡◌, Some, None, length, refl}
use Rattle.std.proofs.lemmas.Result.{IfOk-weaker}
use Rattle.nova_asking.proofs.Answered.{told_found, unfound_by}
use Rattle.nova_asking.proofs.answer.answered.Goals as goal

pub returns-in_default : goal.returns-in_default
returns-in_default c = λ k limit most given.
    let e = c.args.explored.now in
    let same : c.as_slice-found.result.now ≡ e.found.items = search rules in
    let none : e.goal ≡ None = search rules in
    IfOk-weaker c.unfound.result _ _
    (λ a is. unfound_by (record { itself = c.alikeness_is_an_equivalence.ensures.reflexive; contexts = c.alike_states_answer_alike.ensures.contexts }) c.args.question.now k limit most e c.as_slice-found.result.now given c.requires.is
    (λ s t. c.alike_states_answer_alike.ensures.questions s t c.args.question.now c.requires.is) same a c.of-extent.result none c.of-extent.ensures is) c.unfound.ensures

pub returns : goal.returns
returns c = λ k limit most given.
    let e = c.args.explored.now in
    let same : c.as_slice-found.result.now ≡ e.found.items = search rules in
    let some : e.goal ≡ Some c.in-Some.place = search rules in
    told_found (record { itself = c.alikeness_is_an_equivalence.ensures.reflexive; contexts = c.alike_states_answer_alike.ensures.contexts }) c.args.question.now k limit most e
    c.as_slice-found.result.now given c.requires.is (λ s t. c.alike_states_answer_alike.ensures.questions s t c.args.question.now c.requires.is) same c.in-Some.place (length c.as_slice-found.result.now) c.in_ok-order.order.blocks some refl
    c.in_ok-order.ensures.order c.in_ok-order.ensures.way
