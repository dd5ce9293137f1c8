use Rattle.std.proofs.Common.{rules, ◌≡◌, ◌+◌, ℕ, false, refl, subst}
use Rattle.nova_search.specs.declared.merging.Merging.TheVariants.{Same}
use Rattle.nova_asking.specs.Least.{AreDrawn}
use Rattle.nova_asking.specs.Searched.{IsSearch}
use Rattle.nova_asking.proofs.Told.{searched}
use Rattle.nova_asking.proofs.hang.judge_hang.Goals as goal

pub returns : goal.returns
returns c =
    let k = c.args.opening.now in
    let e = c.in_ok-explored.explored in
    let same : c.from.result ≡ c.args.turns = search rules in
    let given : IsSearch Same (λ _. false) k (c.args.limit + c.from.result) c.args.most e =
    searched Same (λ _. false) k (c.args.limit + c.from.result) c.args.most e (c.in_ok-explored.ensures.same refl) c.in_ok-explored.ensures.reached c.in_ok-explored.ensures.nearest c.in_ok-explored.ensures.goal
    c.in_ok-explored.ensures.within c.in_ok-explored.ensures.all c.in_ok-explored.ensures.more c.in_ok-explored.ensures.beyond c.in_ok-explored.ensures.first c.in_ok-explored.ensures.linked
    c.in_ok-explored.ensures.own c.in_ok-explored.ensures.few in
    let drawn : AreDrawn k (c.args.limit + c.from.result) e =
    record { edges = c.in_ok-explored.ensures.edges refl; ahead = c.in_ok-explored.ensures.ahead refl; tried = c.in_ok-explored.ensures.tried refl } in
    c.hanging-answer.ensures k c.args.most (subst (λ (n : ℕ). IsSearch Same (λ _. false) k (c.args.limit + n) c.args.most e) same given)
    (subst (λ (n : ℕ). AreDrawn k (c.args.limit + n) e) same drawn)

pub hanging-answer-requires-clause-edges : goal.hanging-answer-requires-clause-edges
hanging-answer-requires-clause-edges c = c.in_ok-explored.ensures.edges refl

pub hanging-answer-requires-clause-ahead : goal.hanging-answer-requires-clause-ahead
hanging-answer-requires-clause-ahead c = c.in_ok-explored.ensures.ahead refl
