use Rattle.std.proofs.Common.{rules, ◌≡◌, ◌∙◌, Option, Some, ℕ, subst, sym}
use Rattle.nova_search.specs.Searches.{states_of}
use Rattle.nova_asking.specs.Searched.{IsMissing}
use Rattle.nova_asking.proofs.Told.{missing_by, none_named}
use Rattle.nova_asking.proofs.answer.absent_in.Goals as goal

pub returns-in_default : goal.returns-in_default
returns-in_default c = none_named c.args.question.now (states_of c.args.found.now) c.named.result c.named.ensures (search rules)

pub returns : goal.returns
returns c =
    let some : c.named.result ≡ Some c.in-Some.ec = search rules in
    subst (λ (o : Option ℕ). IsMissing c.args.question.now (states_of c.args.found.now) o) (sym c.unless_at.ensures)
    (missing_by c.args.question.now c.in-Some.ec (states_of c.args.found.now) c.in_ok-place.place (sym c.named.ensures ∙ some) c.in_ok-place.ensures)
