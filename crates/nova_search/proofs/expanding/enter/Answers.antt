use Rattle.std.proofs.Common.{rules, ◌≡◌, List, [], ◌∷◌, ◌++◌, ℕ, inr, length, subst, sym}
use Rattle.std.specs.Prelude.{IfSome, Option, Some}
use Rattle.nova_search.specs.Merged.{IsOneAt}
use Rattle.nova_search.specs.Searches.{states_of}
use Rattle.nova_search.specs.declared.found.Found.{Found}
use Rattle.nova_search.proofs.Links.{one_at_end}
use Rattle.nova_search.proofs.expanding.enter.Goals as goal

pub returns-in-Some-clause-there : goal.returns-in-Some-clause-there
returns-in-Some-clause-there c =
    let some : c.find.result ≡ Some c.in-Some.place = search rules in
    let same : c.deref.result.now ≡ c.args.found.now.items = search rules in
    subst (λ (l : List Found). IsOneAt c.args.merging (states_of l) c.in-Some.place c.args.vertex) same
    (subst (λ (o : Option ℕ). IfSome o (λ (p : ℕ). IsOneAt c.args.merging (states_of c.deref.result.now) p c.args.vertex)) some c.find.ensures.one)

pub returns-clause-there : goal.returns-clause-there
returns-clause-there c =
    let pushed : c.push-2.new.self.items ≡ c.args.found.now.items ++ c.found_after-one.result ∷ [] = search rules in
    let end : c.len-place.result ≡ length c.args.found.now.items = search rules in
    subst (λ (n : ℕ). IsOneAt c.args.merging (states_of c.push-2.new.self.items) n c.args.vertex) (sym end)
    (one_at_end c.args.merging c.args.found.now.items c.push-2.new.self.items c.found_after-one.result c.args.vertex pushed c.found_after-one.ensures.state
    (c.states_are_one.ensures.reflexive c.args.merging c.args.vertex))

pub returns-clause-more : goal.returns-clause-more
returns-clause-more c =
    let pushed : c.push-2.new.self.items ≡ c.args.found.now.items ++ c.found_after-one.result ∷ [] = search rules in
    inr (c.found_after-one.result, c.found_after-one.ensures, pushed)
