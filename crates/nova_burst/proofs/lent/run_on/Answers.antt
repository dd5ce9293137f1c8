use Rattle.std.proofs.Common.{rules, ◌≡◌, ◌≤◌, ◌+◌, ℕ, List, subst, sym}
use Rattle.std.specs.List.{All}
use Rattle.law_leases.specs.declared.steps.Page.{Page}
use Rattle.nova_burst.specs.Copies.{HasFewStores}
use Rattle.nova_burst.proofs.lent.run_on.Goals as goal

pub returns-clause-counted : goal.returns-clause-counted
returns-clause-counted c =
    let count : ℕ = c.args.steps.now.count in
    let pages : c.new-3.result.pages ≡ c.args.steps.now.pages.items = search rules in
    let few : HasFewStores count c.new-3.result =
    subst (λ (ps : List Page). All (λ (p : Page). p.stores ≤ count) ps) (sym pages) (λ k d within. (c.requires.counted.0 k d within).1) in
    let more : HasFewStores (count + c.run-ran.result) c.run-ran.new.self.copies = c.run-ran.ensures.stores count few in (
      λ k d within. (
        c.into_parts.ensures.whole k d within,
        subst (λ (ps : List Page). All (λ (p : Page). p.stores ≤ count + c.run-ran.result) ps) (sym c.into_parts.ensures.pages) more k d within,
      ),
      c.into_parts.ensures.once,
    )
