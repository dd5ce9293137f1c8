use Rattle.std.proofs.Common.{◌≡◌, false}
use Rattle.std.specs.List.{list_any}
use Rattle.nova_scenario.specs.Occupied.{meets}
use Rattle.nova_scenario.proofs.Parts.{spread_with, meets_with}
use Rattle.nova_scenario.proofs.occupied.Occupied.add.Goals as goal

pub invariant_of-self : goal.invariant_of-self
invariant_of-self c =
    let free : list_any (meets c.args.start c.args.end) c.self.inside.ends.entries ≡ false = rw c.self.view_is c.requires in
    rw c.in_ok-insert.ensures.entries (spread_with c.args.start c.args.end c.if-start-end.true c.self.inside.ends.entries c.self.invariant free)

pub returns-in_ok-insert-clause-added : goal.returns-in_ok-insert-clause-added
returns-in_ok-insert-clause-added c = λ from to.
    let free : list_any (meets c.args.start c.args.end) c.self.inside.ends.entries ≡ false = rw c.self.view_is c.requires in
    rw (← c.self.view_is, c.in_ok-insert.ensures.entries) (meets_with c.args.start c.args.end c.if-start-end.true from to c.self.inside.ends.entries c.self.invariant free)
