use Rattle.std.proofs.Common.{rules, refl}
use Rattle.nova_asking.specs.declared.ends.End.{End}
use Rattle.nova_asking.proofs.Ended.{counted_outcomes, raised}
use Rattle.nova_asking.proofs.ends.count.Goals as goal

pub returns-clause-outcomes : goal.returns-clause-outcomes
returns-clause-outcomes c =
    let e : End = record { outcome = c.index_mut.result.now.outcome; order = c.index_mut.result.now.order; states = c.saturating_add.result } in
    counted_outcomes c.args.ends.now.items c.args.at c.index_mut.result.now e c.requires (search rules) refl

pub returns-clause-more : goal.returns-clause-more
returns-clause-more c = λ d room.
    let x : End = record { outcome = c.index_mut.result.now.outcome; order = c.index_mut.result.now.order; states = c.index_mut.result.now.states } in
    let y : End = record { outcome = c.index.result.now.outcome; order = c.index.result.now.order; states = c.index.result.now.states } in
    let e : End = record { outcome = c.index_mut.result.now.outcome; order = c.index_mut.result.now.order; states = c.saturating_add.result } in
    raised c.args.ends.now.items c.args.at d x y e c.saturating_add.result c.requires (search rules) (search rules) (search rules) refl room
