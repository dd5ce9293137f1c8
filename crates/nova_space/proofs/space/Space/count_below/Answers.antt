use Rattle.std.proofs.Common.{rules, ◌≡◌, ◌∙◌, ap, sym, subst, List, nat_lt, length, filter}
use Rattle.std.proofs.lemmas.List.Sorted.{IsPartitionPoint-from_clause}
use Rattle.nova_range.specs.declared.index.Entry.{Entry}
use Rattle.nova_range.specs.Indices.{IsRising}
use Rattle.nova_space.specs.Cached.{is_below}
use Rattle.nova_space.proofs.Bounds.{counted, parted_below}
use Rattle.nova_space.proofs.space.Space.count_below.Goals as goal

pub returns-clause-count : goal.returns-clause-count
returns-clause-count c =
    let items = c.deref.result.now in
    let seen : c.args.self.now.entries ≡ items = search rules in
    let inside : c.self.inside.items.items ≡ items = search rules in
    let rising = subst IsRising inside c.self.invariant.0.rising in
    let point = IsPartitionPoint-from_clause (λ (e : Entry). nat_lt e.range.base c.args.base) items c.partition_point.result c.partition_point.ensures.partitioned
    (parted_below c.args.base items rising) (λ a r q k. search rules) in
    counted (is_below c.args.base) items c.partition_point.result c.partition_point.ensures.bound point ∙ ap (λ (es : List Entry). length (filter (is_below c.args.base) es)) (sym seen)
