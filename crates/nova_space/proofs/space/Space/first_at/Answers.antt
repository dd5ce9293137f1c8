use Rattle.std.proofs.Common.{rules, arith, ◌≡◌, ◌∙◌, ◌<◌, ◌-◌, ap, sym, subst, List, true, false, nat_le, slice_index_or}
use Rattle.std.specs.Prelude.{Some, slice_get}
use Rattle.std.specs.List.{find}
use Rattle.std.specs.Option.{option_copied}
use Rattle.std.proofs.lemmas.List.Sorted.{IsPartitionPoint-from_clause}
use Rattle.std.proofs.lemmas.Option.{gets}
use Rattle.nova_range.specs.declared.index.Entry.{Entry}
use Rattle.nova_range.specs.declared.range.Kind.TheVariants.{Mem}
use Rattle.nova_range.specs.Indices.{IsRising, ends_after}
use Rattle.nova_space.proofs.Bounds.{last_at, next_at, parted_upto}
use Rattle.nova_space.proofs.space.Space.first_at.Goals as goal
use Rattle.nova_space.proofs.space.Space.first_at.Goals.{then-begun-gt0+else-place-end, else-begun-gt0}

pub returns-then-place-end-clause-first : goal.returns-then-place-end-clause-first
returns-then-place-end-clause-first c =
    let items = c.deref.result.now in
    let begun = c.partition_point-begun.result in
    let last = c.index-last.result.now in
    let seen : c.args.self.now.entries ≡ items = search rules in
    let inside : c.self.inside.items.items ≡ items = search rules in
    let some : 0 < begun = search rules in
    let is : slice_index_or items (begun - 1) last ≡ last = search rules in
    let ends : ends_after c.args.place last ≡ true = search rules in
    let rising = subst IsRising inside c.self.invariant.0.rising in
    let point = IsPartitionPoint-from_clause (λ (e : Entry). nat_le e.range.base c.args.place) items begun c.partition_point-begun.ensures.partitioned
    (parted_upto c.args.place items rising) (λ a r q k. search rules) in
    let found = last_at c.args.place items begun last some rising point c.partition_point-begun.ensures.bound (ap (ends_after c.args.place) is ∙ ends) in
    ap (λ (e : Entry). Some e) (sym is) ∙ sym found ∙ ap (find (ends_after c.args.place)) (sym seen)

pub returns-clause-first : goal.returns-clause-first
returns-clause-first c =
    let items = c.deref.result.now in
    let begun = c.partition_point-begun.result in
    let looked : option_copied c.get.result ≡ slice_get c.deref-2.result.now begun = let look = c.get.ensures.lookup in grind (arith, gets, look) in
    let again : c.deref-2.result.now ≡ items = search rules in
    let gives : c.copied.result ≡ slice_get items begun = c.copied.ensures ∙ looked ∙ ap (λ (es : List Entry). slice_get es begun) again in
    let seen : c.args.self.now.entries ≡ items = search rules in
    let inside : c.self.inside.items.items ≡ items = search rules in
    let rising = subst IsRising inside c.self.invariant.0.rising in
    let point = IsPartitionPoint-from_clause (λ (e : Entry). nat_le e.range.base c.args.place) items begun c.partition_point-begun.ensures.partitioned
    (parted_upto c.args.place items rising) (λ a r q k. search rules) in
    let bound = c.partition_point-begun.ensures.bound in
    let found : find (ends_after c.args.place) items ≡ slice_get items begun = elim c.if-begun-gt0.branch [
      | then-begun-gt0+else-place-end w ↦ (let last = w.index-last.result.now in
          let is : slice_index_or items (begun - 1) last ≡ last = search rules in
          let ends : ends_after c.args.place last ≡ false = search rules in
          next_at c.args.place items begun last rising point bound (λ some. ap (ends_after c.args.place) is ∙ ends))
      | else-begun-gt0 w ↦ (let none : begun ≡ 0 = search rules in
          next_at c.args.place items begun (record { range = record { kind = Mem; base = 0; order = 0 }; key = 0 }) rising point bound (λ some. absurd (omega arith)))
    ] in
    gives ∙ sym found ∙ ap (find (ends_after c.args.place)) (sym seen)
