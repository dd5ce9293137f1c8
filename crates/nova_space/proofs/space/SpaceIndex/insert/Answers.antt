use Rattle.std.proofs.Common.{rules, arith, ◌≡◌, ◌∙◌, ap, sym, subst, List, length, filter, false, ◌<◌, ◌+◌}
use Rattle.std.specs.Prelude.{vec_len}
use Rattle.std.specs.List.{AllByRecursion, insert}
use Rattle.nova_range.specs.declared.index.Entry.{Entry}
use Rattle.nova_range.specs.Ranges.{overlaps}
use Rattle.nova_range.specs.Indices.{IsSorted, put_in}
use Rattle.nova_space.specs.Cached.{is_below, AreOf}
use Rattle.nova_space.proofs.Sorted.{put_in_is, sorted_with}
use Rattle.nova_space.proofs.Kept.{put_of}
use Rattle.nova_space.proofs.space.SpaceIndex.insert.Goals as goal

pub invariant_of-self : goal.invariant_of-self
invariant_of-self c =
    let x : Entry = record { range = c.args.range; key = c.args.key } in
    let items = c.self.inside.items.items in
    let count : c.count_below-at.result ≡ length (filter (is_below c.args.range.base) items) = search rules in
    let is : c.insert.new.self.items ≡ put_in x items = c.in-Ok.ensures.items ∙ ap (λ n. insert items n x) count ∙ put_in_is x items c.self.invariant.0.rising in
    let seen : c.args.self.now.entries ≡ items = search rules in
    let apart = subst (λ (es : List Entry). AllByRecursion (λ e. overlaps e.range c.args.range ≡ false) es) seen c.requires.apart in
    let room : 0 < c.self.inside.spare = search rules in
    let len : vec_len c.insert.new.self ≡ vec_len c.self.inside.items + 1 = c.in-Ok.ensures.len in (
      subst (λ (es : List Entry). IsSorted es) (sym is) (sorted_with x items c.self.invariant.0 c.requires.range apart),
      (subst (λ (es : List Entry). AreOf es c.self.inside.cache) (sym is) (put_of x items c.self.inside.cache c.self.invariant.1.0), omega (arith, room, len)),
    )

pub returns-clause-added : goal.returns-clause-added
returns-clause-added c =
    let x : Entry = record { range = c.args.range; key = c.args.key } in
    let items = c.self.inside.items.items in
    let count : c.count_below-at.result ≡ length (filter (is_below c.args.range.base) items) = search rules in
    let is : c.insert.new.self.items ≡ put_in x items = c.in-Ok.ensures.items ∙ ap (λ n. insert items n x) count ∙ put_in_is x items c.self.invariant.0.rising in
    let seen : c.args.self.now.entries ≡ items = search rules in
    is ∙ ap (put_in x) (sym seen)
