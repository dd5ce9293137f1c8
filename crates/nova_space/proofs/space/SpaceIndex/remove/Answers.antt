use Rattle.std.proofs.Common.{rules, arith, ◌≡◌, ◌∙◌, ap, sym, subst, List, length, filter, not}
use Rattle.std.specs.Prelude.{Some, None, option_map, slice_get}
use Rattle.std.specs.List.{remove}
use Rattle.nova_range.specs.declared.index.Entry.{Entry}
use Rattle.nova_range.specs.Indices.{IsSorted, key_of, key_of_base, taken_out}
use Rattle.nova_space.specs.declared.cache.Place.{Place}
use Rattle.nova_space.specs.Cached.{AreOf, begins_at, is_below, of_base}
use Rattle.nova_space.proofs.Bases.{key_found, none_of_base, one_of_base}
use Rattle.nova_space.proofs.Kept.{forgotten_of}
use Rattle.nova_space.proofs.Sorted.{sorted_without}
use Rattle.nova_space.proofs.space.SpaceIndex.remove.Goals as goal

pub returns-in_err-key-clause-key : goal.returns-in_err-key-clause-key
returns-in_err-key-clause-key c =
    let items = c.self.inside.items.items in
    let seen : c.args.self.now.entries ≡ items = search rules in
    let count : c.count_below-at.result ≡ length (filter (is_below c.args.base) items) = search rules in
    let none : None ≡ option_map key_of (of_base c.args.base (slice_get items c.count_below-at.result)) = search rules in
    let gives : c.from_residual.result ≡ None = search rules in
    gives ∙ none ∙ key_found c.args.base items c.count_below-at.result c.self.invariant.0.rising count ∙ ap (key_of_base c.args.base) (sym seen)

pub returns-in_err-key-clause-removed : goal.returns-in_err-key-clause-removed
returns-in_err-key-clause-removed c =
    let items = c.self.inside.items.items in
    let seen : c.args.self.now.entries ≡ items = search rules in
    let count : c.count_below-at.result ≡ length (filter (is_below c.args.base) items) = search rules in
    let none : option_map key_of (of_base c.args.base (slice_get items c.count_below-at.result)) ≡ None = search rules in
    let same = none_of_base c.args.base items c.count_below-at.result c.self.invariant.0.rising count none in
    seen ∙ sym same ∙ ap (taken_out c.args.base) (sym seen)

pub invariant_of-self : goal.invariant_of-self
invariant_of-self c =
    let items = c.self.inside.items.items in
    let count : c.count_below-at.result ≡ length (filter (is_below c.args.base) items) = search rules in
    let one : option_map key_of (of_base c.args.base (slice_get items c.count_below-at.result)) ≡ Some c.in_ok-key.key = search rules in
    let left : c.remove.new.self.items ≡ taken_out c.args.base items = c.remove.ensures.items ∙ one_of_base c.args.base items c.count_below-at.result c.in_ok-key.key c.self.invariant.0.rising count one in
    let forgot : c.forget.new.self ≡ filter (λ (p : Place). not (begins_at c.args.base p)) c.self.inside.cache = c.forget.ensures in
    let of = subst (λ (ps : List Place). AreOf (taken_out c.args.base items) ps) (sym forgot) (forgotten_of c.args.base items c.self.inside.cache c.self.invariant.1.0) in
    let room = c.self.invariant.1.1 in (
      subst (λ (es : List Entry). IsSorted es) (sym left) (sorted_without c.args.base items c.self.invariant.0),
      (subst (λ (es : List Entry). AreOf es c.forget.new.self) (sym left) of, omega (arith, c.remove.ensures.len, c.remove.ensures.capacity)),
    )

pub returns-clause-key : goal.returns-clause-key
returns-clause-key c =
    let items = c.self.inside.items.items in
    let seen : c.args.self.now.entries ≡ items = search rules in
    let count : c.count_below-at.result ≡ length (filter (is_below c.args.base) items) = search rules in
    let one : Some c.in_ok-key.key ≡ option_map key_of (of_base c.args.base (slice_get items c.count_below-at.result)) = search rules in
    one ∙ key_found c.args.base items c.count_below-at.result c.self.invariant.0.rising count ∙ ap (key_of_base c.args.base) (sym seen)

pub returns-clause-removed : goal.returns-clause-removed
returns-clause-removed c =
    let items = c.self.inside.items.items in
    let seen : c.args.self.now.entries ≡ items = search rules in
    let count : c.count_below-at.result ≡ length (filter (is_below c.args.base) items) = search rules in
    let one : option_map key_of (of_base c.args.base (slice_get items c.count_below-at.result)) ≡ Some c.in_ok-key.key = search rules in
    c.remove.ensures.items ∙ one_of_base c.args.base items c.count_below-at.result c.in_ok-key.key c.self.invariant.0.rising count one ∙ ap (taken_out c.args.base) (sym seen)
