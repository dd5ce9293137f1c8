use Rattle.std.proofs.Common.{rules, refl, ◌≡◌, ◌∙◌, ap, sym, subst, true, false, List}
use Rattle.std.specs.Prelude.{Some, None, option_map, nat_le}
use Rattle.std.specs.List.{find}
use Rattle.nova_range.specs.Indices.{ends_after, key_at, key_of}
use Rattle.nova_space.specs.declared.cache.Place.{Place}
use Rattle.nova_space.specs.Cached.{AreOf, key_of_place, noted, place_of, spans}
use Rattle.nova_space.proofs.Kept.{found_of, found_range, noted_of, remembered}
use Rattle.nova_range.proofs.Sorted.{held, key_held}
use Rattle.nova_space.proofs.space.SpaceIndex.find.Goals as goal

pub returns-in-Some-clause-key : goal.returns-in-Some-clause-key
returns-in-Some-clause-key c =
    let items = c.self.inside.items.items in
    let seen : c.args.self.now.entries ≡ items = search rules in
    let is : option_map key_of_place (find (spans c.args.place) c.self.inside.cache) ≡ Some c.in-Some.key = search rules in
    sym (remembered c.args.place items c.self.inside.cache c.in-Some.key c.self.invariant.0.rising c.self.invariant.1.0 is) ∙ ap (key_at c.args.place) (sym seen)

pub returns-in_err-e-clause-key : goal.returns-in_err-e-clause-key
returns-in_err-e-clause-key c =
    let items = c.args.self.now.entries in
    let none : None ≡ find (ends_after c.args.place) items = search rules in
    let gives : c.from_residual.result ≡ None = search rules in
    gives ∙ ap (λ o. option_map key_of (held c.args.place o)) none ∙ sym (key_held c.args.place items c.in_err-e.ensures.sound.rising)

pub place_of-requires : goal.place_of-requires
place_of-requires c =
    let items = c.args.self.now.entries in
    let some : find (ends_after c.args.place) items ≡ Some c.in_ok-e.e = search rules in
    found_range c.args.place items c.in_ok-e.e c.in_ok-e.ensures.sound some

pub invariant_of-self : goal.invariant_of-self
invariant_of-self c =
    let items = c.self.inside.items.items in
    let some : find (ends_after c.args.place) items ≡ Some c.in_ok-e.e = search rules in
    let more : c.note.new.self ≡ noted (place_of c.in_ok-e.e) c.self.inside.cache = search rules in
    let of = noted_of items (place_of c.in_ok-e.e) c.self.inside.cache c.self.invariant.1.0 (found_of c.args.place items c.in_ok-e.e some) in
    (c.self.invariant.0, (subst (λ (ps : List Place). AreOf items ps) (sym more) of, c.self.invariant.1.1))

pub returns-then-e-place-clause-key : goal.returns-then-e-place-clause-key
returns-then-e-place-clause-key c =
    let items = c.args.self.now.entries in
    let some : Some c.in_ok-e.e ≡ find (ends_after c.args.place) items = search rules in
    let upto : nat_le c.in_ok-e.e.range.base c.args.place ≡ true = search rules in
    let gives : Some c.in_ok-e.e.key ≡ option_map key_of (held c.args.place (Some c.in_ok-e.e)) = rw upto refl in
    gives ∙ ap (λ o. option_map key_of (held c.args.place o)) some ∙ sym (key_held c.args.place items c.in_ok-e.ensures.sound.rising)

pub returns-else-e-place-clause-key : goal.returns-else-e-place-clause-key
returns-else-e-place-clause-key c =
    let items = c.args.self.now.entries in
    let some : Some c.in_ok-e.e ≡ find (ends_after c.args.place) items = search rules in
    let after : nat_le c.in_ok-e.e.range.base c.args.place ≡ false = search rules in
    let gives : None ≡ option_map key_of (held c.args.place (Some c.in_ok-e.e)) = rw after refl in
    gives ∙ ap (λ o. option_map key_of (held c.args.place o)) some ∙ sym (key_held c.args.place items c.in_ok-e.ensures.sound.rising)
