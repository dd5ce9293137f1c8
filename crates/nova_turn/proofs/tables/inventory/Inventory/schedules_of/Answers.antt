use Rattle.std.proofs.Common.{rules, arith, ◌≡◌, ◌∙◌, ℕ, List, ap, sym, subst}
use Rattle.std.proofs.lemmas.Option.{gets}
use Rattle.std.specs.Option.{option_copied}
use Rattle.std.specs.Prelude.{slice_get, Some}
use Rattle.nova_objects.specs.ObjectTables.{ObjectTable}
use Rattle.nova_choice.specs.Schedules.{owner_in}
use Rattle.nova_turn.specs.Homes.{Includes}
use Rattle.nova_turn.specs.declared.tables.inventory.Numbers.{Numbers}
use Rattle.nova_turn.proofs.Homes.{owners_are}
use Rattle.nova_turn.proofs.tables.inventory.Inventory.schedules_of.Goals as goal

pub returns-in-Some : goal.returns-in-Some
returns-in-Some c =
    let o = c.self.inside in
    let looked : option_copied c.get.result ≡ slice_get c.deref.result.now c.args.ec = let look = c.get.ensures.lookup in grind (arith, gets, look) in
    let kept : c.deref.result.now ≡ o.owners.items = search rules in
    let found : option_copied c.get.result ≡ Some c.in-Some.home.now = let one = c.in-Some.is in first_of (cc, search rules, grind (arith, gets, one)) in
    let at : slice_get o.owners.items c.args.ec ≡ Some c.in-Some.home.now = ap (λ (hs : List Numbers). slice_get hs c.args.ec) (sym kept) ∙ (sym looked ∙ found) in
    subst (λ (t : ObjectTable). (sc : ℕ) → owner_in (slice_get t.items sc) ≡ Some c.args.ec → Includes sc c.in-Some.home.now) c.self.view_is
    (owners_are o.objects.items o.owners.items c.args.ec c.in-Some.home.now at c.self.invariant.0.1.1.1)
