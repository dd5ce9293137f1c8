use Rattle.std.proofs.Common.{rules, ◌≡◌, ◌++◌, ◌∷◌, [], List, length, ap, sym, ◌∙◌, subst}
use Rattle.std.specs.Prelude.{Some}
use Rattle.std.specs.List.{AllByRecursion}
use Rattle.law_turns.specs.Tables.{Refers}
use Rattle.nova_objects.specs.ObjectTables.{ObjectTable}
use Rattle.nova_objects.specs.declared.object.Object.{Object}
use Rattle.nova_choice.specs.Schedules.{owner_in}
use Rattle.nova_turn.specs.Homes.{AreHoused, AreOwned, home_of, housed}
use Rattle.nova_turn.specs.declared.tables.inventory.Numbers.{Numbers}
use Rattle.nova_turn.specs.declared.tables.inventory.Numbers.TheVariants.{Empty}
use Rattle.nova_turn.proofs.Homes.{all_housed, all_long, all_owned}
use Rattle.nova_turn.proofs.tables.inventory.Inventory.add.Goals as goal

pub invariant_of-self : goal.invariant_of-self
invariant_of-self c =
    let o = c.self.inside in
    let objects : c.add-number.new.self.items ≡ o.objects.items ++ c.args.object ∷ [] = ap (λ (t : ObjectTable). t.items) c.add-number.ensures.added in
    let homes : c.house.new.homes.items ≡ housed (home_of (Some c.args.object)) (length o.objects.items) (o.homes.items ++ Empty ∷ []) = search rules in
    let refer = subst (λ (t : ObjectTable). AllByRecursion (Refers t.items) t.items) (sym c.self.view_is) c.requires.refer in
    let are : AreHoused c.add-number.new.self.items c.house.new.homes.items =
    subst (λ (hs : List Numbers). AreHoused c.add-number.new.self.items hs) (sym homes)
    (subst (λ (os : List Object). AreHoused os (housed (home_of (Some c.args.object)) (length o.objects.items) (o.homes.items ++ Empty ∷ []))) (sym objects)
    (all_housed o.objects.items o.homes.items c.args.object refer c.self.invariant.1.1.0 c.self.invariant.1.1.1)) in
    let long : length c.house.new.homes.items ≡ length c.add-number.new.self.items =
    ap (λ (hs : List Numbers). length hs) homes ∙ (all_long o.objects.items o.homes.items c.args.object (home_of (Some c.args.object)) c.self.invariant.1.1.0 ∙ sym (ap (λ (os : List Object). length os) objects)) in
    let owners : c.bind.new.owners.items ≡ housed (owner_in (Some c.args.object)) (length o.objects.items) (o.owners.items ++ Empty ∷ []) = search rules in
    let owned : AreOwned c.add-number.new.self.items c.bind.new.owners.items =
    subst (λ (hs : List Numbers). AreOwned c.add-number.new.self.items hs) (sym owners)
    (subst (λ (os : List Object). AreOwned os (housed (owner_in (Some c.args.object)) (length o.objects.items) (o.owners.items ++ Empty ∷ []))) (sym objects)
    (all_owned o.objects.items o.owners.items c.args.object refer c.self.invariant.0.1.1.0 c.self.invariant.0.1.1.1)) in
    let wide : length c.bind.new.owners.items ≡ length c.add-number.new.self.items =
    ap (λ (hs : List Numbers). length hs) owners ∙ (all_long o.objects.items o.owners.items c.args.object (owner_in (Some c.args.object)) c.self.invariant.0.1.1.0 ∙ sym (ap (λ (os : List Object). length os) objects)) in
    ((search rules, (search rules, (wide, owned))), (search rules, (long, are)))
