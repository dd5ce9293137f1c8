use Rattle.std.proofs.Common.{rules, arith, ◌≡◌, ◌∙◌, List, ap, sym, subst}
use Rattle.std.proofs.lemmas.Option.{gets}
use Rattle.std.specs.Option.{option_copied}
use Rattle.std.specs.Prelude.{slice_get, Some}
use Rattle.nova_objects.specs.ObjectTables.{ObjectTable}
use Rattle.nova_turn.specs.Homes.{AreOthers}
use Rattle.nova_turn.specs.declared.tables.inventory.Numbers.{Numbers}
use Rattle.nova_turn.specs.declared.tables.inventory.Numbers.TheVariants.{Empty, Single}
use Rattle.nova_turn.proofs.Homes.{others_none, others_there}
use Rattle.nova_turn.proofs.tables.inventory.Inventory.others.Goals as goal

pub returns-in-Some-Empty : goal.returns-in-Some-Empty
returns-in-Some-Empty c =
    let o = c.self.inside in
    let looked : option_copied c.get.result ≡ slice_get c.deref.result.now c.args.pd = let look = c.get.ensures.lookup in grind (arith, gets, look) in
    let kept : c.deref.result.now ≡ o.homes.items = search rules in
    let found : option_copied c.get.result ≡ Some Empty = let one = c.in-Some-Empty.is in let two = c.in-Some-Empty.field-0-is in first_of (cc, search rules, grind (arith, gets, one, two)) in
    let at : slice_get o.homes.items c.args.pd ≡ Some Empty = ap (λ (hs : List Numbers). slice_get hs c.args.pd) (sym kept) ∙ (sym looked ∙ found) in
    subst (λ (t : ObjectTable). AreOthers t.items c.args.ec c.args.pd Empty) c.self.view_is
    (others_there o.objects.items o.homes.items c.args.ec c.args.pd Empty at c.self.invariant.1.1.1)

pub returns-in-Some-Single : goal.returns-in-Some-Single
returns-in-Some-Single c =
    let o = c.self.inside in
    let looked : option_copied c.get.result ≡ slice_get c.deref.result.now c.args.pd = let look = c.get.ensures.lookup in grind (arith, gets, look) in
    let kept : c.deref.result.now ≡ o.homes.items = search rules in
    let found : option_copied c.get.result ≡ Some (Single c.in-Some-Single.guest) = let one = c.in-Some-Single.is in let two = c.in-Some-Single.field-0-is in first_of (cc, search rules, grind (arith, gets, one, two)) in
    let at : slice_get o.homes.items c.args.pd ≡ Some (Single c.in-Some-Single.guest) = ap (λ (hs : List Numbers). slice_get hs c.args.pd) (sym kept) ∙ (sym looked ∙ found) in
    let itself : c.in-Some-Single.guest ≡ c.args.ec = let same = c.if-guest-ec.true in grind (arith, same) in
    subst (λ (t : ObjectTable). AreOthers t.items c.args.ec c.args.pd Empty) c.self.view_is
    (others_none o.objects.items o.homes.items c.args.ec c.args.pd c.in-Some-Single.guest at itself c.self.invariant.1.1.1)

pub returns-in-Some-Single-2 : goal.returns-in-Some-Single-2
returns-in-Some-Single-2 c =
    let o = c.self.inside in
    let looked : option_copied c.get.result ≡ slice_get c.deref.result.now c.args.pd = let look = c.get.ensures.lookup in grind (arith, gets, look) in
    let kept : c.deref.result.now ≡ o.homes.items = search rules in
    let found : option_copied c.get.result ≡ Some (Single c.in-Some-Single.guest) = let one = c.in-Some-Single.is in let two = c.in-Some-Single.field-0-is in first_of (cc, search rules, grind (arith, gets, one, two)) in
    let at : slice_get o.homes.items c.args.pd ≡ Some (Single c.in-Some-Single.guest) = ap (λ (hs : List Numbers). slice_get hs c.args.pd) (sym kept) ∙ (sym looked ∙ found) in
    subst (λ (t : ObjectTable). AreOthers t.items c.args.ec c.args.pd (Single c.in-Some-Single.guest)) c.self.view_is
    (others_there o.objects.items o.homes.items c.args.ec c.args.pd (Single c.in-Some-Single.guest) at c.self.invariant.1.1.1)
