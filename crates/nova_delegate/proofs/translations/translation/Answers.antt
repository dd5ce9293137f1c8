use Rattle.std.proofs.Common.{rules, ◌≡◌, sym, subst}
use Rattle.std.specs.Prelude.{Some}
use Rattle.std.specs.List.{find}
use Rattle.nova_range.specs.Ranges.{IsRange}
use Rattle.nova_model.specs.Delegations.{covers, range_of}
use Rattle.nova_model.specs.Translations.{nearest, smaller}
use Rattle.law_forest.proofs.Members.{found_in, contains_from_in}
use Rattle.nova_delegate.specs.Translations.{IsSeen}
use Rattle.nova_delegate.proofs.Seen.{found_seen}
use Rattle.nova_delegate.proofs.translations.translation.Goals as goal

pub nearest-requires-clause-there : goal.nearest-requires-clause-there
nearest-requires-clause-there g c =
    let list = c.args.nodes.now.delegations.list in
    let range = c.in_ok-range.range in
    let found : find (covers range.kind c.args.giver range.base) list ≡ Some c.in_ok-d.d = search rules in
    contains_from_in list c.in_ok-d.d (found_in (covers range.kind c.args.giver range.base) list c.in_ok-d.d found).0

pub seen_through-places-requires : goal.seen_through-places-requires
seen_through-places-requires g c =
    let f = c.args.nodes.now.delegations in
    let range = c.in_ok-range.range in
    let d = c.in_ok-d.d in
    let a = c.in_ok-a.a in
    let found : find (covers range.kind c.args.giver range.base) f.list ≡ Some d = search rules in
    let near : nearest f.list d c.args.receiver ≡ Some a = search rules in
    let same : c.smaller.result ≡ smaller (range_of d) range = search rules in
    let is : IsRange range = search rules in
    subst (IsSeen a d) (sym same)
    (found_seen f d a range c.args.giver c.args.receiver c.in_ok-d.ensures.sound is found near c.in_ok-d.ensures.placed c.in_ok-a.ensures.placed)
