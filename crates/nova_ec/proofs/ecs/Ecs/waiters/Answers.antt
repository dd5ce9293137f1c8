use Rattle.std.proofs.Common.{rules, arith, ◌≡◌, ◌∙◌, ℕ, List, ap, sym, subst}
use Rattle.std.proofs.lemmas.Option.{gets}
use Rattle.std.specs.Option.{option_copied}
use Rattle.std.specs.Prelude.{slice_get, Some}
use Rattle.nova_model.specs.Edges.{edge}
use Rattle.nova_ec.specs.Tables.{EcTable}
use Rattle.nova_ec.specs.Waiting.{IsAmong}
use Rattle.nova_ec.specs.declared.waiters.Waiters.{Waiters}
use Rattle.nova_ec.proofs.Waiting.{among_kept}
use Rattle.nova_ec.proofs.ecs.Ecs.waiters.Goals as goal

pub returns-in-Some : goal.returns-in-Some
returns-in-Some c =
    let t = c.self.inside in
    let looked : option_copied c.get.result ≡ slice_get c.deref.result.now c.args.ec = let look = c.get.ensures.lookup in grind (arith, gets, look) in
    let kept : c.deref.result.now ≡ t.waiters.items = search rules in
    let found : option_copied c.get.result ≡ Some c.in-Some.waiters.now = let one = c.in-Some.is in first_of (cc, search rules, grind (arith, gets, one)) in
    let at : slice_get t.waiters.items c.args.ec ≡ Some c.in-Some.waiters.now = ap (λ (all : List Waiters). slice_get all c.args.ec) (sym kept) ∙ (sym looked ∙ found) in
    subst (λ (s : EcTable). (z : ℕ) → edge s.items z ≡ Some c.args.ec → IsAmong z c.in-Some.waiters.now) c.self.view_is
    (among_kept t.items.items t.waiters.items c.args.ec c.in-Some.waiters.now c.self.invariant.6 at)
