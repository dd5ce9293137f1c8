use Rattle.std.proofs.Common.{rules, ◌≡◌, ◌∙◌, ℕ, ap, arith}
use Rattle.std.specs.Prelude.{Option, Some}
use Rattle.nova_model.specs.Delegations.{derived, with_id}
use Rattle.nova_model.specs.Revokes.{busy}
use Rattle.nova_revoke.proofs.Walks.{found_there, busy_is}
use Rattle.nova_revoke.proofs.scope.would_grow.Goals as goal

pub in_scope_of-requires-clause-there : goal.in_scope_of-requires-clause-there
in_scope_of-requires-clause-there g c = found_there c.args.nodes.now.delegations.list c.in-Some.id c.in-Some-get.d (search rules)

pub returns-then-leads_into : goal.returns-then-leads_into
returns-then-leads_into g c = record {
  busy = λ rights.
      let f = c.args.nodes.now.delegations in
      let found : Some c.in-Some-get.d ≡ with_id f.list c.in-Some.id = search rules in
      let is : busy c.args.revoke.now f.list (derived f.next c.args.parent c.args.pd c.args.range rights c.args.target) ≡ _ =
      ap (λ (o : Option ℕ). busy c.args.revoke.now f.list (derived f.next o c.args.pd c.args.range rights c.args.target)) c.in-Some.is ∙
      busy_is c.args.revoke.now f c.in-Some.id c.args.pd c.args.range rights c.args.target c.in-Some-get.d c.get.ensures.sound.forest found in
      rw is (grind (arith, c.leads_into.ensures, c.if-leads_into.true));
}

pub returns-else-leads_into : goal.returns-else-leads_into
returns-else-leads_into g c = record {
  busy = λ rights.
      let f = c.args.nodes.now.delegations in
      let found : Some c.in-Some-get.d ≡ with_id f.list c.in-Some.id = search rules in
      let is : busy c.args.revoke.now f.list (derived f.next c.args.parent c.args.pd c.args.range rights c.args.target) ≡ _ =
      ap (λ (o : Option ℕ). busy c.args.revoke.now f.list (derived f.next o c.args.pd c.args.range rights c.args.target)) c.in-Some.is ∙
      busy_is c.args.revoke.now f c.in-Some.id c.args.pd c.args.range rights c.args.target c.in-Some-get.d c.get.ensures.sound.forest found in
      rw is (grind (arith, c.leads_into.ensures, c.if-leads_into.false, c.in_scope_of.ensures, c.meets.ensures, c.if-meets.false));
}
