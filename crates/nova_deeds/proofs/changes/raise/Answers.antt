use Rattle.std.proofs.Common.{◌≡◌, ◌∙◌, ap, Bool}
use Rattle.std.specs.Prelude.{◌&&◌, not, ◌==◌}
use Rattle.nova_ec.specs.Tables.{EcTable, with_items}
use Rattle.nova_ec.proofs.Steps.{set_twice}
use Rattle.nova_model.specs.Deeds.{recall}
use Rattle.nova_model.specs.State.{ec_of, with_ec}
use Rattle.nova_model.specs.declared.context.EcState.{EcState}
use Rattle.nova_model.specs.declared.context.State.TheVariants.{Exiting}
use Rattle.nova_deeds.proofs.changes.raise.Goals as goal

pub returns : goal.returns
returns c =
    let t = c.args.contexts.now in
    let x : EcState = ec_of t.items c.args.ec in
    let is : c.stays_recalled-is_recalled.result ≡ (x.recall && not (c.args.reason == recall)) =
    c.stays_recalled-is_recalled.ensures ∙ ap (λ (y : EcState). y.recall && not (c.args.reason == recall)) c.context.ensures.context in
    c.raise.ensures
    ∙ ap (λ (u : EcTable). with_items u (with_ec u.items c.args.ec (record (ec_of u.items c.args.ec) { state = Exiting c.args.reason c.args.q0 c.args.q1 }))) c.set_recall.ensures
    ∙ set_twice t c.args.ec (record x { recall = c.stays_recalled-is_recalled.result }) (λ y. record y { state = Exiting c.args.reason c.args.q0 c.args.q1 }) c.requires
    ∙ ap (λ (b : Bool). with_items t (with_ec t.items c.args.ec (record x { state = Exiting c.args.reason c.args.q0 c.args.q1; recall = b }))) is
