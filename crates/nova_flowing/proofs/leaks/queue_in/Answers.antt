use Rattle.std.proofs.Common.{rules, ◌≡◌, ◌∙◌, List, Bool, ap₂}
use Rattle.std.specs.Option.{option_or}
use Rattle.nova_flowing.specs.Leaks.{when}
use Rattle.nova_flowing.specs.Premises.{others_of, own_of}
use Rattle.nova_flowing.specs.Tests.{is_in, waits_beside}
use Rattle.nova_flowing.specs.declared.leak.Field.TheVariants as field
use Rattle.nova_flowing.proofs.leaks.queue_in.Goals as goal

pub returns : goal.returns
returns c =
    let k = c.args.kernel.now.state in
    let state = c.args.context.now.state in
    let first : c.deref.result.now ≡ c.args.v.now.own.items = search rules in
    let second : c.deref-2.result.now ≡ c.args.v.now.others.items = search rules in
    let beside : c.waits_beside-beside.result ≡ waits_beside k (own_of c.args.v.now) (others_of c.args.v.now) c.args.n state =
    c.waits_beside-beside.ensures ∙ ap₂ (λ (x y : List Bool). waits_beside k (is_in x) (is_in y) c.args.n state) first second in
    c.or.ensures ∙ ap₂ option_or (c.when.ensures ∙ ap₂ (λ t l. when t field.Waits l) c.any_waits_at_theirs-waits.ensures c.at_context-place.ensures)
    (c.when-2.ensures ∙ ap₂ (λ t l. when t field.Queues l) beside c.at_context-place.ensures)
