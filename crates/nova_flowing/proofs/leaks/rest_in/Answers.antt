use Rattle.std.proofs.Common.{rules, ◌≡◌, ◌∙◌, List, Bool, ap₂}
use Rattle.std.specs.Option.{option_or}
use Rattle.nova_flowing.specs.Leaks.{when}
use Rattle.nova_flowing.specs.Premises.{others_of, own_of}
use Rattle.nova_flowing.specs.Tests.{is_in, stirs}
use Rattle.nova_flowing.specs.declared.leak.Field.TheVariants as field
use Rattle.nova_flowing.proofs.leaks.rest_in.Goals as goal

pub returns : goal.returns
returns c =
    let k = c.args.kernel.now.state in
    let state = c.args.context.now.state in
    let first : c.deref.result.now ≡ c.args.v.now.own.items = search rules in
    let second : c.deref-2.result.now ≡ c.args.v.now.others.items = search rules in
    let rest : c.stirs-rest.result ≡ stirs k (own_of c.args.v.now) (others_of c.args.v.now) c.args.n state =
    c.stirs-rest.ensures ∙ ap₂ (λ (x y : List Bool). stirs k (is_in x) (is_in y) c.args.n state) first second in
    c.or.ensures ∙ ap₂ option_or (c.when.ensures ∙ ap₂ (λ t l. when t field.Rest l) rest c.at_context.ensures) c.queue_in.ensures
