use Rattle.std.proofs.Common.{rules, ◌≡◌, ◌∙◌, ap₂}
use Rattle.std.specs.Option.{option_or}
use Rattle.nova_flowing.specs.Leaks.{when}
use Rattle.nova_flowing.specs.Premises.{others_of, own_of}
use Rattle.nova_flowing.specs.Tests.{is_shared}
use Rattle.nova_flowing.specs.declared.leak.Field.TheVariants as field
use Rattle.nova_flowing.proofs.leaks.apart_by.Goals as goal

pub returns : goal.returns
returns c =
    let shared : c.is_shared-shared.result ≡ is_shared c.args.kernel.now.state.delegations.list (own_of c.args.v.now) (others_of c.args.v.now) c.args.d = search rules in
    c.or.ensures ∙ ap₂ option_or (c.when.ensures ∙ ap₂ (λ t l. when t field.Capabilities l) c.is_any_foreign-foreign.ensures c.at_cap.ensures)
    (c.when-2.ensures ∙ ap₂ (λ t l. when t field.Objects l) shared c.at_cap-2.ensures)
