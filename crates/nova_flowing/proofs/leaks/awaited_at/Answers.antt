use Rattle.std.proofs.Common.{rules, ◌≡◌, ◌∙◌, ap, ap₂, List, Bool}
use Rattle.std.specs.Option.{option_or}
use Rattle.nova_flowing.specs.Leaks.{when}
use Rattle.nova_flowing.specs.Premises.{part_of}
use Rattle.nova_flowing.specs.Tests.{is_awaited_without, is_in}
use Rattle.nova_flowing.specs.declared.leak.Field.TheVariants as field
use Rattle.nova_flowing.specs.declared.leak.Place.TheVariants.{Object}
use Rattle.nova_flowing.proofs.leaks.awaited_at.Goals as goal

pub returns : goal.returns
returns c =
    let first : c.deref.result.now ≡ c.args.v.now.part.items = search rules in
    let awaited : c.is_awaited_without-awaited.result ≡ is_awaited_without c.args.kernel.now.state (part_of c.args.v.now) c.args.n =
    c.is_awaited_without-awaited.ensures ∙ ap (λ (x : List Bool). is_awaited_without c.args.kernel.now.state (is_in x) c.args.n) first in
    c.or.ensures ∙ ap₂ option_or (c.when.ensures ∙ ap (λ (t : Bool). when t field.Queued (Object c.args.n)) awaited) c.side_of.ensures
