use Rattle.std.proofs.Common.{◌∙◌, sym, ap, ℕ}
use Rattle.std.specs.Prelude.{nat_lt}
use Rattle.nova_delegate.proofs.Holdings.{held_from, held_none}
use Rattle.nova_delegate.proofs.parts.is_held_in.Goals as goal

pub returns-in-Some : goal.returns-in-Some
returns-in-Some g c =
    ap (λ (n : ℕ). nat_lt c.in-Some.first.base n) c.end.ensures ∙
    held_from c.args.nodes.now.delegations.list c.args.pd c.args.range c.in-Some.first (sym c.first_from.ensures.found ∙ c.in-Some.is)

pub returns-in-None : goal.returns-in-None
returns-in-None g c = sym (held_none c.args.nodes.now.delegations.list c.args.pd c.args.range (sym c.first_from.ensures.found ∙ c.in-None.is))
