use Rattle.std.proofs.Common.{◌∙◌, sym, rules}
use Rattle.nova_delegate.proofs.Sources.{next_found, next_past, next_none}
use Rattle.nova_delegate.proofs.parts.next_source.Goals as goal

pub returns-in-Some-clause-found : goal.returns-in-Some-clause-found
returns-in-Some-clause-found g c =
    sym (next_found c.args.job.now c.args.nodes.now.delegations c.first_ahead.ensures.sound.forest c.in-Some.next (sym c.first_ahead.ensures.found ∙ c.in-Some.is) (search rules))

pub returns-in_default-clause-found : goal.returns-in_default-clause-found
returns-in_default-clause-found g c =
    sym (next_past c.args.job.now c.args.nodes.now.delegations.list c.in-Some.next (sym c.first_ahead.ensures.found ∙ c.in-Some.is) (search rules))

pub returns-in_default-2-clause-found : goal.returns-in_default-2-clause-found
returns-in_default-2-clause-found g c =
    sym (next_none c.args.job.now c.args.nodes.now.delegations.list (sym c.first_ahead.ensures.found ∙ c.in_default.is))
