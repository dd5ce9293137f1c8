use Rattle.std.proofs.Common.{◌∙◌, sym, ap, refl, Some, None, rules}
use Rattle.std.specs.Prelude.{max}
use Rattle.nova_range.specs.Ranges.{end_of}
use Rattle.nova_model.specs.Delegations.{range_of}
use Rattle.nova_delegate.proofs.Sources.{searched, first_found, second_found, first_none}
use Rattle.nova_delegate.proofs.parts.first_ahead.Goals as goal

pub returns-in-Some-clause-found : goal.returns-in-Some-clause-found
returns-in-Some-clause-found g c =
    let j = c.args.job.now in
    let list = c.args.nodes.now.delegations.list in
    let first = searched j list c.max-place.result (max j.cursor j.source) c.first_from.result (Some c.in-Some.first) c.max-place.ensures c.first_from.ensures.found c.in-Some.is in
    let second = searched j list c.end.result (end_of (range_of c.in-Some.first)) c.first_from-in-Some.result c.first_from-in-Some.result (c.end.ensures ∙ ap end_of c.range.ensures) c.first_from-in-Some.ensures.found refl in
    sym (second_found j c.args.nodes.now.delegations c.first_from.ensures.sound.forest c.in-Some.first first (search rules) c.first_from-in-Some.result second)

pub returns-in-Some-2-clause-found : goal.returns-in-Some-2-clause-found
returns-in-Some-2-clause-found g c =
    let j = c.args.job.now in
    let first = searched j c.args.nodes.now.delegations.list c.max-place.result (max j.cursor j.source) c.first_from.result (Some c.in-Some.first) c.max-place.ensures c.first_from.ensures.found c.in-Some.is in
    sym (first_found j c.args.nodes.now.delegations c.first_from.ensures.sound.forest c.in-Some.first first (search rules))

pub returns-in-None-clause-found : goal.returns-in-None-clause-found
returns-in-None-clause-found g c =
    let j = c.args.job.now in
    sym (first_none j c.args.nodes.now.delegations
    (searched j c.args.nodes.now.delegations.list c.max-place.result (max j.cursor j.source) c.first_from.result None c.max-place.ensures c.first_from.ensures.found c.in-None.is))
