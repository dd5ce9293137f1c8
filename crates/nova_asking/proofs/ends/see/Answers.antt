use Rattle.std.proofs.Common.{rules, ◌≡◌, ◌∙◌, ap, arith, false, slice_index_or, sym}
use Rattle.std.proofs.lemmas.List.{length-map}
use Rattle.nova_model.specs.Choice.{is_quiet}
use Rattle.nova_search.specs.Searches.{state_of, states_of}
use Rattle.nova_search.specs.declared.found.Found.{Found}
use Rattle.nova_search.proofs.Growth.{state_here}
use Rattle.nova_asking.proofs.Counted.{unquiet_counts}
use Rattle.nova_asking.proofs.ends.see.Goals as goal

pub returns-then-not-found-place-clause-counted : goal.returns-then-not-found-place-clause-counted
returns-then-not-found-place-clause-counted c =
    let k = c.args.opening.now in
    let f : Found = c.index-found-place.result in
    let here : c.index-found-place.result ≡ slice_index_or c.args.found.now c.args.place c.index-found-place.result = search rules in
    let has : c.index-found-place.result.has_ended ≡ false = search rules in
    let quiet : c.index-found-place.result.has_ended ≡ is_quiet c.index-found-place.result.vertex.value = search rules in
    unquiet_counts (states_of c.args.found.now) c.args.place k c.args.ends.now.items
    (let there = c.requires.place in let long = length-map c.args.found.now state_of in omega (arith, there, long))
    (ap is_quiet (state_here c.args.found.now c.args.place f k c.requires.place here) ∙ sym quiet ∙ has) c.requires.counted
