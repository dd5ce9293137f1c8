use Rattle.std.proofs.Common.{arith, ◌≡◌, ◌∙◌}
use Rattle.std.specs.Prelude.{slice_get}
use Rattle.std.specs.Option.{option_copied}
use Rattle.std.proofs.lemmas.Option.{gets}
use Rattle.nova_nodes.proofs.store.first_place.Goals as goal

pub returns : goal.returns
returns c =
    let looked : option_copied c.get.result ≡ slice_get c.args.places.now c.point.result = let look = c.get.ensures.lookup in grind (arith, gets, look) in
    c.copied.ensures ∙ looked ∙ c.point.ensures.found
