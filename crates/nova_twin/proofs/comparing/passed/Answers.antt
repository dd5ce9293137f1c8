use Rattle.std.proofs.Common.{rules, ◌≡◌, true}
use Rattle.law_renaming.specs.Forced.{alike}
use Rattle.nova_twin.proofs.Passing.{maps_alike}
use Rattle.nova_twin.proofs.comparing.passed.Goals as goal

pub join_maps-requires-clause-alike : goal.join_maps-requires-clause-alike
join_maps-requires-clause-alike c =
    let same : alike c.args.a.now.start c.args.b.now.start ≡ true = search rules in maps_alike c.args.a.now.start c.args.b.now.start same
