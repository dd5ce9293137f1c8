use Rattle.std.proofs.Common.{◌≡◌}
use Rattle.std.specs.Prelude.{drop, option_map}
use Rattle.std.specs.List.{find}
use Rattle.nova_space.specs.Cached.{spans, key_of_place}
use Rattle.nova_space.proofs.cache.Cache.find.Given as goal

abbrev pub invariant-loop-p : goal.invariant-loop-p
invariant-loop-p l = option_map key_of_place (find (spans l.place) (drop l.p-index l.p-items)) ≡ option_map key_of_place (find (spans l.place) l.self)
