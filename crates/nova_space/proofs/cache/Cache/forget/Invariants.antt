use Rattle.std.proofs.Common.{◌≡◌, ◌≤◌, ◌++◌, length}
use Rattle.std.specs.Prelude.{drop, filter, not}
use Rattle.nova_space.specs.Cached.{begins_at}
use Rattle.nova_space.proofs.cache.Cache.forget.Given as goal

abbrev pub invariant-loop-p : goal.invariant-loop-p
invariant-loop-p l = record {
  kept : l.kept.items ++ filter (λ p. not (begins_at l.base p)) (drop l.p-index l.p-items) ≡ filter (λ p. not (begins_at l.base p)) l.fn.self;
  few : length l.kept.items ≤ l.p-index;
}
