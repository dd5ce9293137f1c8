use Rattle.std.proofs.Common.{◌≡◌, ◌≤◌, ◌+◌, ℕ, length}
use Rattle.std.specs.Prelude.{vec_capacity}
use Rattle.nova_range.specs.declared.range.Kind.{Kind}
use Rattle.nova_nodes.specs.Spaces.{entries_at, room_at}
use Rattle.nova_nodes.proofs.spaces.Spaces.lengthen.Given as goal

-- the table gets longer, and holds what it held
abbrev pub invariant-loop : goal.invariant-loop
invariant-loop g l = record {
  entries : (other : ℕ) (kind : Kind) → entries_at l.self-inside.items.items other kind ≡ entries_at l.fn.self other kind;
  rooms : (other : ℕ) → room_at l.self-inside.items.items other ≡ room_at l.fn.self other;
  long : length l.self-inside.items.items ≡ length l.fn.self + l.counter;
  fits : length l.fn.self + l.more ≤ vec_capacity l.self-inside.items;
}
