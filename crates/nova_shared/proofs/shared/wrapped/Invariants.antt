use Rattle.std.proofs.Common.{◌≡◌, ◌≢◌, ◌≤◌, ◌+◌, ◌++◌, [], All, length, vec_len, vec_capacity}
use Rattle.nova_shared.proofs.shared.wrapped.Given as goal

abbrev pub invariant-loop-seat : goal.invariant-loop-seat
invariant-loop-seat l = (l.out.items ++ l.seat-iterator.rest.items ≡ l.fn.seats.items) × (vec_len l.out + length l.seat-iterator.rest.items ≤ vec_capacity l.out)
    × All (λ s. (s.front ≡ []) × (s.number ≢ 0)) l.seat-iterator.rest.items
