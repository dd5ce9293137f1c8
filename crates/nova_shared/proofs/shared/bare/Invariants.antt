use Rattle.std.proofs.Common.{◌≡◌, ◌≤◌, ◌+◌, ◌++◌, length, vec_len, vec_capacity}
use Rattle.nova_shared.proofs.shared.bare.Given as goal

abbrev pub invariant-loop-seat : goal.invariant-loop-seat
invariant-loop-seat l = (l.out.items ++ l.seat-iterator.rest.items ≡ l.fn.seats.items) × (vec_len l.out + length l.seat-iterator.rest.items ≤ vec_capacity l.out)
