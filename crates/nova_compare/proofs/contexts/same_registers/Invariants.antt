use Rattle.std.proofs.Common.{◌≡◌, ℕ, ◌<◌, slice_index}
use Rattle.nova_compare.proofs.contexts.same_registers.Given as goal

-- those so far are equal
abbrev pub invariant-loop-i : goal.invariant-loop-i
invariant-loop-i l = (n : ℕ) → n < l.i → slice_index l.a.x n ≡ slice_index l.b.x n
