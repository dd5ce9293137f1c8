use Rattle.std.proofs.Common.{◌≡◌, ℕ, ◌<◌, slice_get}
use Rattle.nova_compare.proofs.memory.same_ram.Given as goal

-- the frames so far are equal
abbrev pub invariant-loop-i : goal.invariant-loop-i
invariant-loop-i l = (n : ℕ) → n < l.i → slice_get l.a.state.memory.ram n ≡ slice_get l.b.state.memory.ram n
