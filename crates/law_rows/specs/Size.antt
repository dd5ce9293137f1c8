-- How many objects and derivations there are.
use Rattle.std.specs.Prelude.{ℕ, ◌+◌, length}
use Rattle.nova_model.specs.State.{KernelState}

abbrev pub size : KernelState → ℕ
size k = length k.objects + length k.delegations.list
