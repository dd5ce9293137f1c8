-- Scheduling contexts that compete.
use Rattle.std.specs.Prelude.{ℕ, ◌==◌, ◌&&◌, Bool, true, false}
use Rattle.nova_objects.specs.declared.object.Object.{Object}
use Rattle.nova_objects.specs.declared.object.Object.TheVariants.{Sc}

abbrev pub is_schedule : Object → Bool
is_schedule (Sc ec cpu priority quantum) = true
is_schedule other = false

-- of this processor and this priority
abbrev pub is_peer : Object → ℕ → ℕ → Bool
is_peer (Sc ec its_cpu its_priority quantum) cpu priority = (its_cpu == cpu) && (its_priority == priority)
is_peer other cpu priority = false

-- two of one processor and one priority
abbrev pub are_peers : Object → Object → Bool
are_peers (Sc ec cpu priority quantum) other = is_peer other cpu priority
are_peers one other = false
