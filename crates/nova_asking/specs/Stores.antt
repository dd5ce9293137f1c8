-- Which processors are about to store to bytes of RAM.
use Rattle.std.specs.Prelude.{ℕ, ◌&&◌, Bool, true, false, Option, Some, None}
use Rattle.std.specs.List.{list_any, range_with_len}
use Rattle.nova_model.specs.State.{KernelState, context_at}
use Rattle.nova_model.specs.declared.context.EcState.{EcState}
use Rattle.nova_recording.specs.Accesses.{accessed}
use Rattle.nova_recording.specs.Watches.{is_seen_in}
use Rattle.nova_recording.specs.declared.wants.Watch.{Watch}
use Rattle.nova_deeds.specs.Acts.{is_executing}
use Rattle.nova_asking.specs.Locations.{next_actor}

-- stores are looked for, to the bytes of a frame from one to another
abbrev pub stores_to : ℕ → ℕ → ℕ → Watch
stores_to frame first last = record { frame = frame; first = first; last = last; loads = false; stores = true }

-- the next instruction of an execution context stores there
abbrev pub stores_if : KernelState → Watch → ℕ → Option EcState → Bool
stores_if k watch ec (Some x) = is_executing x && is_seen_in (accessed k ec) watch
stores_if k watch ec None = false

abbrev pub stores_by : KernelState → Watch → Option ℕ → Bool
stores_by k watch (Some ec) = stores_if k watch ec (context_at k ec)
stores_by k watch None = false

-- the next turn of a processor is such an instruction, and that of some processor
abbrev pub stores_on : KernelState → Watch → ℕ → Bool
stores_on k watch cpu = stores_by k watch (next_actor k cpu)

abbrev pub some_stores : KernelState → ℕ → ℕ → ℕ → Bool
some_stores k frame first last = list_any (stores_on k (stores_to frame first last)) (range_with_len 0 k.cpus)
