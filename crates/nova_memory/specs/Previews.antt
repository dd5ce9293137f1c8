-- What an instruction that is only looked at reaches, and the store to a frame that it would make.
use Rattle.std.specs.Prelude.{ℕ, ◌%◌, Bool, Option, None, option_map}
use Rattle.rv_model.specs.Step.{Store}
use Rattle.nova_range.specs.Rights.{write_right}
use Rattle.nova_model.specs.AddressSpaces.{AddressSpace, frame_for, space}
use Rattle.nova_memory.specs.Reach.{ReachState, reached}
use Rattle.nova_memory.specs.declared.preview.Write.{Write}

-- what the execution context that acts reaches, and the store that was noted
pub record PreviewState : Type 0 where
  pub reach : ReachState
  pub write : Option Write

-- another acts, and nothing is stored yet
abbrev pub entered : ReachState → ℕ → ℕ → Bool → ReachState
entered s ec pd is_thread = record s { ec = ec; pd = pd; is_thread = is_thread; written = None }

abbrev pub fetched : PreviewState → ℕ → Option ℕ
fetched s = (space (reached s.reach)).fetch

abbrev pub loaded : PreviewState → ℕ → ℕ → Option ℕ
loaded s = (space (reached s.reach)).load

abbrev pub takes : PreviewState → ℕ → ℕ → Bool
takes s = (space (reached s.reach)).takes

-- a store as one to the frame that its address leads to; one to message words is none
abbrev pub write_at : Store → ℕ → Write
write_at store frame = record { frame = frame; offset = store.address % 4096; width = store.width; value = store.value }

abbrev pub write_of : AddressSpace → Store → Option Write
write_of a store = option_map (write_at store) (frame_for a write_right store.address)

-- a store is noted and not made
abbrev pub noted : Store → PreviewState → PreviewState
noted store s = record s { write = write_of (reached s.reach) store }
