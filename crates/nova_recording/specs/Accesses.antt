-- What the next instruction loads or stores, by the model's own instruction: only an instruction that goes on does either, with its right and
-- alignment.
use Rattle.std.specs.Prelude.{ℕ, ◌%◌, ◌==◌, Bool, true, false, if◌then◌else◌, Option, Some, None, option_map}
use Rattle.rv_model.specs.Step.{Space, Store, Once, Raised, Went, one, load_fault}
use Rattle.nova_model.specs.Numbers.{EcId}
use Rattle.nova_model.specs.AddressSpaces.{AddressSpace, frame_for, space, without_loads}
use Rattle.nova_model.specs.Deeds.{address_space, instruction}
use Rattle.nova_model.specs.Inputs.{store_of}
use Rattle.nova_model.specs.Memory.{Memory, written}
use Rattle.nova_model.specs.State.{KernelState, context, context_at}
use Rattle.nova_model.specs.declared.context.EcState.{EcState}
use Rattle.nova_range.specs.Rights.{read_right, write_right}
use Rattle.nova_kernel.specs.Views.{KernelView}
pub use Rattle.nova_deeds.specs.Acts.{outcome_of}
use Rattle.nova_recording.specs.declared.preview.Access.{Access}

-- a store, and a load, with the frame that the address leads to
abbrev pub store_at : AddressSpace → Store → Access
store_at a s = record { address = s.address; width = s.width; stored = Some s.value; frame = frame_for a write_right s.address }

abbrev pub load_at : AddressSpace → ℕ → ℕ → Access
load_at a address width = record { address = address; width = width; stored = None; frame = frame_for a read_right address }

-- the load for which an instruction raises
abbrev pub load_missed : AddressSpace → Once → Option Access
load_missed a (Raised reason q0 q1) = if reason == load_fault then Some (load_at a q0 q1) else None
load_missed a (Went regs store) = None

-- of an instruction that goes on its store, or else the load for which it raises where nothing is found to load
abbrev pub access_by : AddressSpace → Once → Once → Option Access
access_by a (Raised reason q0 q1) unloaded = None
access_by a (Went regs (Some s)) unloaded = Some (store_at a s)
access_by a (Went regs None) unloaded = load_missed a unloaded

-- the next instruction where nothing is found to load
abbrev pub unloaded : KernelState → EcId → Once
unloaded k ec = one (context k ec).regs (without_loads (space (address_space k ec)))

-- what the next instruction of an execution context loads or stores, where a context is there
abbrev pub access_in : KernelState → EcId → Option EcState → Option Access
access_in k ec (Some x) = access_by (address_space k ec) (instruction k ec) (unloaded k ec)
access_in k ec None = None

abbrev pub accessed : KernelState → EcId → Option Access
accessed k ec = access_in k ec (context_at k ec)

-- memory after an access: a store to a frame alone changes it
abbrev pub put_in : Memory → Access → ℕ → Option ℕ → Memory
put_in m a value (Some frame) = written m frame (a.address % 4096) a.width value
put_in m a value None = m

abbrev pub stored_in : Memory → Access → Option ℕ → Memory
stored_in m a (Some value) = put_in m a value a.frame
stored_in m a None = m

abbrev pub memory_after : Memory → Option Access → Memory
memory_after m (Some a) = stored_in m a a.stored
memory_after m None = m

-- BY LOOKING ALONE

-- a kernel of which the next instruction of an execution context is only looked at, where loads may be hidden; and the store that was noted
pub record PreviewState : Type 0 where
  pub kernel : KernelView
  pub ec : ℕ
  pub hides_loads : Bool
  pub stored : Option Access

abbrev pub shown : Bool → Space → Space
shown true a = without_loads a
shown false a = a

abbrev pub seen : PreviewState → AddressSpace
seen s = address_space s.kernel.state s.ec

abbrev pub found : PreviewState → Space
found s = shown s.hides_loads (space (seen s))

abbrev pub fetched : PreviewState → ℕ → Option ℕ
fetched s = (found s).fetch

abbrev pub loaded : PreviewState → ℕ → ℕ → Option ℕ
loaded s = (found s).load

abbrev pub takes : PreviewState → ℕ → ℕ → Bool
takes s = (found s).takes

-- a store is noted and not made
abbrev pub noted : Store → PreviewState → PreviewState
noted store s = record s { stored = Some (store_at (seen s) store) }

-- an instruction begins, and nothing is stored yet
abbrev pub begun : PreviewState → EcId → Bool → PreviewState
begun s ec hides_loads = record s { ec = ec; hides_loads = hides_loads; stored = None }

-- the store of an instruction
abbrev pub stored_by : AddressSpace → Once → Option Access
stored_by a once = option_map (store_at a) (store_of once)
