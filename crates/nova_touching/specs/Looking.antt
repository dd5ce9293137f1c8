-- What the next instruction of an execution context reaches, by looking alone.
use Rattle.std.specs.Prelude.{◌≡◌, ℕ, Bool, true, false, Option, Some, None, option_and_then, IsSome, slice_get}
use Rattle.rv_model.specs.Registers.{Registers}
use Rattle.rv_model.specs.Step.{Once, Raised, Space, Store, Went}
use Rattle.rv_core.specs.declared.outcome.Outcome.{Outcome}
use Rattle.rv_core.specs.declared.outcome.Outcome.TheVariants.{Next}
use Rattle.nova_range.specs.Rights.{write_right}
use Rattle.nova_model.specs.AddressSpaces.{AddressSpace, frame_for, space, without_loads}
use Rattle.nova_model.specs.Deeds.{address_space, instruction}
use Rattle.nova_model.specs.Inputs.{store_of}
use Rattle.nova_model.specs.Numbers.{EcId, FrameNumber}
use Rattle.nova_model.specs.State.{KernelState, context}
use Rattle.law_swaps.specs.Touches.{Executes, frame_fetched, frame_loaded}
use Rattle.nova_touching.specs.declared.looking.Sight.{Sight}

-- a kernel of which the next instruction of an execution context is only looked at, where loads may be hidden; and the frame of the store that was noted
pub record LookState : Type 0 where
  pub kernel : KernelState
  pub ec : EcId
  pub hides_loads : Bool
  pub stored : Option FrameNumber

abbrev pub shown : Bool → Space → Space
shown true a = without_loads a
shown false a = a

abbrev pub seen : LookState → AddressSpace
seen s = address_space s.kernel s.ec

abbrev pub found : LookState → Space
found s = shown s.hides_loads (space (seen s))

abbrev pub fetched : LookState → ℕ → Option ℕ
fetched s = (found s).fetch

abbrev pub loaded : LookState → ℕ → ℕ → Option ℕ
loaded s = (found s).load

abbrev pub takes : LookState → ℕ → ℕ → Bool
takes s = (found s).takes

-- a store is noted by its frame, and not made
abbrev pub noted : Store → LookState → LookState
noted store s = record s { stored = frame_for (seen s) write_right store.address }

-- an instruction begins, and nothing is stored yet
abbrev pub begun : LookState → Bool → LookState
begun s hides_loads = record s { hides_loads = hides_loads; stored = None }

-- the frame that the store of an instruction leads to; none where it stores message words
abbrev pub stored_by : AddressSpace → Once → Option FrameNumber
stored_by a once = option_and_then (λ (s : Store). frame_for a write_right s.address) (store_of once)

-- WHAT IS SEEN OF IT

abbrev pub goes_on : Once → Bool
goes_on (Raised reason q0 q1) = false
goes_on (Went regs store) = true

abbrev pub is_next : Outcome → Bool
is_next Next = true
is_next other = false

-- whether it goes on, and the frames that it fetches, loads and stores
pub record IsSight (k : KernelState) (ec : EcId) (s : Sight) : Type 0 where
  pub goes_on : s.goes_on ≡ goes_on (instruction k ec)
  pub fetched : s.fetched ≡ frame_fetched k ec
  pub loaded : s.loaded ≡ frame_loaded k ec
  pub stored : s.stored ≡ stored_by (address_space k ec) (instruction k ec)

-- a context's next deed is an instruction that goes on, and that stores to no console
pub record IsStepping (k : KernelState) (ec : EcId) : Type 0 where
  pub executes : Executes (context k ec)
  pub regs : Registers
  pub store : Option Store
  pub goes_on : instruction k ec ≡ Went regs store
  pub no_console : (s : Store) (frame : FrameNumber) → store ≡ Some s → frame_for (address_space k ec) write_right s.address ≡ Some frame → IsSome (slice_get k.memory.ram frame)
