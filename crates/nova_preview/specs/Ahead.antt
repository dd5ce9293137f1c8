-- What is found out of a turn without changing anything.
use Rattle.std.specs.Prelude.{◌≡◌, ℕ, ◌&&◌, Bool, nat_lt, List, length, Option, Some, None, option_and_then, if◌then◌else◌}
use Rattle.std.specs.List.{list_any}
use Rattle.rv_model.specs.Step.{Once}
use Rattle.nova_guest.specs.declared.input.Input.{Input}
use Rattle.nova_guest.specs.declared.input.Input.TheVariants as input
use Rattle.nova_memory.specs.Previews.{entered, write_of}
use Rattle.nova_memory.specs.Reach.{ReachState, reached}
use Rattle.nova_memory.specs.declared.preview.Write.{Write}
use Rattle.nova_model.specs.AddressSpaces.{AddressSpace}
use Rattle.nova_model.specs.Inputs.{leads_to, store_of}
use Rattle.nova_model.specs.Running.{Running, running}
use Rattle.nova_model.specs.State.{KernelState}

-- what the addresses of an execution context lead to
abbrev pub space_for : ReachState → ℕ → ℕ → Bool → AddressSpace
space_for s ec pd is_thread = reached (entered s ec pd is_thread)

-- the store to a frame that an instruction makes
abbrev pub write_by : AddressSpace → Once → Option Write
write_by a once = option_and_then (write_of a) (store_of once)

-- a store that goes to a RAM frame to which memory of a protection domain leads
abbrev pub foreign_at : ReachState → ℕ → Write → Option Input
foreign_at s pd w =
    if nat_lt w.frame (length s.memory.ram) && list_any (leads_to pd w.frame) s.nodes.delegations.list
    then Some (input.Foreign w.frame w.offset w.width w.value) else None

-- delegations and the revokes that run are those of the state
pub record AreOf (k : KernelState) (s : ReachState) (runs : List Running) : Type 0 where
  pub delegations : s.nodes.delegations ≡ k.delegations
  pub running : runs ≡ running k
