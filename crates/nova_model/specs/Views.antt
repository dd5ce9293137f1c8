-- The view of a virtual CPU: the guest that the kernel's state has in it.
use Rattle.std.specs.Prelude.{ℕ, ◌+◌, ◌==◌, ◌&&◌, Bool, List, [], ◌∷◌, Option, Some, None, if◌then◌else◌}
use Rattle.std.specs.List.{filter_map}
use Rattle.nova_model.specs.Numbers.{PdId, EcId, FrameNumber}
use Rattle.nova_guest.specs.Keyed.{placed_all}
use Rattle.nova_guest.specs.Maps.{base_of, is_covered}
use Rattle.nova_guest.specs.declared.cell.Cell.{Cell}
use Rattle.nova_guest.specs.declared.guest.Guest.{Guest}
use Rattle.nova_guest.specs.declared.guest.GuestState.{GuestState}
use Rattle.nova_guest.specs.declared.guest.GuestState.TheVariants as guest
use Rattle.nova_guest.specs.declared.map.Map.{Map}
use Rattle.nova_model.specs.Delegations.{is_memory}
use Rattle.nova_model.specs.State.{KernelState, context, pd_of}
use Rattle.nova_model.specs.declared.context.EcState.{EcState}
use Rattle.nova_model.specs.declared.context.State.{State}
use Rattle.nova_model.specs.declared.context.State.TheVariants.{Fresh, Ready, Calling, Exiting, Sending}
use Rattle.nova_model.specs.declared.delegation.Derivation.{Derivation}

-- the memory derivations of a protection domain as maps, by base, without id and parent
abbrev pub is_memory_of : PdId → Derivation → Bool
is_memory_of pd d = is_memory d.kind && (d.pd == pd)

abbrev pub map_of : Derivation → Map
map_of d = record { base = d.base; order = d.order; rights = d.rights; frame = d.target }

abbrev pub map_in : PdId → Derivation → Option Map
map_in pd d = if is_memory_of pd d then Some (map_of d) else None

abbrev pub maps_of : PdId → List Derivation → List Map
maps_of pd list = placed_all base_of (filter_map (map_in pd) list) []

-- the RAM frames that maps lead to, each once, by frame, with their bytes; those from frame n on
abbrev pub cells_from : List Map → FrameNumber → List (List ℕ) → List Cell
cells_from maps n [] = []
cells_from maps n (bytes ∷ ram) =
    if is_covered maps n then record { frame = n; contents = bytes } ∷ cells_from maps (n + 1) ram else cells_from maps (n + 1) ram

abbrev pub cells_of : List Map → List (List ℕ) → List Cell
cells_of maps ram = cells_from maps 0 ram

-- an exit that is raised and not sent is the same whether it waits for its handler or not
abbrev pub guest_state : State → GuestState
guest_state Fresh = guest.Fresh
guest_state Ready = guest.Ready
guest_state (Exiting reason q0 q1) = guest.Exit reason q0 q1
guest_state (Sending reason q0 q1 handler) = guest.Exit reason q0 q1
guest_state (Calling handler) = guest.Waiting
guest_state other = guest.Dead

abbrev pub guest_of : EcState → List Map → List (List ℕ) → Guest
guest_of x maps ram = record { regs = x.regs; state = guest_state x.state; recall = x.recall; maps = maps; cells = cells_of maps ram }

unfoldable pub view : KernelState → EcId → Guest
view k g = guest_of (context k g) (maps_of (pd_of k g) k.delegations.list) k.memory.ram
