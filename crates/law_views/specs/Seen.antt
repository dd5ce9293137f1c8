-- What a view has of a state.
use Rattle.std.specs.Prelude.{◌≡◌, ◌<◌, ◌↔◌, ℕ, true, false, List, Contains, slice_get, Some, None}
use Rattle.std.specs.List.{AllPairs}
use Rattle.nova_guest.specs.Cells.{cell_at}
use Rattle.nova_guest.specs.Maps.{is_covered}
use Rattle.nova_guest.specs.declared.cell.Cell.{Cell}
use Rattle.nova_guest.specs.declared.guest.Guest.{Guest}
use Rattle.nova_guest.specs.declared.guest.GuestState.{GuestState}
use Rattle.nova_guest.specs.declared.guest.GuestState.TheVariants as guest
use Rattle.nova_guest.specs.declared.map.Map.{Map}
use Rattle.nova_model.specs.Exits.{raised_exit}
use Rattle.nova_model.specs.State.{KernelState, context, pd_of}
use Rattle.nova_model.specs.declared.context.State.{State}
use Rattle.nova_model.specs.declared.context.State.TheVariants.{Fresh, Ready, Calling, Dead}
use Rattle.nova_model.specs.declared.delegation.Derivation.{Derivation}
use Rattle.nova_range.specs.declared.range.Kind.TheVariants.{Mem}

-- the state of a virtual CPU as its view has it: it is fresh, ready or dead, has this exit that is not sent, or waits for the reply to one, in the
-- view exactly where it does in the kernel
pub record IsShownAs (s : State) (t : GuestState) : Type 0 where
  pub fresh : (s ≡ Fresh) ↔ (t ≡ guest.Fresh)
  pub ready : (s ≡ Ready) ↔ (t ≡ guest.Ready)
  pub exit : (reason q0 q1 : ℕ) → (raised_exit s ≡ Some (reason, q0, q1)) ↔ (t ≡ guest.Exit reason q0 q1)
  pub waits : ((handler : ℕ) × (s ≡ Calling handler)) ↔ (t ≡ guest.Waiting)
  pub dead : (s ≡ Dead) ↔ (t ≡ guest.Dead)

-- a memory derivation of the protection domain with the range, rights and first frame of a map
pub record IsMapped (list : List Derivation) (pd : ℕ) (m : Map) : Type 0 where
  pub derivation : Derivation
  pub there : Contains list derivation
  pub kind : derivation.kind ≡ Mem
  pub domain : derivation.pd ≡ pd
  pub from : derivation.base ≡ m.base
  pub size : derivation.order ≡ m.order
  pub may : derivation.rights ≡ m.rights
  pub leads : derivation.target ≡ m.frame

-- maps are the memory derivations of the protection domain, by rising base
pub record AreMapsOf (list : List Derivation) (pd : ℕ) (maps : List Map) : Type 0 where
  pub members : (m : Map) → Contains maps m ↔ IsMapped list pd m
  pub rising : AllPairs (λ a b. a.base < b.base) maps

-- cells are the RAM frames that maps lead to, by rising frame, with their bytes
pub record AreCellsOf (maps : List Map) (ram : List (List ℕ)) (cells : List Cell) : Type 0 where
  pub covered : (frame : ℕ) → is_covered maps frame ≡ true → cell_at cells frame ≡ slice_get ram frame
  pub uncovered : (frame : ℕ) → is_covered maps frame ≡ false → cell_at cells frame ≡ None
  pub rising : AllPairs (λ a b. a.frame < b.frame) cells

-- a guest that has what the state has of a virtual CPU
pub record IsViewOf (k : KernelState) (g : ℕ) (v : Guest) : Type 0 where
  pub registers : v.regs ≡ (context k g).regs
  pub recalled : v.recall ≡ (context k g).recall
  pub shown : IsShownAs (context k g).state v.state
  pub mapped : AreMapsOf k.delegations.list (pd_of k g) v.maps
  pub held : AreCellsOf v.maps k.memory.ram v.cells
