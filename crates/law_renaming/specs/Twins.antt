-- Virtual CPUs of two kernels that are the same guest but for the frames, and what their runs show of them then.
use Rattle.std.specs.Prelude.{◌≡◌, ℕ, ◌+◌, Bool, nat_lt, List, [], ◌∷◌, length, Some}
use Rattle.nova_guest.specs.Alone.{outputs}
use Rattle.nova_guest.specs.Cells.{cell_at}
use Rattle.nova_guest.specs.declared.cell.Cell.{Cell}
use Rattle.nova_guest.specs.declared.guest.Guest.{Guest}
use Rattle.nova_model.specs.AddressSpaces.{space}
use Rattle.nova_model.specs.Deeds.{address_space}
use Rattle.nova_model.specs.Guests.{inputs}
use Rattle.nova_model.specs.Runs.{run, trace}
use Rattle.nova_model.specs.State.{KernelState}
use Rattle.nova_model.specs.Views.{view}
use Rattle.nova_model.specs.declared.log.LogByte.{LogByte}
use Rattle.law_isolation.specs.Shown.{gained, raises_in}
use Rattle.law_isolation.specs.Sound.{IsVirtual}
use Rattle.law_renaming.specs.Renamings.{GuestsAgree, InputsAgree, IsOneToOne, MapsAgree, OutsAgree, Renames}

-- A RENAMING between the frames of two kernels, of `ram` and `others` RAM frames: one to one, RAM stands for RAM and a console for a console
pub record IsRenaming (r : ℕ → ℕ → Bool) (ram others : ℕ) : Type 0 where
  pub one : IsOneToOne r
  pub sort : (a b : ℕ) → Renames r a b → nat_lt b others ≡ nat_lt a ram

-- each cell of the first view has the bytes of the cell that stands for it in the second
abbrev pub AreCellsFound : (ℕ → ℕ → Bool) → List Cell → List Cell → Type 0
AreCellsFound r cells new = (a b : ℕ) (bytes : List ℕ) → Renames r a b → cell_at cells a ≡ Some bytes → cell_at new b ≡ Some bytes

pub record ViewsAgree (r : ℕ → ℕ → Bool) (u v : Guest) : Type 0 where
  pub regs : v.regs ≡ u.regs
  pub state : v.state ≡ u.state
  pub recall : v.recall ≡ u.recall
  pub maps : MapsAgree r u.maps v.maps
  pub cells : AreCellsFound r u.cells v.cells

-- THE LOG: equal bytes, stored to consoles that stand for each other; a console's frame is the number of RAM frames, and the console's
pub record LogAgrees (r : ℕ → ℕ → Bool) (ram others : ℕ) (a b : LogByte) : Type 0 where
  pub value : b.value ≡ a.value
  pub stands : Renames r (ram + a.console) (others + b.console)

abbrev pub LogsAgree : (ℕ → ℕ → Bool) → ℕ → ℕ → List LogByte → List LogByte → Type 0
LogsAgree r ram others [] [] = Unit {0}
LogsAgree r ram others (x ∷ xs) (y ∷ ys) = LogAgrees r ram others x y × LogsAgree r ram others xs ys
LogsAgree r ram others xs ys = ⊥

-- TWO RUNS: turns of two kernels, and a virtual CPU of each, with views that agree and inputs that agree one by one
pub record AreTwins (r : ℕ → ℕ → Bool) (k l : KernelState) (turns others : List ℕ) (g h : ℕ) : Type 0 where
  pub one : IsOneToOne r
  pub first : IsVirtual k g
  pub second : IsVirtual l h
  pub views : GuestsAgree r (view k g) (view l h)
  pub inputs : InputsAgree r (inputs k turns g) (inputs l others h)

-- what comes of it: views that agree, outputs that agree, the same exits in the traces, the same bytes in the logs, and the same found at every address
pub record EndAsTwins (r : ℕ → ℕ → Bool) (k l : KernelState) (turns others : List ℕ) (g h : ℕ) : Type 0 where
  pub views : GuestsAgree r (view (run k turns) g) (view (run l others) h)
  pub outs : OutsAgree r (outputs (view k g) (inputs k turns g)) (outputs (view l h) (inputs l others h))
  pub exits : raises_in g (trace k turns) ≡ raises_in h (trace l others)
  pub bytes : LogsAgree r (length k.memory.ram) (length l.memory.ram) (gained k turns g) (gained l others h)
  pub spaces : space (address_space (run k turns) g) ≡ space (address_space (run l others) h)
