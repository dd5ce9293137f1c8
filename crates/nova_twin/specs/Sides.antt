-- One side of a comparison: a virtual CPU of a run, followed from its birth.
use Rattle.std.specs.Prelude.{◌≡◌, ℕ, ◌-◌, ◌^◌, ◌≤◌, List, length, Option, Some, None}
use Rattle.nova_guest.specs.Alone.{alone, outputs}
use Rattle.law_isolation.specs.Shown.{shown}
use Rattle.law_isolation.specs.Sound.{IsVirtual}
use Rattle.nova_model.specs.Boot.{Scenario, boot}
use Rattle.nova_model.specs.Guests.{inputs}
use Rattle.nova_model.specs.Runs.{run}
use Rattle.nova_model.specs.State.{KernelState}
use Rattle.nova_model.specs.Views.{view}
use Rattle.law_origins.specs.Lives.{IsMade, born}
use Rattle.nova_twin.specs.declared.side.Side.{Side}

-- what a kernel begins with: the boot state of a scenario of at most 2^14 RAM frames, 16 consoles, and sources of which the root can have as many selectors
pub record IsBeginning (k : KernelState) : Type 0 where
  pub scenario : Scenario
  pub ram : scenario.ram ≤ 14
  pub consoles : scenario.consoles ≤ 16
  pub few : length scenario.sources ≤ 2 ^ 20 - 3
  pub is : k ≡ boot scenario

-- the side of a virtual CPU that one of these turns makes: its view right after that turn, its inputs over the rest of the turns, its view at the end, and all that
-- the turns show of it, in order: the exits that it raises, and the bytes that its turns append to the log
pub record IsSideOf (k : KernelState) (turns : List ℕ) (g : ℕ) (side : Side) : Type 0 where
  pub made : IsMade k turns g
  pub start : side.start ≡ view (born k turns g made) g
  pub inputs : side.inputs.items ≡ inputs (born k turns g made) made.later g
  pub last : side.end ≡ view (run k turns) g
  pub outs : side.outs.items ≡ shown k turns g

-- it ends as the guest alone does with these inputs, and puts out the same
pub record IsAlone (side : Side) : Type 0 where
  pub last : side.end ≡ alone side.start side.inputs.items
  pub outs : side.outs.items ≡ outputs side.start side.inputs.items

-- the side of a number where there is a virtual CPU of it at the end, and none where there is none
abbrev pub IsFound : KernelState → List ℕ → ℕ → Option Side → Type 0
IsFound k turns g (Some side) = IsSideOf k turns g side
IsFound k turns g None = IsVirtual (run k turns) g → ⊥

-- a side of some run from what some kernel begins with
pub record IsSide (side : Side) : Type 0 where
  pub opening : KernelState
  pub begins : IsBeginning opening
  pub turns : List ℕ
  pub guest : ℕ
  pub is : IsSideOf opening turns guest side
