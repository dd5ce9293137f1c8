-- What comes of the files that a command names.
use Rattle.std.specs.Prelude.{◌≡◌, ℕ, List, Option, Some, None, Ok, IfSome}
use Rattle.nova_model.specs.State.{KernelState}
use Rattle.nova_model.specs.Boot.{boot}
use Rattle.nova_model.specs.Runs.{IsFreeOfIdle}
use Rattle.nova_boot.specs.Boot.{scenario_of}
use Rattle.nova_order.specs.Blocks.{turns}
use Rattle.nova_order.specs.declared.block.Block.{Block}
use Rattle.nova_scenario.specs.declared.scenario.Scenario.{Scenario}
use Rattle.nova_twin.specs.Sides.{IsAlone, IsFound}
use Rattle.nova_twin.specs.declared.side.Side.{Side}
use Rattle.nova_answers.specs.Names.{most_of_subjects}
use Rattle.nova_io.specs.Outside.{Depots, FileCame}
use Rattle.nova_loading.specs.Came.{OrderCame, ScenarioCame}
use Rattle.nova_answers.specs.Subjects.{subjects_of}
use Rattle.nova_answers.specs.declared.subjects.Subject.{Subject}
use Rattle.nova_answers.specs.declared.subjects.Subjects.{Subjects}

-- a text was read: a file came, and its bytes name these two guests
pub record SubjectsCame {D : Type 0} (d : Depots D) (name : List ℕ) (old : D) (subjects : Subjects) (new : D) : Type 0 where
  pub bytes : List ℕ
  pub came : FileCame d most_of_subjects name old bytes new
  pub names : subjects_of bytes ≡ Ok subjects

-- the side of a virtual CPU where there is one of this number at the end of the turns; there is none of a number of 2^32 or more
abbrev pub IsFoundBy : KernelState → List ℕ → Option ℕ → Option Side → Type 0
IsFoundBy k order (Some guest) found = IsFound k order guest found
IsFoundBy k order None None = Unit {0}
IsFoundBy k order None (Some side) = ⊥

-- a guest was followed: its scenario came and then its order, none of whose turns is idle, and this is what was found at its number
pub record Followed {D : Type 0} (d : Depots D) (subject : Subject) (most : ℕ) (old : D) (answer : Option Side) (new : D) : Type 0 where
  pub from : Scenario
  pub between : D
  pub came : ScenarioCame d subject.scenario old from between
  pub blocks : List Block
  pub order : OrderCame d subject.order (boot (scenario_of from)).cpus most between blocks new
  pub no_idle : IsFreeOfIdle (boot (scenario_of from)) (turns blocks)
  pub found : IsFoundBy (boot (scenario_of from)) (turns blocks) subject.guest answer
  pub alone : IfSome answer IsAlone
