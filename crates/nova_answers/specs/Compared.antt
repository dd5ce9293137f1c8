-- Two guests compared.
use Rattle.std.specs.Prelude.{◌≡◌, ℕ, List, ◌++◌, length, Some, codes, decimal}
use Rattle.nova_model.specs.Boot.{boot}
use Rattle.nova_boot.specs.Boot.{scenario_of}
use Rattle.law_renaming.specs.Verdicts.{IsVerdict}
use Rattle.nova_scenario.specs.declared.scenario.Scenario.{Scenario}
use Rattle.nova_twin.specs.Comparison.{said, Holds, EndsSo}
use Rattle.nova_twin.specs.declared.side.Side.{Side}
use Rattle.nova_twin.specs.declared.verdict.Verdict.{Verdict}
use Rattle.nova_twin.specs.declared.verdict.Verdict.TheVariants.{Equal, Views, Differ}
use Rattle.nova_answers.specs.Came.{Followed, SubjectsCame}
use Rattle.nova_io.specs.Outside.{Depots}
use Rattle.nova_answers.specs.declared.subjects.Subjects.{Subjects}

-- the line of a verdict
unfoldable pub line_of : Verdict → List ℕ
line_of (Equal inputs pairs) = codes "equal " ++ (decimal inputs ++ (codes " frames " ++ (decimal (length pairs.items) ++ codes "\n")))
line_of Views = codes "views\n"
line_of (Differ inputs) = codes "differ " ++ (decimal inputs ++ codes "\n")

-- how many RAM frames a scenario has
abbrev pub frames_of : Scenario → ℕ
frames_of from = length (boot (scenario_of from)).memory.ram

-- two guests were compared: their text came, then the first was followed and after it the second, and the line is that of a verdict that holds of the two sides: by
-- lists of pairs of frames, RAM for RAM and a console for a console, and by any renaming, one to one. Where they are equal the views at the ends agree under its
-- pairs, the exits are equal, and the bytes are but for their frames
pub record AreCompared {D : Type 0} (d : Depots D) (name : List ℕ) (most : ℕ) (old new : D) (text : List ℕ) : Type 0 where
  pub subjects : Subjects
  pub between : D
  pub came : SubjectsCame d name old subjects between
  pub first : Side
  pub midway : D
  pub first_followed : Followed d subjects.first most between (Some first) midway
  pub second : Side
  pub second_followed : Followed d subjects.second most midway (Some second) new
  pub verdict : Verdict
  pub holds : Holds (frames_of first_followed.from) (frames_of second_followed.from) first second verdict
  pub renaming : IsVerdict first.start second.start first.inputs.items second.inputs.items (said verdict)
  pub ends : EndsSo first second verdict
  pub line : text ≡ line_of verdict
