-- Whose inputs: the context that acts in the turn that is an input of a virtual CPU, and by what right.
use Rattle.std.specs.Prelude.{◌≡◌, ℕ, List, Some}
use Rattle.law_forest.specs.Made.{MayUse}
use Rattle.nova_guest.specs.declared.input.Input.{Input}
use Rattle.nova_guest.specs.declared.input.Input.TheVariants.{Foreign, Given, Recall, Reply, Taken}
use Rattle.law_isolation.specs.Sound.{IsVirtual}
use Rattle.nova_model.specs.Boot.{Scenario, boot}
use Rattle.nova_model.specs.Capabilities.{control_right, is_ec}
use Rattle.nova_model.specs.Guests.{input}
use Rattle.nova_model.specs.Runs.{run}
use Rattle.nova_model.specs.State.{KernelState, pd_of}
use Rattle.nova_range.specs.Rights.{write_right}
use Rattle.law_origins.specs.Giving.{Acts, IsGiven, IsTakenByRight, HasPageTo}
use Rattle.law_origins.specs.Sending.{HandlesLast}

-- after a list of turns from a boot state the next turn of the processor is this input of a virtual CPU, and `ec` acts in it
pub record IsInputBy (scenario : Scenario) (turns : List ℕ) (cpu ec g : ℕ) (i : Input) : Type 0 where
  pub virtual : IsVirtual (run (boot scenario) turns) g
  pub acts : Acts (run (boot scenario) turns) cpu ec
  pub is : input (run (boot scenario) turns) cpu g ≡ Some i

-- what gives one the right to an input of a virtual CPU: its own steps and what comes of its exits are its own
abbrev pub HasRight : KernelState → List ℕ → ℕ → ℕ → ℕ → Input → Type 0
HasRight k turns cpu ec g (Foreign frame offset width value) = HasPageTo (run k turns) (pd_of (run k turns) ec) write_right frame
HasRight k turns cpu ec g Recall = MayUse (run k turns) (pd_of (run k turns) ec) is_ec control_right g
HasRight k turns cpu ec g (Reply mtd words) = HandlesLast k turns g ec
HasRight k turns cpu ec g (Given base order rights frame contents) = IsGiven k turns cpu ec g base order rights frame contents
HasRight k turns cpu ec g (Taken base order) = IsTakenByRight (run k turns) cpu ec g base order
HasRight k turns cpu ec g other = ec ≡ g
