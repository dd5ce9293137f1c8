-- Two stretches of runs, of whatever kernels, in each of which a virtual CPU is watched.
use Rattle.std.specs.Prelude.{◌≡◌, ℕ, List}
use Rattle.nova_guest.specs.Alone.{outputs}
use Rattle.nova_guest.specs.declared.guest.Guest.{Guest}
use Rattle.nova_guest.specs.declared.input.Input.{Input}
use Rattle.nova_guest.specs.declared.input.Out.{Out}
use Rattle.nova_model.specs.Boot.{Scenario, boot}
use Rattle.nova_model.specs.Guests.{inputs}
use Rattle.nova_model.specs.Runs.{run}
use Rattle.nova_model.specs.State.{KernelState}
use Rattle.nova_model.specs.Views.{view}
use Rattle.law_isolation.specs.Shown.{bytes, exits, shown}
use Rattle.law_isolation.specs.Sound.{IsVirtual}

-- a boot state, turns up to a place, the virtual CPU that is watched from there, and the turns from there
pub record Stretch : Type 0 where
  pub scenario : Scenario
  pub before : List ℕ
  pub guest : ℕ
  pub turns : List ℕ

-- the states where it begins and ends; what the virtual CPU is, meets and puts out
abbrev pub begun : Stretch → KernelState
begun s = run (boot s.scenario) s.before

abbrev pub ended : Stretch → KernelState
ended s = run (begun s) s.turns

abbrev pub view_at : Stretch → Guest
view_at s = view (begun s) s.guest

abbrev pub inputs_in : Stretch → List Input
inputs_in s = inputs (begun s) s.turns s.guest

abbrev pub outputs_in : Stretch → List Out
outputs_in s = outputs (view_at s) (inputs_in s)

-- in each a virtual CPU is there, with equal views at the places, and equal inputs from there
pub record BeginEqual (a b : Stretch) : Type 0 where
  pub first : IsVirtual (begun a) a.guest
  pub second : IsVirtual (begun b) b.guest
  pub views : view_at a ≡ view_at b
  pub inputs : inputs_in a ≡ inputs_in b

-- the views at the ends are equal, and so is what the virtual CPUs put out, and what trace and log show of them
pub record EndEqual (a b : Stretch) : Type 0 where
  pub views : view (ended a) a.guest ≡ view (ended b) b.guest
  pub outputs : outputs_in a ≡ outputs_in b
  pub shown : shown (begun a) a.turns a.guest ≡ shown (begun b) b.turns b.guest
  pub exits : exits (begun a) a.turns a.guest ≡ exits (begun b) b.turns b.guest
  pub bytes : bytes (begun a) a.turns a.guest ≡ bytes (begun b) b.turns b.guest
