-- How the list of the revokes that run stands to the state.
use Rattle.std.specs.Prelude.{ℕ, ◌≡◌, ◌≤◌, ◌<◌, List, length}
use Rattle.nova_model.specs.Running.{Running, running}
use Rattle.nova_model.specs.State.{KernelState}
use Rattle.nova_model.specs.declared.deed.Deed.{Deed}
use Rattle.nova_model.specs.declared.deed.Deed.TheVariants.{Revokes, Returns}
use Rattle.nova_revoke.specs.Runners.{RevokesState, begun_in, ended_in}

-- all that run are in the list, and there is a place for one of each execution context
pub record AreRunning (k : KernelState) (r : RevokesState) : Type 0 where
  pub list : r.list ≡ running k
  pub places : length k.contexts ≤ r.places

-- the list after a deed of an execution context of protection domain `pd`
abbrev pub revokes_after : ℕ → ℕ → Deed → List Running → List Running
revokes_after pd ec (Revokes range own) list = begun_in (record { ec = ec; revoke = record { pd = pd; range = range; own = own } }) list
revokes_after pd ec Returns list = ended_in ec list
revokes_after pd ec other list = list

-- a revoke that begins has a place
abbrev pub BeginsWithin : RevokesState → Deed → Type 0
BeginsWithin r (Revokes range own) = length r.list < r.places
BeginsWithin r other = Unit {0}
