-- How many turns of a processor are due.
use Rattle.std.specs.Prelude.{ℕ, ◌+◌, ◌≤◌, ◌==◌, Bool, false, if◌then◌else◌, List, [], ◌∷◌, length, Option, Some, None}
use Rattle.nova_model.specs.Choice.{Candidate, next_to_act}
use Rattle.nova_model.specs.Deeds.{deed}
use Rattle.nova_model.specs.Runs.{after, run}
use Rattle.nova_model.specs.State.{KernelState}
use Rattle.nova_model.specs.Times.{clock, deadline_entries}
use Rattle.nova_model.specs.declared.deed.Deed.{Deed}
use Rattle.nova_model.specs.declared.deed.Deed.TheVariants.{Blocks}
use Rattle.nova_gsi.specs.Deadlines.{all_rings_left}
use Rattle.law_response.specs.Waits.{due_in, turns_at}

-- how many deadlines of a processor stand
abbrev pub deadlines_on : KernelState → ℕ → ℕ
deadlines_on k cpu = length (deadline_entries cpu 0 k.times.deadlines)

-- the deed begins a wait to a deadline of the processor
abbrev pub sets_one : ℕ → Deed → Bool
sets_one cpu (Blocks sm (Some d)) = d.cpu == cpu
sets_one cpu other = false

abbrev pub sets_once : ℕ → KernelState → Option Candidate → Bool
sets_once cpu k None = false
sets_once cpu k (Some c) = sets_one cpu (deed k c.actor)

-- in how many of these turns a wait to a deadline of the processor begins
abbrev pub sets_in : KernelState → ℕ → List ℕ → ℕ
sets_in k cpu [] = 0
sets_in k cpu (by ∷ turns) = (if sets_once cpu k (next_to_act k by) then 1 else 0) + sets_in (after k by) cpu turns

-- the turns that are due are at most the rings that the processor's alarms have by its clock at the end, the deadlines that stood, and those begun meanwhile
abbrev pub AreDueBounded : KernelState → List ℕ → ℕ → Type 0
AreDueBounded k turns cpu = due_in k cpu turns ≤ all_rings_left cpu (clock (run k turns).times cpu) k.times.alarms + (deadlines_on k cpu + sets_in k cpu turns)

-- the processor's turns are at most the rings that its alarms have by its clock at the end, and the deadlines that stood
abbrev pub IsPrompt : KernelState → List ℕ → ℕ → Type 0
IsPrompt k turns cpu = turns_at cpu turns ≤ all_rings_left cpu (clock (run k turns).times cpu) k.times.alarms + deadlines_on k cpu
