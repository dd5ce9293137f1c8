-- A revoke along turns: which contexts act in them, what their events tell, and what runs meanwhile.
use Rattle.std.specs.Prelude.{◌≡◌, ℕ, ◌+◌, ◌==◌, if◌then◌else◌, List, [], ◌∷◌, Option, Some, None}
use Rattle.nova_model.specs.Choice.{Candidate, next_to_act}
use Rattle.nova_model.specs.Revokes.{Revocation}
use Rattle.nova_model.specs.Running.{revoke_of}
use Rattle.nova_model.specs.Runs.{after}
use Rattle.nova_model.specs.State.{KernelState}
use Rattle.nova_model.specs.Turn.{answer_of, turn}
use Rattle.nova_model.specs.declared.event.Event.{Event}
use Rattle.nova_model.specs.declared.event.EventKind.{EventKind}
use Rattle.nova_model.specs.declared.event.Turn.TheVariants.{Stepped}

-- 1 where it acts in the turn of the processor, and 0 where another acts or the processor is idle
abbrev pub acts_once : ℕ → Option Candidate → ℕ
acts_once ec None = 0
acts_once ec (Some c) = if c.actor == ec then 1 else 0

-- in how many of these turns it acts
abbrev pub acts_in : KernelState → ℕ → List ℕ → ℕ
acts_in k ec [] = 0
acts_in k ec (cpu ∷ turns) = acts_once ec (next_to_act k cpu) + acts_in (after k cpu) ec turns

-- it runs this revoke from now on to the end of these turns
abbrev pub Runs : KernelState → ℕ → Revocation → List ℕ → Type 0
Runs k ec r [] = revoke_of k ec ≡ Some r
Runs k ec r (cpu ∷ turns) = (revoke_of k ec ≡ Some r) × Runs (after k cpu) ec r turns

-- the turn of the processor has an event, of this execution context, of this kind and with these two numbers
pub record HasEvent (k : KernelState) (cpu its : ℕ) (sort : EventKind) (first second : ℕ) : Type 0 where
  pub event : Event
  pub answers : answer_of (turn k cpu) ≡ Stepped event
  pub ec : event.ec ≡ its
  pub kind : event.kind ≡ sort
  pub a : event.a ≡ first
  pub b : event.b ≡ second
