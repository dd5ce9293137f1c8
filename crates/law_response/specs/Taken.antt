-- How long a call of the highest priority waits for its handler, and when it is taken.
use Rattle.std.specs.Prelude.{◌≡◌, ℕ, ◌+◌, ◌==◌, ◌&&◌, Bool, false, if◌then◌else◌, List, [], ◌∷◌, Option, Some, None}
use Rattle.nova_utcb.specs.Messages.{has_items}
use Rattle.nova_model.specs.Choice.{Candidate, actor, next_to_act}
use Rattle.nova_model.specs.Deeds.{deed}
use Rattle.nova_model.specs.Edges.{state_in}
use Rattle.nova_model.specs.Portals.{identifier, ip_of}
use Rattle.nova_model.specs.Runs.{after, run}
use Rattle.nova_model.specs.State.{KernelState, message}
use Rattle.nova_model.specs.declared.context.State.TheVariants.{Helping}
use Rattle.nova_model.specs.declared.deed.Deed.TheVariants.{Calls}
use Rattle.law_response.specs.Waits.{due_in, turns_at}

abbrev pub is_acted_by : ℕ → Option Candidate → Bool
is_acted_by ec None = false
is_acted_by ec (Some c) = c.actor == ec

-- in how many of these turns of the processor the execution context acts to which the turns of the handler lead then
abbrev pub served_in : KernelState → ℕ → ℕ → List ℕ → ℕ
served_in k cpu handler [] = 0
served_in k cpu handler (by ∷ turns) = (if (by == cpu) && is_acted_by (actor k handler) (next_to_act k by) then 1 else 0) + served_in (after k by) cpu handler turns

-- along these turns `ec` helps the handler, and each turn of the processor is due or goes to where the handler's turns lead
pub record HasHelped (k : KernelState) (turns : List ℕ) (cpu ec handler : ℕ) : Type 0 where
  pub still : state_in (run k turns).contexts ec ≡ Some (Helping handler)
  pub count : turns_at cpu turns ≡ due_in k cpu turns + served_in k cpu handler turns

-- in the processor's next turn `ec` acts, `sc` pays, and the call by this portal is taken by its handler
pub record IsTaken (k : KernelState) (cpu sc ec handler pt : ℕ) : Type 0 where
  pub chosen : Candidate
  pub acts : next_to_act k cpu ≡ Some chosen
  pub pays : chosen.sc ≡ sc
  pub its : chosen.actor ≡ ec
  pub calls : deed k ec ≡ Calls handler (ip_of k pt) (identifier k pt) (has_items (message k ec))
