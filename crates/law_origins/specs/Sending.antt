-- The thread that handles an exit of a virtual CPU: the handler of the portal that its protection domain held in the turn in which the exit was sent.
use Rattle.std.specs.Prelude.{◌≡◌, ℕ, ◌+◌, Bool, true, false, List, ◌∷◌, ◌++◌, slice_get, Some}
use Rattle.std.specs.List.{list_any}
use Rattle.nova_guest.specs.declared.guest.GuestState.TheVariants as guest
use Rattle.nova_guest.specs.declared.input.Input.{Input}
use Rattle.nova_guest.specs.declared.input.Input.TheVariants.{Sent}
use Rattle.law_turns.specs.Asked.{HoldsAt}
use Rattle.nova_model.specs.Capabilities.{event_right}
use Rattle.nova_model.specs.Guests.{input, inputs}
use Rattle.nova_model.specs.Runs.{after, run}
use Rattle.nova_model.specs.State.{KernelState, event_base, pd_of}
use Rattle.nova_model.specs.Views.{view}
use Rattle.nova_objects.specs.declared.object.Object.TheVariants.{Pt}

abbrev pub is_sent : Input → Bool
is_sent Sent = true
is_sent other = false

-- of a list of turns from k on the last that was Sent for the virtual CPU: none of its inputs after that turn is Sent
pub record LastSent (k : KernelState) (turns : List ℕ) (g : ℕ) : Type 0 where
  pub before : List ℕ
  pub cpu : ℕ
  pub later : List ℕ
  pub whole : turns ≡ before ++ cpu ∷ later
  pub sent : input (run k before) cpu g ≡ Some Sent
  pub last : list_any is_sent (inputs (after (run k before) cpu) later g) ≡ false

-- the virtual CPU has an exit that is not sent, and its protection domain holds a portal at event base + reason, with the right to send exits to it; this
-- is the portal's handler
pub record IsHandler (k : KernelState) (g handler : ℕ) : Type 0 where
  pub reason : ℕ
  pub q0 : ℕ
  pub q1 : ℕ
  pub exit : (view k g).state ≡ guest.Exit reason q0 q1
  pub portal : ℕ
  pub held : HoldsAt k (pd_of k g) (event_base k g + reason) event_right portal
  pub mtd : ℕ
  pub ip : ℕ
  pub leads : slice_get k.objects portal ≡ Some (Pt handler mtd ip)

-- after a list of turns it handles the exit of the virtual CPU that was sent last
pub record HandlesLast (k : KernelState) (turns : List ℕ) (g handler : ℕ) : Type 0 where
  pub sent : LastSent k turns g
  pub handles : IsHandler (run k sent.before) g handler
